-- `Looked::listed`: where the number was found among the first twenty tells where it is listed, unless it was not found and there are more.
use Prim.Native.Nat.{ℕ, ◌<◌, ◌≤◌}
use mathlib.Core.List.{List}
use mathlib.Core.Path.{◌≡◌, sym, ap, ◌∙◌}
use native.Mathlib.Omega.{arith}
use borrow.Author.Rules.{rules}
use Rattle.std.specs.Prelude.{Some, None}
use Rattle.order_list.specs.Lists.{index_below, listed_at, numbers_of, found_at}
use Rattle.order_list.proofs.Found.{found-listed, listed_in, listed-past}
use Rattle.order_list.proofs.Searched.{below-some, below-none, some-below, none-below}
use Rattle.leaving.proofs.Looked.listed.Goals as goal

module _ (numbers list : List ℕ) (n o : ℕ) (same : numbers ≡ numbers_of list) where
  there : found_at numbers o ≡ listed_at list 20 o
  there = ap (λ (l : List ℕ). found_at l o) same ∙ found-listed list o

  early : (at : ℕ) → Some at ≡ index_below 20 (found_at numbers o) → at < n → Some at ≡ index_below n (listed_at list n o)
  early at e p =
      let (f, q) = some-below 20 (found_at numbers o) at e in
      let same : listed_at list n o ≡ at = listed_in list o 20 n (omega (arith, there, f, q)) (omega (arith, there, f)) ∙ sym (f ∙ there) in
      sym (ap (index_below n) same ∙ below-some n at p)

  late : n ≤ found_at numbers o → None ≡ index_below n (listed_at list n o)
  late p = sym (below-none n (listed_at list n o) (omega (arith, listed-past list o 20 n (omega (arith, there)))))

pub returns-in-Some : goal.returns-in-Some
returns-in-Some c = let a = c.args in early a.self.now.numbers a.self.now.list.now a.self.now.n a.number (search rules) _ c.in-Some.ensures c.if-at-self.true

pub returns-in_default : goal.returns-in_default
returns-in_default c =
    let a = c.args in
    let (f, q) = some-below 20 _ _ c.in-Some.ensures in
    late a.self.now.numbers a.self.now.list.now a.self.now.n a.number (search rules) (omega (arith, f, c.if-at-self.false))

pub returns-in_default-2 : goal.returns-in_default-2
returns-in_default-2 c =
    let a = c.args in
    late a.self.now.numbers a.self.now.list.now a.self.now.n a.number (search rules) (omega (arith, none-below 20 _ c.in-None.ensures, c.if-self-gt-SLOTS.false))
