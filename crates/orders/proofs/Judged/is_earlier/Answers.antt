-- `Judged::is_earlier`: by where the number was found among those of the list.
use Rattle.std.proofs.Common.{◌≡◌, ◌<◌, ◌≤◌, ℕ, List, false, Some, None, sym, ap, ◌∙◌, arith, rules, ltb}
use borrow.Author.Tests.{ltb-true, ltb-false}
use Rattle.kit.proofs.Cases.{on}
use Rattle.order_list.specs.Lists.{index_below, is_listed, numbers_of, found_at}
use Rattle.order_list.proofs.Found.{listed_early, listed-late}
use Rattle.order_list.proofs.Searched.{some-below, none-below}
use Rattle.orders.proofs.Judged.is_earlier.Goals as goal

module _ (list numbers : List ℕ) (j number : ℕ) (few : j < 20) (all : numbers ≡ numbers_of list) where
  same : found_at numbers number ≡ found_at (numbers_of list) number
  same = ap (λ (l : List ℕ). found_at l number) all

  there : (at : ℕ) → Some at ≡ index_below 20 (found_at numbers number) → ltb at j ≡ is_listed list j number
  there at e =
      let f : at ≡ found_at (numbers_of list) number = (some-below 20 (found_at numbers number) at e).0 ∙ same in
      on (ltb at j)
      (λ t. t ∙ sym (listed_early list number j at (omega arith) f (ltb-true at j t)))
      (λ t. t ∙ sym (listed-late list number j at (omega arith) f (ltb-false at j t)))

  nowhere : None ≡ index_below 20 (found_at numbers number) → false ≡ is_listed list j number
  nowhere e =
      let p : 20 ≤ found_at numbers number = none-below 20 (found_at numbers number) e in
      sym (listed-late list number j (found_at numbers number) (omega arith) same (omega arith))

pub returns-in-Some : goal.returns-in-Some
returns-in-Some c =
    let a = c.args in
    there a.self.now.list.now a.self.now.numbers a.j a.number c.requires (search rules) _ c.in-Some.ensures

pub returns-in-None : goal.returns-in-None
returns-in-None c =
    let a = c.args in
    nowhere a.self.now.list.now a.self.now.numbers a.j a.number c.requires (search rules) c.in-None.ensures
