-- `has_number`: one of the twenty places has it, or none does.
use Prim.Native.Nat.{ℕ, ◌<◌}
use mathlib.Core.Path.{◌≡◌, sym, subst}
use mathlib.Core.Bool.{Bool, true, false}
use mathlib.Core.List.{List}
use lib.Dec.{eqb}
use lib.ListN.{length, get_or}
use native.Mathlib.Omega.{arith}
use borrow.Author.Rules.{rules}
use borrow.Author.Tests.{tests}
use Rattle.std.specs.Bool.{MatchBool}
use Rattle.std.specs.List.{HoldsAt, AllWithin}
use Rattle.std.proofs.lemmas.Iterator.{cases_from_any, YieldsList-from_slice}
use Rattle.kit.specs.Loops.{any}
use Rattle.kit.proofs.Loops.{scan-none, any_when}
use Rattle.places.specs.Places.{free_place}
use Rattle.places.specs.declared.Place.{Place}
use Rattle.numbers.specs.Numbers.{has_number}
use Rattle.numbers.proofs.has_number.Goals as goal

module _ {A : Type 0} (test : A → Bool) (xs : List A) (d : A) where
  told : (answer : Bool)
      → MatchBool answer ((k : ℕ) × (k < length xs) × HoldsAt (λ x. test x ≡ true) xs k) (AllWithin (λ x. test x ≡ false) xs 0 (length xs))
      → answer ≡ any (λ i. test (get_or xs i d)) 0 (length xs)
  told true (k, p, t) = sym (any_when (λ i. test (get_or xs i d)) 0 (length xs) k (omega arith) (omega arith) (t d))
  told false none = sym (scan-none (λ i. test (get_or xs i d)) (λ i. true) false 0 (length xs) (λ j p q. none j d p (omega arith)))

pub returns : goal.returns
unfolding has_number
returns c =
    let places : List Place = c.args.places in
    let has : Place → Bool = λ p. eqb p.slot.number c.args.number in
    let twenty : length places ≡ 20 = search rules in
    subst (λ n. c.any.result ≡ any (λ i. has (get_or places i free_place)) 0 n) twenty
    (told has places free_place c.any.result
    (cases_from_any _ _ _ (λ (p : Place). has p ≡ true) (λ (p : Place). has p ≡ false) c.any.ensures.ran (YieldsList-from_slice places cc)
    (λ x q k. search (rules, tests)) (λ x q k. search (rules, tests))))
