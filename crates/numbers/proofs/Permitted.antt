-- What is so of the next number, where at most 220 numbers may rest: Search.antt `permitted_exists` says that one is permitted.
use Prim.Native.Nat.{ℕ, ◌<◌, ◌≤◌}
use mathlib.Core.Path.{◌≡◌, sym, subst}
use mathlib.Core.Bool.{Bool, true, false}
use mathlib.Core.List.{List}
use lib.Dec.{ltb}
use lib.ListN.{length}
use native.Mathlib.Omega.{arith}
use borrow.Author.Tests.{ltb-true, ltb-false}
use Rattle.kit.specs.Member.{member}
use Rattle.kit.proofs.Cases.{on, clash, given}
use Rattle.places.specs.Places.{place_at}
use Rattle.condition.specs.Slots.{slot_count}
use Rattle.places.specs.declared.Place.{Place}
use Rattle.numbers.specs.Numbers.{is_permitted, number_after, next_number}
use Rattle.numbers.proofs.Search as Search
use Rattle.numbers.proofs.Search.{number-none, permitted-only, search_ends, FirstPermitted}

module _ (resting : ℕ → Bool) (kept : List ℕ) (covered : (n : ℕ) → resting n ≡ true → member n kept ≡ true) (few : length kept ≤ 220)
    (places : List Place) (twenty : length places ≡ slot_count) (last : ℕ) where
  permitted_exists : (i : ℕ) × (i < 255) × (is_permitted resting places (number_after last i) ≡ true)
  permitted_exists = Search.permitted_exists resting kept covered few places twenty last

  -- a search that has passed k others has not passed all
  pub others-few : (k : ℕ) → ((j : ℕ) → j < k → is_permitted resting places (number_after last j) ≡ false) → k < 255
  others-few k before =
      given permitted_exists
      (λ (i, p, e). on (ltb i k) (λ t. absurd (clash e (before i (ltb-true i k t)))) (λ t. omega (arith, ltb-false i k t)))

  pub search_found : FirstPermitted resting places last (next_number resting places last)
  search_found = given permitted_exists (λ (i, p, e). search_ends resting places last i p e)

  -- D-09: the search finds it
  pub number-permitted : is_permitted resting places (next_number resting places last) ≡ true
  number-permitted =
      given search_found (λ found. subst (λ (n : ℕ). is_permitted resting places n ≡ true) (sym found.after) found.permitted)

  -- D-10: a number from 1 to 255
  pub number-range : (1 ≤ next_number resting places last) × (next_number resting places last ≤ 255)
  number-range = given search_found (λ found. (omega (arith, found.after), omega (arith, found.after)))

  -- D-12: no live order has it, and it does not rest
  pub number-idle : (i : ℕ) → i < slot_count → (place_at places i).slot.number ≡ next_number resting places last → ⊥
  number-idle i p e =
      number-none places (next_number resting places last) i (permitted-only resting places (next_number resting places last) number-permitted).0 p e

  pub number-rested : resting (next_number resting places last) ≡ false
  number-rested = (permitted-only resting places (next_number resting places last) number-permitted).1
