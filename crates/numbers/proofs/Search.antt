-- Which numbers a live order has, and that the search for the next one finds the first permitted number.
--
-- `permitted_exists` is what the search rests on (D-15): twenty numbers of places and at most 220 that may rest are fewer than 255,
-- so of the 255 numbers after the last one given one is none of them.
use Prim.Native.Nat.{ℕ, ◌<◌, ◌≤◌}
use mathlib.Core.Path.{◌≡◌, refl, sym, ◌∙◌, subst}
use mathlib.Core.Bool.{Bool, true, false}
use mathlib.Core.List.{List, ◌++◌, map}
use lib.Dec.{eqb}
use lib.ListN.{length-map, length, length-append}
use native.Mathlib.Omega.{arith}
use borrow.Author.Tests.{eqb-true, eq-eqb, not-true}
use Rattle.kit.specs.Loops.{find}
use Rattle.kit.specs.Member.{member}
use Rattle.kit.proofs.Cases.{on, clash, given, or_neither, and_both}
use Rattle.kit.proofs.Loops.{scan-at, find-before, found-there, found_when, any_none, any_some}
use Rattle.kit.proofs.Member.{member-map, member_append, pigeonhole}
use Rattle.places.specs.Places.{place_at, free_place}
use Rattle.condition.specs.Slots.{slot_count}
use Rattle.places.specs.declared.Place.{Place}
use Rattle.numbers.specs.Numbers.{has_number, is_permitted, number_after, next_number}

-- ---- the numbers of live orders (D-12)

pub number-none : (places : List Place) (n i : ℕ) → has_number places n ≡ false → i < slot_count → (place_at places i).slot.number ≡ n → ⊥
unfolding has_number
number-none places n i h p e =
    clash (eq-eqb (place_at places i).slot.number n e)
    (any_none (λ i. eqb (place_at places i).slot.number n) 0 slot_count h i (omega arith) (omega arith))

pub number-some : (places : List Place) (n : ℕ) → has_number places n ≡ true → (i : ℕ) × (i < slot_count) × ((place_at places i).slot.number ≡ n)
unfolding has_number
number-some places n h =
    given (any_some (λ i. eqb (place_at places i).slot.number n) 0 slot_count h)
    (λ (i, a, b, e). (i, omega arith, eqb-true (place_at places i).slot.number n e))

-- the numbers of twenty places cover those that live orders have
abbrev placed : List Place → List ℕ
placed places = map (λ (p : Place). p.slot.number) places

covers-placed : (places : List Place) → length places ≡ slot_count → (n : ℕ) → has_number places n ≡ true → member n (placed places) ≡ true
covers-placed places twenty n h =
    given (number-some places n h)
    (λ (i, p, same).
    subst (λ (m : ℕ). member m (placed places) ≡ true) same (member-map (λ (p : Place). p.slot.number) free_place places i (omega (arith, twenty))))

-- ---- the search

-- D-10, D-11: 255 numbers after the last one are all different
after_injective : (last i j : ℕ) → i < 255 → j < 255 → number_after last i ≡ number_after last j → i ≡ j
after_injective last i j p q e = omega arith

module _ (resting : ℕ → Bool) (places : List Place) where
  pub permitted_when : (n : ℕ) → has_number places n ≡ false → resting n ≡ false → is_permitted resting places n ≡ true
  permitted_when n a b = rw (a, b) refl

  pub permitted-only : (n : ℕ) → is_permitted resting places n ≡ true → (has_number places n ≡ false) × (resting n ≡ false)
  permitted-only n h = given (and_both _ _ h) (λ (a, b). (not-true _ a, not-true _ b))

  module _ (last : ℕ) where
    -- D-09: the first permitted number after the last one given
    pub number-first : (i : ℕ) → i < 255 → is_permitted resting places (number_after last i) ≡ true
        → ((j : ℕ) → j < i → is_permitted resting places (number_after last j) ≡ false) → next_number resting places last ≡ number_after last i
    unfolding next_number
    number-first i p e before =
        scan-at (λ others. is_permitted resting places (number_after last others)) (number_after last) 0 0 255 i (omega arith) (omega arith) e (λ j a b. before j b)

    -- D-09: a number is the first permitted one, after so many others that are not
    pub record FirstPermitted (number : ℕ) : Type 0 where
      pub others : ℕ
      pub few : others < 255
      pub after : number ≡ number_after last others
      pub permitted : is_permitted resting places (number_after last others) ≡ true
      pub passed : (j : ℕ) → j < others → is_permitted resting places (number_after last j) ≡ false

    -- where one of the 255 is permitted, the search ends at the first that is
    pub search_ends : (i : ℕ) → i < 255 → is_permitted resting places (number_after last i) ≡ true → FirstPermitted (next_number resting places last)
    search_ends i p e =
        let test : ℕ → Bool = λ others. is_permitted resting places (number_after last others) in
        given (found-there test 255 (found_when test 255 i p e))
        (λ (q, t).
        record {
          others = find test 255;
          few = q;
          after = number-first (find test 255) q t (λ j r. find-before test 255 j r);
          permitted = t;
          passed = λ j r. find-before test 255 j r;
        })

module _ (resting : ℕ → Bool) (kept : List ℕ) (covered : (n : ℕ) → resting n ≡ true → member n kept ≡ true) (few : length kept ≤ 220)
    (places : List Place) (twenty : length places ≡ slot_count) (last : ℕ) where
  -- D-15, A-07: there always is a permitted number
  pub permitted_exists : (i : ℕ) × (i < 255) × (is_permitted resting places (number_after last i) ≡ true)
  permitted_exists =
      given
      (pigeonhole (number_after last) 255 (after_injective last) (placed places ++ kept)
      (omega (arith, length-append (placed places) kept, length-map places (λ (p : Place). p.slot.number), twenty, few)))
      (λ (i, p, out).
      let n : ℕ = number_after last i in
      given (or_neither (member n (placed places)) (member n kept) (sym (member_append n (placed places) kept) ∙ out))
      (λ (a, b). (
        i,
        p,
        permitted_when resting places n
            (on (has_number places n) (λ t. absurd (clash (covers-placed places twenty n t) a)) (λ t. t))
            (on (resting n) (λ t. absurd (clash (covered n t) b)) (λ t. t)),
      )))
