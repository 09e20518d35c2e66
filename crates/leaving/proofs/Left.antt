-- Who stays and who ends in a step: what becomes of a place, and where the numbers that ended stand.
use Prim.Native.Nat.{ℕ, ◌+◌, ◌<◌, ◌≤◌}
use mathlib.Core.Path.{◌≡◌, refl, ap, ◌∙◌, subst}
use mathlib.Core.Bool.{true, false}
use mathlib.Core.List.{List, ◌++◌, map}
use lib.ListN.{length, get_or, length-append, length-map, length-take, get_or-append}
use lib.Seq.{get_or-take, get_or-append-add}
use native.Mathlib.Omega.{arith}
use lib.Dec.{eqb}
use borrow.Author.Tests.{eqb-false, ne_eqb}
use Rattle.kit.proofs.Cases.{on}
use Rattle.kit.proofs.Maps.{map_at}
use Rattle.order_list.specs.Lists.{order_at, listed_at}
use Rattle.places.specs.Places.{free_place, place_at}
use Rattle.condition.specs.Slots.{slot_count}
use Rattle.places.specs.declared.Place.{Place}
use Rattle.resting.specs.Rests.{none_ended, ended_at}
use Rattle.resting.specs.declared.Ended.{Ended}
use Rattle.leaving.specs.Leaving.{stays_among, body_in, kept_among, ended_entry, ended_among}

-- ---- places

module _ (list : List ℕ) (n : ℕ) (place : Place) where
  -- D-07: an order present keeps its slot and number and takes the new words
  pub kept-stays : stays_among list n place ≡ true
      → kept_among list n place
      ≡ record {
        order = place.order;
        slot = record { number = place.slot.number; body = body_in (order_at list (listed_at list n place.order)) };
      }
  unfolding kept_among
  kept-stays e = rw e refl

  -- D-06: the slot of an absent one is free
  pub kept-ends : stays_among list n place ≡ false → kept_among list n place ≡ free_place
  unfolding kept_among
  kept-ends e = rw e refl

  -- D-07: one that stays has not ended
  pub entry-stays : (step : ℕ) → stays_among list n place ≡ true → ended_entry list n step place ≡ none_ended
  unfolding ended_entry
  entry-stays step e = on (eqb place.order 0) (λ f. rw f refl) (λ f. rw (f, e) refl)

  -- D-06: a live order absent has ended
  pub entry-ends : (step : ℕ) → 1 ≤ place.order → stays_among list n place ≡ false → ended_entry list n step place ≡ record { number = place.slot.number; step = step }
  unfolding ended_entry
  entry-ends step p e = rw (ne_eqb place.order 0 (omega arith), e) refl

  -- and only such a one puts a number among those that ended
  pub entry-only : (step : ℕ) → 1 ≤ (ended_entry list n step place).number
      → (1 ≤ place.order) × (stays_among list n place ≡ false) × (ended_entry list n step place ≡ record { number = place.slot.number; step = step })
  unfolding ended_entry
  entry-only step p =
      on (eqb place.order 0)
      (λ e. absurd (omega (arith, rw e at p)))
      (λ e.
      on (stays_among list n place)
      (λ f. absurd (omega (arith, rw (e, f) at p)))
      (λ f. (omega (arith, eqb-false place.order 0 e), f, rw (e, f) refl)))

-- ---- ended numbers: twenty new ones in front, and the others twenty further back

module _ (list : List ℕ) (n step : ℕ) (places : List Place) (ended : List Ended) (twenty : length places ≡ slot_count) where
  abbrev row : List Ended
  row = map (ended_entry list n step) places

  row-long : length row ≡ slot_count
  row-long = length-map places (ended_entry list n step) ∙ twenty

  pub ended-long : length (ended_among list n step places ended) ≡ length ended
  unfolding ended_among
  ended-long =
      length-take (length ended) (row ++ ended)
      ∙ (let e : length (row ++ ended) ≡ slot_count + length ended = length-append row ended ∙ ap (λ k. k + length ended) row-long in
      rw e (omega arith))

  pub ended-now : (i : ℕ) → i < slot_count → i < length ended → ended_at (ended_among list n step places ended) i ≡ ended_entry list n step (place_at places i)
  unfolding ended_among
  ended-now i p q =
      get_or-take (length ended) (row ++ ended) i none_ended q
      ∙ (get_or-append row ended none_ended i (omega (arith, row-long)) ∙ map_at (ended_entry list n step) places i free_place none_ended (omega (arith, twenty)))

  pub ended-before : (i : ℕ) → slot_count + i < length ended → ended_at (ended_among list n step places ended) (slot_count + i) ≡ ended_at ended i
  unfolding ended_among
  ended-before i p =
      get_or-take (length ended) (row ++ ended) (slot_count + i) none_ended p
      ∙ subst (λ k. get_or (row ++ ended) (k + i) none_ended ≡ ended_at ended i) row-long (get_or-append-add row ended i none_ended)
