-- What the search of an order's place answers, and that of the lowest free place; and that the first is the search among the orders of
-- the places.
use Prim.Native.Nat.{ℕ, ◌<◌, ◌≤◌}
use mathlib.Core.Path.{◌≡◌, refl}
use mathlib.Core.Bool.{Bool, true, false}
use mathlib.Core.List.{List}
use lib.Dec.{eqb}
use lib.ListN.{length}
use native.Mathlib.Omega.{arith}
use borrow.Author.Tests.{eqb-true, eqb-false, eq-eqb, lt-ltb, le-ltb}
use Rattle.kit.proofs.Cases.{given}
use Rattle.kit.proofs.Loops.{find-before, found-there, found_none, found_when}
use Rattle.kit.proofs.Maps.{map_at}
use Rattle.order_list.specs.Lists.{found_at}
use Rattle.order_list.proofs.Found.{found_as}
use Rattle.condition.specs.Slots.{slot_count}
use Rattle.places.specs.Places.{free_place, place_at, orders_of, place_of, is_free, lowest_free, is_live}
use Rattle.places.specs.declared.Place.{Place}

module _ (places : List Place) (o : ℕ) where
  pub live-there : is_live places o ≡ true → (place_of places o < slot_count) × ((place_at places (place_of places o)).order ≡ o)
  unfolding place_of
  live-there h = given (found-there (λ i. eqb (place_at places i).order o) slot_count h) (λ (p, e). (p, eqb-true _ o e))

  pub live-none : (i : ℕ) → is_live places o ≡ false → i < slot_count → (place_at places i).order ≡ o → ⊥
  unfolding place_of
  live-none i h p = eqb-false _ o (found_none (λ k. eqb (place_at places k).order o) slot_count i h p)

  pub live_when : (i : ℕ) → i < slot_count → (place_at places i).order ≡ o → is_live places o ≡ true
  unfolding place_of
  live_when i p e = found_when (λ k. eqb (place_at places k).order o) slot_count i p (eq-eqb _ o e)

  pub found-live : length places ≡ slot_count → found_at (orders_of places) o ≡ place_of places o
  unfolding place_of
  found-live twenty =
      found_as (orders_of places) (λ i. (place_at places i).order) (λ i p. map_at (λ (place : Place). place.order) places i free_place 0 (omega (arith, twenty))) o

-- ---- the lowest free place (D-08)

module _ (places : List Place) where
  abbrev free : ℕ → Bool
  free i = is_free (place_at places i)

  -- order 0 stands for none, so the search of its place is this one
  pub lowest_free_lem : place_of places 0 ≡ lowest_free places
  unfolding place_of
  lowest_free_lem = refl

  pub free-there : lowest_free places < slot_count → (place_at places (lowest_free places)).order ≡ 0
  free-there p = eqb-true _ 0 (found-there free slot_count (lt-ltb (lowest_free places) slot_count p)).1

  pub free-before : (i : ℕ) → i < lowest_free places → 1 ≤ (place_at places i).order
  free-before i p = omega (arith, eqb-false (place_at places i).order 0 (find-before free slot_count i p))

  pub free-none : slot_count ≤ lowest_free places → (i : ℕ) → i < slot_count → 1 ≤ (place_at places i).order
  free-none full i p = omega (arith, eqb-false (place_at places i).order 0 (found_none free slot_count i (le-ltb (lowest_free places) slot_count full) p))
