-- The places of a desk: document 01, "The list and the step", its points on slots.
use Rattle.std.specs.Prelude.{ℕ, Bool, List, map, eqb, ltb, get_or}
use Rattle.kit.specs.Loops.{find}
use Rattle.condition.specs.Slots.{slot_count, empty_slot}
use Rattle.places.specs.declared.Place.{Place}

-- D-04: a place that no order has
abbrev pub free_place : Place
free_place = record { order = 0; slot = empty_slot }

-- W-01: place i of the twenty
abbrev pub place_at : List Place → ℕ → Place
place_at places i = get_or places i free_place

-- A-01: the orders that have the twenty places, in their order; 0 of a free one
abbrev pub orders_of : List Place → List ℕ
orders_of places = map (λ (place : Place). place.order) places

-- A-01: the lowest place that an order has, or 20 where it has none
unfoldable pub place_of : List Place → ℕ → ℕ
place_of places order = find (λ i. eqb (place_at places i).order order) slot_count

-- D-06, D-08: no order has this place
abbrev pub is_free : Place → Bool
is_free place = eqb place.order 0

-- D-08: the lowest free slot, or 20 where none is free
abbrev pub lowest_free : List Place → ℕ
lowest_free places = find (λ i. is_free (place_at places i)) slot_count

-- A-01: an order is live: it has a place
abbrev pub is_live : List Place → ℕ → Bool
is_live places order = ltb (place_of places order) slot_count
