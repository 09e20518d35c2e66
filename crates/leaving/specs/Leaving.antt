-- Who stays and who ends in a step: document 01, "The list and the step", its second point and the ends of the fourth. A list is
-- looked at as far as its first n orders; those of a desk's list are all that it has.
use Rattle.std.specs.Prelude.{ℕ, Bool, cond, not, ◌&&◌, List, ◌++◌, map, length, take}
use Rattle.condition.specs.Slots.{body_of}
use Rattle.condition.specs.declared.slots.Body.{Body}
use Rattle.order_list.specs.Lists.{order_at, listed_at, is_listed}
use Rattle.order_list.specs.declared.Order.{Order}
use Rattle.places.specs.Places.{free_place, is_free}
use Rattle.places.specs.declared.Place.{Place}
use Rattle.resting.specs.Rests.{none_ended}
use Rattle.resting.specs.declared.Ended.{Ended}
use Rattle.leaving.specs.declared.Remains.{Remains}

-- D-06, D-07: the order of this place is in the list
abbrev pub stays_among : List ℕ → ℕ → Place → Bool
stays_among list n place = is_listed list n place.order

-- D-07, K-11, CR1-2: the words that the list has for it
abbrev pub body_in : Order → Body
body_in order = body_of order.kind order.first order.second

-- D-07: an order present keeps its slot and number and takes the new words; D-06: the slot of one absent is free
unfoldable pub kept_among : List ℕ → ℕ → Place → Place
kept_among list n place =
    cond (stays_among list n place)
    (record {
      order = place.order;
      slot = record { number = place.slot.number; body = body_in (order_at list (listed_at list n place.order)) };
    })
    free_place

-- D-06: a live order absent from the list has ended
abbrev pub ends : List ℕ → ℕ → Place → Bool
ends list n place = not (is_free place) && not (stays_among list n place)

-- D-06, D-12: its number, with the step in which it ended
unfoldable pub ended_entry : List ℕ → ℕ → ℕ → Place → Ended
ended_entry list n step place = cond (ends list n place) (record { number = place.slot.number; step = step }) none_ended

-- A-05, A-40: the numbers that ended in this step stand in front, by slot, and the oldest twenty are dropped
unfoldable pub ended_among : List ℕ → ℕ → ℕ → List Place → List Ended → List Ended
ended_among list n step places ended = take (length ended) (map (ended_entry list n step) places ++ ended)

-- D-06, D-07, D-12: what the step leaves: the places of those that stay, and the numbers that have ended
unfoldable pub remains_of : List ℕ → ℕ → ℕ → List Place → List Ended → Remains
remains_of list n step places ended = record { places = map (kept_among list n) places; ended = ended_among list n step places ended }
