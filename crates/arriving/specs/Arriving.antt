-- Who is new in a step: document 01, "The list and the step", its third point. A list is looked at as far as its first n orders;
-- those of a desk's list are all that it has.
use Rattle.std.specs.Prelude.{ℕ, Bool, cond, List, set}
use Rattle.kit.specs.Loops.{fold}
use Rattle.order_list.specs.Lists.{order_at}
use Rattle.order_list.specs.declared.Order.{Order}
use Rattle.places.specs.Places.{lowest_free, is_live}
use Rattle.numbers.specs.Numbers.{next_number}
use Rattle.leaving.specs.Leaving.{body_in}
use Rattle.arriving.specs.declared.Seats.{Seats}

-- D-08, D-09: a new order takes the lowest free slot and the first permitted number after the last one given; D-16: new is every order
-- that is not live, one that ended before too
unfoldable pub seated : (ℕ → Bool) → Order → Seats → Seats
seated resting order seats =
    let number = next_number resting seats.places seats.last in
    cond (is_live seats.places order.number) seats
    (record {
      places = set seats.places (lowest_free seats.places) (record { order = order.number; slot = record { number = number; body = body_in order } });
      last = number;
    })

-- D-08: in list order
unfoldable pub seated_all : (ℕ → Bool) → List ℕ → Seats → ℕ → Seats
seated_all resting list seats n = fold (λ j. seated resting (order_at list j)) seats n
