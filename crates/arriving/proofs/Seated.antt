-- The two ways of one order: it is live already, or it takes a place.
use Prim.Native.Nat.{ℕ}
use mathlib.Core.Path.{◌≡◌, refl}
use mathlib.Core.Bool.{Bool, true, false}
use lib.ListN.{set}
use Rattle.places.specs.Places.{lowest_free, is_live}
use Rattle.order_list.specs.declared.Order.{Order}
use Rattle.places.specs.declared.Place.{Place}
use Rattle.numbers.specs.Numbers.{next_number}
use Rattle.leaving.specs.Leaving.{body_in}
use Rattle.arriving.specs.Arriving.{seated}
use Rattle.arriving.specs.declared.Seats.{Seats}

pub seated-live : (resting : ℕ → Bool) (order : Order) (seats : Seats) → is_live seats.places order.number ≡ true → seated resting order seats ≡ seats
unfolding seated
seated-live resting order seats e = rw e refl

abbrev pub new_place : (ℕ → Bool) → Order → Seats → Place
new_place resting order seats =
    record { order = order.number; slot = record { number = next_number resting seats.places seats.last; body = body_in order } }

pub seated-new : (resting : ℕ → Bool) (order : Order) (seats : Seats) → is_live seats.places order.number ≡ false
    → seated resting order seats
    ≡ record {
      places = set seats.places (lowest_free seats.places) (new_place resting order seats);
      last = next_number resting seats.places seats.last;
    }
unfolding seated
seated-new resting order seats e = rw e refl
