-- `seat_all`: the fold so far, and the orders of its places.
use Rattle.std.proofs.Common.{◌≡◌, length}
use Rattle.condition.specs.Slots.{slot_count}
use Rattle.places.specs.Places.{orders_of}
use Rattle.resting.specs.Rests.{rests_in}
use Rattle.arriving.specs.Arriving.{seated_all}
use Rattle.arriving.proofs.seat_all.Given as goal

abbrev pub invariant-loop-j : goal.invariant-loop-j
invariant-loop-j l =
    record {
      seats : l.seats ≡ seated_all (rests_in l.at_rest) l.list l.fn.first l.j;
      live : l.live ≡ orders_of l.seats.places;
      twenty : length l.seats.places ≡ slot_count;
    }
