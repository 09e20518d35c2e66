-- `leave`: the places so far, and the entries of this step so far in front of those that were there.
use Prim.Native.Nat.{ℕ, ◌<◌, ◌≤◌}
use mathlib.Core.List.{map}
use mathlib.Core.Path.{◌≡◌}
use Rattle.kit.specs.Fill.{Filled}
use Rattle.condition.specs.Slots.{slot_count}
use Rattle.places.specs.Places.{free_place}
use Rattle.resting.specs.Rests.{none_ended, ended_at}
use Rattle.leaving.specs.Leaving.{kept_among, ended_among}
use Rattle.leaving.proofs.leave.Given as goal

abbrev pub invariant-loop-i : goal.invariant-loop-i
invariant-loop-i l =
    record {
      kept : Filled free_place (map (kept_among l.list l.n) l.place-items) l.i l.kept;
      ended : Filled none_ended (ended_among l.list l.n l.step l.place-items l.fn.ended) l.i l.next;
      behind : (j : ℕ) → slot_count ≤ j → j < 160 → ended_at l.next j ≡ ended_at (ended_among l.list l.n l.step l.place-items l.fn.ended) j;
    }
