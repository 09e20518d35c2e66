-- `found_at`: below i, a bit is set where the number stands; from i on, none.
use Rattle.std.proofs.Common.{◌≡◌, ℕ, ◌<◌, ◌≤◌, eqb, get_or}
use Rattle.std.specs.Int.{bit_at}
use mir.Val.{bool_byte}
use Rattle.order_list.proofs.found_at.Given as goal

abbrev pub invariant-loop-i : goal.invariant-loop-i
invariant-loop-i l =
    record {
      told : (k : ℕ) → k < l.i → bit_at l.bits k ≡ bool_byte (eqb (get_or l.numbers k 0) l.number);
      blank : (k : ℕ) → l.i ≤ k → bit_at l.bits k ≡ 0;
    }
