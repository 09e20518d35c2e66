-- `clashes`: the loop leaves at the first slot whose number has its flag set.
use Prim.Native.Nat.{◌-◌}
use mathlib.Core.Path.{◌≡◌}
use Rattle.kit.specs.Loops.{any}
use Rattle.condition.specs.Slots.{slot_count}
use Rattle.picture.specs.Pictures.{is_twice, clashes}
use Rattle.memory.specs.Memory.{set_in}
use Rattle.picture.proofs.Lent.{Seen}
use Rattle.picture.proofs.clashes.Given as goal

abbrev pub invariant-loop-i : goal.invariant-loop-i
invariant-loop-i l = (clashes (set_in l.memory) ≡ any (is_twice (set_in l.memory)) l.i (slot_count - l.i)) × Seen l.memory l.i l.seen.flags
