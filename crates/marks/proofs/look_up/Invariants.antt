-- `look_up`: the loop marks one of the others after another.
use Rattle.condition.specs.Slots.{slot_count}
use Rattle.marks.specs.Lent.{Sorted, Seen}
use Rattle.marks.proofs.look_up.Given as goal

abbrev pub invariant-loop-i : goal.invariant-loop-i
invariant-loop-i l = Sorted l.memory slot_count l.i-index l.count l.others l.marks × Seen l.memory slot_count l.seen.flags
