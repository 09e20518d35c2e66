-- `sort_out`: the loop sorts one slot after another.
use Rattle.marks.specs.Lent.{Sorted}
use Rattle.marks.proofs.sort_out.Given as goal

abbrev pub invariant-loop-i : goal.invariant-loop-i
invariant-loop-i l = Sorted l.memory l.i 0 l.count l.others l.marks
