-- `put_four`: each turn puts one slot.
use mathlib.Core.Path.{◌≡◌}
use Rattle.hand.specs.Lent.{four_in}
use Rattle.hand.proofs.put_four.Given as goal

abbrev pub invariant-loop-k : goal.invariant-loop-k
invariant-loop-k l = l.memory ≡ four_in l.telegram l.i l.initial.memory l.k
