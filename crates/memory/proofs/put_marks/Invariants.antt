-- `put_marks`: after i turns the first i marks are put.
use Prim.Native.Nat.{◌+◌}
use mathlib.Core.List.{map}
use lib.ListN.{take}
use Rattle.kit.specs.Put.{Put}
use Rattle.memory.specs.Memory.{marks_from, flag_byte}
use Rattle.memory.proofs.put_marks.Given as goal

abbrev pub invariant-loop-i : goal.invariant-loop-i
invariant-loop-i l = Put l.initial.memory marks_from (take l.i (map flag_byte l.fn.marks)) l.memory (marks_from + l.i)
