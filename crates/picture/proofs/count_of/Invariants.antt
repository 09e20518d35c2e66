-- `count_of`: the loop counts the occupied slots.
use Prim.Native.Nat.{ℕ, ◌≤◌}
use mathlib.Core.List.{List}
use mathlib.Core.Path.{◌≡◌}
use Rattle.kit.specs.Loops.{how_many}
use Rattle.picture.proofs.Lent.{holds}
use Rattle.picture.proofs.count_of.Given as goal

abbrev pub count_to : List ℕ → ℕ → ℕ
count_to memory n = how_many (holds memory) n

abbrev pub invariant-loop-i : goal.invariant-loop-i
invariant-loop-i l = (l.count ≡ count_to l.memory l.i) × (l.count ≤ l.i)
