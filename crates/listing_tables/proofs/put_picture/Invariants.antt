-- `put_picture`: after i turns the lines of the first i slots are put.
use Prim.Native.Nat.{ℕ, ◌*◌}
use mathlib.Core.List.{List}
use Rattle.kit.specs.Each.{each}
use Rattle.page.specs.Pages.{PagedOn}
use Rattle.memory.specs.Memory.{picture_in, marks_in}
use Rattle.listing_tables.specs.Tables.{entry_at}
use Rattle.listing_tables.proofs.put_picture.Given as goal

-- the lines of the slots that stand there
abbrev pub lines : List ℕ → ℕ → List ℕ
lines memory = entry_at (picture_in memory) (marks_in memory)

abbrev pub invariant-loop-i : goal.invariant-loop-i
invariant-loop-i l = PagedOn (37 * l.i) (each (lines l.memory) 0 l.i) l.initial.page l.page
