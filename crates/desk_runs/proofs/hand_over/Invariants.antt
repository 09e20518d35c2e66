-- `hand_over`: on each sheet, what comes of what is left of the input, put after what is there so far, makes the whole, turn by turn; so does
-- the desk so far, taken on through what is left; it stays one that was made, no length is bare, and no more lists are counted than bytes are
-- taken.
use Prim.Native.Nat.{◌+◌, ◌≤◌}
use mathlib.Core.Path.{◌≡◌}
use lib.ListN.{length}
use Rattle.std.specs.Prelude.{None}
use Rattle.text.specs.Putting.{put_on}
use Rattle.desk.specs.Desks.{Made}
use Rattle.desk_runs.specs.Runs.{lists_of, desk_from, tables_with, refused_lines_with, run_tables, refused_lines, desk_at_end}
use Rattle.desk_runs.proofs.hand_over.Given as goal

abbrev pub invariant-loop-list : goal.invariant-loop-list
invariant-loop-list l = record {
  bare : l.list-iterator.bare ≡ None;
  made : Made l.desk;
  few : l.lists + length l.list-iterator.rest.now ≤ length l.fn.input;
  tables : put_on (tables_with l.desk l.list-iterator.rest.now) l.tables ≡ put_on (run_tables l.fn.input) l.initial.tables;
  lines : put_on (refused_lines_with l.desk l.lists l.list-iterator.rest.now) l.lines ≡ put_on (refused_lines l.fn.input) l.initial.lines;
  left : desk_from l.desk (lists_of l.list-iterator.rest.now) ≡ desk_at_end l.fn.input;
}
