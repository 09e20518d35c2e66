-- `hand_over`: on each sheet, what comes of what is left of the input, put after what is there so far, makes the whole, turn by turn; so does
-- the desk so far, taken on through what is left; it stays one that was made, no length is bare, and no more lists are counted than bytes are
-- taken.
use Prim.Native.Nat.{ℕ, ◌+◌, ◌-◌}
use mathlib.Core.Path.{◌≡◌, sym, ap, ap₂, ◌∙◌, subst⁻¹}
use mathlib.Core.List.{List, [], ◌++◌}
use lib.ListN.{length, take, drop, length-drop}
use native.Mathlib.Omega.{arith}
use Rattle.frames.specs.Calls.{next_size, CallGiven, ShortGiven}
use Rattle.frames.specs.Frames.{no_bare}
use Rattle.frames.specs.declared.calls.Calls.{Calls}
use Rattle.frames.proofs.Given.{size_where}
use Rattle.frames.proofs.Splitting.{size_bounds}
use Rattle.text.specs.Putting.{put_on}
use Rattle.text.specs.declared.sheets.Sheet.{Sheet}
use Rattle.text.proofs.Putting.{put_next, put_none}
use Rattle.desk.specs.Desks.{Accepting, base_rest, accept_of, Made, made_fresh, called}
use Rattle.desk_runs.specs.Runs.{table_for, line_for, lists_of, desk_from, tables_with, refused_lines_with, run_tables, refused_lines, desk_at_end}
use Rattle.desk_runs.proofs.Left.{left-more, left-none, left_end}
use Rattle.desk_runs.proofs.Outputs.{tables_more, lines_more, tables-none, lines-short, tables_end, lines_end}
use Rattle.desk_runs.proofs.hand_over.Goals as goal

-- what is to be put on a sheet, by another name
on_sheet : {these others : List ℕ} (sheet : Sheet) {whole : Sheet} → these ≡ others → put_on these sheet ≡ whole → put_on others sheet ≡ whole
on_sheet sheet same all = ap (λ bytes. put_on bytes sheet) (sym same) ∙ all

-- one list's part was put first
and_more : (first later : List ℕ) (sheet : Sheet) {next whole : Sheet} → next ≡ put_on first sheet → put_on (first ++ later) sheet ≡ whole → put_on later next ≡ whole
and_more first later sheet put all = ap (put_on later) put ∙ (put_next first later sheet ∙ all)

-- nothing more is put
and-none : (sheet : Sheet) {whole : Sheet} → put_on [] sheet ≡ whole → sheet ≡ whole
and-none sheet all = sym (put_none sheet) ∙ all

pub loop-list-init : goal.loop-list-init
unfolding run_tables refused_lines desk_at_end
loop-list-init c =
    let begun = c.into_iter-list-iterator.ensures.into_iter_gives in
    let rest : c.into_iter-list-iterator.result.rest.now ≡ c.args.input.now = ap (λ (i : Calls). i.rest.now) begun in
    let desk = c.fresh-desk.ensures in
    record {
      bare = ap (λ (i : Calls). i.bare) begun;
      made = subst⁻¹ Made desk made_fresh;
      few = omega (arith, ap length rest);
      tables = ap₂ (λ d r. put_on (tables_with d r) c.args.tables.now) desk rest;
      lines = ap₂ (λ d r. put_on (refused_lines_with d 0 r) c.args.lines.now) desk rest;
      left = ap₂ (λ d r. desk_from d (lists_of r)) desk rest;
    }

pub returns-in_default : goal.returns-in_default
returns-in_default c =
    let l = c.loop-list in
    let calls = l.list-iterator in
    let given : ShortGiven calls c.next.new.self = rw c.in_default.is at c.in-Some.ensures.steps in
    let rest = calls.rest.now in
    let size = next_size calls in
    let sized = size_where calls l.invariant.bare in (
      sym (left-none l.desk rest size sized given.part) ∙ l.invariant.left,
      and-none l.tables (on_sheet l.tables (tables-none l.desk l.lists rest size sized given.part) l.invariant.tables),
      c.put_short.ensures ∙ on_sheet l.lines (lines-short l.desk l.lists rest size sized given.part given.some) l.invariant.lines,
    )

-- a list has a length, so that there are no more lists than bytes
pub loop-list-preserved : goal.loop-list-preserved
loop-list-preserved c =
    let l = c.loop-list in
    let calls = l.list-iterator in
    let given : CallGiven calls c.in-Ok.list c.next.new.self = rw c.in-Ok.is at c.in-Some.ensures.steps in
    let rest = calls.rest.now in
    let size = next_size calls in
    let sized = size_where calls l.invariant.bare in
    let taken = c.take-desk.ensures in
    let accepting = ap (accept_of base_rest l.desk) given.own in
    let desk = taken.0 ∙ ap (λ (a : Accepting). a.desk) accepting in
    let answer = accept_of base_rest l.desk (take (size - 2) (drop 2 rest)) in
    let later = drop size rest in
    let tables = taken.1 ∙ ap (λ (a : Accepting). put_on (table_for a.verdict a.desk) l.tables) accepting in
    let lines = taken.2 ∙ ap (λ (a : Accepting). put_on (line_for a.verdict (l.lists + 1)) l.lines) accepting in
    record {
      bare = given.bare ∙ l.invariant.bare;
      made = subst⁻¹ Made desk (called l.invariant.made _);
      few = omega (arith, l.invariant.few, ap length given.left, length-drop size rest, size_bounds no_bare rest size sized given.whole);
      tables =
          on_sheet c.take-desk.new.tables (ap₂ tables_with (sym desk) (sym given.left))
          (and_more (table_for answer.verdict answer.desk) (tables_with answer.desk later) l.tables tables
          (on_sheet l.tables (tables_more l.desk l.lists rest size sized given.whole) l.invariant.tables));
      lines =
          on_sheet c.take-desk.new.lines (ap₂ (λ d r. refused_lines_with d (l.lists + 1) r) (sym desk) (sym given.left))
          (and_more (line_for answer.verdict (l.lists + 1)) (refused_lines_with answer.desk (l.lists + 1) later) l.lines lines
          (on_sheet l.lines (lines_more l.desk l.lists rest size sized given.whole) l.invariant.lines));
      left = ap₂ (λ d r. desk_from d (lists_of r)) desk given.left ∙ (sym (left-more l.desk rest size sized given.whole) ∙ l.invariant.left);
    }

pub returns : goal.returns
returns c =
    let l = c.loop-list in
    let rest = l.list-iterator.rest.now in
    let end = c.in-None.ensures.steps.0 in (
      sym (left_end l.desk rest end) ∙ l.invariant.left,
      and-none l.tables (on_sheet l.tables (tables_end l.desk l.lists rest end) l.invariant.tables),
      and-none l.lines (on_sheet l.lines (lines_end l.desk l.lists rest end) l.invariant.lines),
    )
