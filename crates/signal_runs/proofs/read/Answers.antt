-- `read`: the lines of what is left of the input, put after those so far, make the whole, turn by turn; one length is bare.
use Rattle.std.proofs.Common.{List, ℕ, drop, sym, ap, ap₂, ◌∙◌, rules}
use Rattle.frames.specs.Calls.{next_size, CallGiven, ShortGiven}
use Rattle.frames.specs.declared.calls.Calls.{Calls}
use Rattle.frames.proofs.Given.{size_where}
use Rattle.text.specs.Putting.{put_on}
use Rattle.text.proofs.Putting.{put_next, put_none, sheet_back}
use Rattle.signals_output.specs.Lines.{line_of}
use Rattle.signal_runs.specs.Runs.{updated_by, signal_lines_with, signal_lines}
use Rattle.signal_runs.proofs.Lines.{lines_more, lines-short, lines_end}
use Rattle.signal_runs.proofs.read.Goals as goal

pub loop-call-init : goal.loop-call-init
unfolding signal_lines
loop-call-init c =
    let begun = c.into_iter-call-iterator.ensures.into_iter_gives in
    record {
      bare = ap (λ (i : Calls). i.bare) begun;
      goes = ap₂ (λ s r. put_on (signal_lines_with s r) c.on-sheet.result) c.fresh-signals.ensures (ap (λ (i : Calls). i.rest.now) begun);
    }

pub returns-in_default : goal.returns-in_default
returns-in_default c =
    let l = c.loop-call in
    let given : ShortGiven l.call-iterator c.next.new.self = rw c.in_default.is at c.in-Some.ensures.steps in
    let short = lines-short l.signals l.call-iterator.rest.now (next_size l.call-iterator) (size_where l.call-iterator l.invariant.bare) given.part given.some in
    sheet_back c.args.lines c.put_short.new.line c.on-sheet.ensures.0 c.on-sheet.ensures.1
    (c.put_short.ensures ∙ (ap (λ lines. put_on lines l.sheet) (sym short) ∙ l.invariant.goes)) (search rules)

pub loop-call-preserved : goal.loop-call-preserved
loop-call-preserved c =
    let l = c.loop-call in
    let given : CallGiven l.call-iterator c.in-Ok.call c.next.new.self = rw c.in-Ok.is at c.in-Some.ensures.steps in
    let told = c.tell-signals.ensures in
    let call = c.in-Ok.call in
    let rest : List ℕ = l.call-iterator.rest.now in
    let next = updated_by l.signals (call.length, call.bytes.now) in
    let later = signal_lines_with next.signals (drop (next_size l.call-iterator) rest) in
    let more =
    lines_more l.signals rest (next_size l.call-iterator) (size_where l.call-iterator l.invariant.bare) (call.length, call.bytes.now) given.whole
    (ap₂ (λ w b. (w, b)) (sym given.announced) (sym given.own)) in
    record {
      bare = given.bare ∙ l.invariant.bare;
      goes =
          ap₂ (λ lines s. put_on lines s) (ap₂ signal_lines_with told.0 given.left) told.1
          ∙ (put_next (line_of next) later l.sheet ∙ (ap (λ lines. put_on lines l.sheet) (sym more) ∙ l.invariant.goes));
    }

pub returns : goal.returns
returns c =
    let l = c.loop-call in
    let end = lines_end l.signals l.call-iterator.rest.now c.in-None.ensures.steps.0 in
    sheet_back c.args.lines l.sheet c.on-sheet.ensures.0 c.on-sheet.ensures.1
    (sym (put_none l.sheet) ∙ (ap (λ lines. put_on lines l.sheet) (sym end) ∙ l.invariant.goes)) (search rules)
