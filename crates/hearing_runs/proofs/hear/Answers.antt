-- `hear`: the lines of what is left of the input, put after those so far, make the whole, turn by turn; no length is bare.
use Rattle.std.proofs.Common.{sym, ap, ap₂, ◌∙◌, rules}
use Rattle.frames.specs.Calls.{next_size, CallGiven, ShortGiven}
use Rattle.frames.specs.declared.calls.Calls.{Calls}
use Rattle.frames.proofs.Given.{size_where}
use Rattle.text.specs.Putting.{put_on}
use Rattle.text.proofs.Putting.{put_next, put_none, sheet_back}
use Rattle.lister.specs.Hearings.{heard_by}
use Rattle.listener.specs.Lent.{listener_in}
use Rattle.listing_tables.specs.Tables.{heard_lines}
use Rattle.listener.proofs.Fresh.{zeros-fresh}
use Rattle.hearing_runs.specs.Runs.{short_telegram_line, lines_heard_by, lines_heard}
use Rattle.hearing_runs.proofs.Lines.{lines_more, lines-short, lines_end}
use Rattle.hearing_runs.proofs.hear.Goals as goal

pub loop-telegram-init : goal.loop-telegram-init
unfolding lines_heard
loop-telegram-init c =
    let begun = c.into_iter-telegram-iterator.ensures.into_iter_gives in
    record {
      bare = ap (λ (i : Calls). i.bare) begun;
      goes = ap₂ (λ h r. put_on (lines_heard_by h r) c.on-sheet.result) zeros-fresh (ap (λ (i : Calls). i.rest.now) begun);
    }

pub returns-in_default : goal.returns-in_default
unfolding short_telegram_line
returns-in_default c =
    let l = c.loop-telegram in
    let given : ShortGiven l.telegram-iterator c.next.new.self = rw c.in_default.is at c.in-Some.ensures.steps in
    let short = lines-short (listener_in l.memory) l.telegram-iterator.rest.now (next_size l.telegram-iterator) (size_where l.telegram-iterator l.invariant.bare) given.part given.some in
    sheet_back c.args.lines c.put_words.new.self c.on-sheet.ensures.0 c.on-sheet.ensures.1
    (c.put_words.ensures ∙ (ap (λ lines. put_on lines l.sheet) (sym short) ∙ l.invariant.goes)) (search rules)

pub loop-telegram-preserved : goal.loop-telegram-preserved
unfolding heard_lines listener_in
loop-telegram-preserved c =
    let l = c.loop-telegram in
    let given : CallGiven l.telegram-iterator c.in-Ok.telegram c.next.new.self = rw c.in-Ok.is at c.in-Some.ensures.steps in
    let rest = l.telegram-iterator.rest.now in
    let meant = c.hear_in-answer.ensures.meant ∙ ap (heard_by (listener_in l.memory)) given.own in
    let more = lines_more (listener_in l.memory) rest (next_size l.telegram-iterator) (size_where l.telegram-iterator l.invariant.bare) given.whole in
    let one = c.put_heard.ensures ∙ ap (λ heard. put_on (heard_lines heard) l.sheet) meant in
    record {
      bare = given.bare ∙ l.invariant.bare;
      goes =
          ap₂ put_on (ap₂ lines_heard_by (ap (λ h. h.listener) meant) given.left) one
          ∙ (put_next _ _ l.sheet ∙ (ap (λ lines. put_on lines l.sheet) (sym more) ∙ l.invariant.goes));
    }

pub returns : goal.returns
returns c =
    let l = c.loop-telegram in
    let end = lines_end (listener_in l.memory) l.telegram-iterator.rest.now c.in-None.ensures.steps.0 in
    sheet_back c.args.lines l.sheet c.on-sheet.ensures.0 c.on-sheet.ensures.1
    (sym (put_none l.sheet) ∙ (ap (λ lines. put_on lines l.sheet) (sym end) ∙ l.invariant.goes)) (search rules)
