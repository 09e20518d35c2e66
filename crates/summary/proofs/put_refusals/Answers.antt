-- `put_refusals`: after each turn the lines of the numbers so far are put.
use mathlib.Core.Path.{◌≡◌, ap, sym, ◌∙◌}
use borrow.Author.Rules.{rules}
use Rattle.kit.specs.Each.{each}
use Rattle.text.specs.Putting.{put_on}
use Rattle.text.proofs.Putting.{put_none, put_each}
use Rattle.summary.specs.Summaries.{refusal_at, refusal_parts}
use Rattle.summary.proofs.put_refusals.Goals as goal

pub loop-number-init : goal.loop-number-init
unfolding each
loop-number-init c = sym (put_none c.args.sheet.now)

pub loop-number-preserved : goal.loop-number-preserved
loop-number-preserved c =
    let l = c.loop-number in
    let line = refusal_at c.args.tally.now.refused in
    c.put_refusal.ensures ∙ (ap (put_on (line l.number)) l.invariant ∙ put_each line l.number c.args.sheet.now)

pub returns : goal.returns
unfolding refusal_parts
returns c =
    let all : c.loop-number.number ≡ 16 = search rules in
    c.loop-number.invariant ∙ ap (λ n. put_on (each (refusal_at c.args.tally.now.refused) 0 n) c.args.sheet.now) all
