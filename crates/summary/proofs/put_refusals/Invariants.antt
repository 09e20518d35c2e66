-- `put_refusals`: after each turn the lines of the numbers so far are put.
use mathlib.Core.Path.{◌≡◌}
use Rattle.kit.specs.Each.{each}
use Rattle.text.specs.Putting.{put_on}
use Rattle.summary.specs.Summaries.{refusal_at}
use Rattle.summary.proofs.put_refusals.Given as goal

abbrev pub invariant-loop-number : goal.invariant-loop-number
invariant-loop-number l = l.sheet ≡ put_on (each (refusal_at l.tally.refused) 0 l.number) l.initial.sheet
