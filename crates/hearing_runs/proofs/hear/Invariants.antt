-- `hear`: the lines of what is left of the input, put after those so far, make the whole, turn by turn; no length is bare.
use mathlib.Core.Path.{◌≡◌}
use Rattle.std.specs.Prelude.{None}
use Rattle.text.specs.Putting.{put_on}
use Rattle.listener.specs.Lent.{listener_in}
use Rattle.hearing_runs.specs.Runs.{lines_heard_by, lines_heard}
use Rattle.hearing_runs.proofs.hear.Given as goal

abbrev pub invariant-loop-telegram : goal.invariant-loop-telegram
invariant-loop-telegram l = record {
  bare : l.telegram-iterator.bare ≡ None;
  goes : put_on (lines_heard_by (listener_in l.memory) l.telegram-iterator.rest.now) l.sheet ≡ put_on (lines_heard l.fn.input) l.initial.sheet;
}
