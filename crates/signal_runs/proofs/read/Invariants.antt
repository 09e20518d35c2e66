-- `read`: the lines of what is left of the input, put after those so far, make the whole, turn by turn; one length is bare.
use mathlib.Core.Path.{◌≡◌}
use Rattle.std.specs.Prelude.{Some}
use Rattle.text.specs.Putting.{put_on}
use Rattle.signal_runs.specs.Runs.{no_telegram, signal_lines_with, signal_lines}
use Rattle.signal_runs.proofs.read.Given as goal

abbrev pub invariant-loop-call : goal.invariant-loop-call
invariant-loop-call l = record {
  bare : l.call-iterator.bare ≡ Some no_telegram;
  goes : put_on (signal_lines_with l.signals l.call-iterator.rest.now) l.sheet ≡ put_on (signal_lines l.fn.input) l.initial.sheet;
}
