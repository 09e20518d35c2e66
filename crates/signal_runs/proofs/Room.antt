-- How many bytes come of an input of calls at most: 256 for each call, and 11 for an input that ends inside one.
use Prim.Native.Nat.{ℕ, ◌+◌, ◌*◌, ◌<◌, ◌≤◌}
use mathlib.Core.Path.{◌≡◌, refl}
use mathlib.Core.Bool.{Bool, true, false, not}
use mathlib.Core.List.{List, [], ◌∷◌}
use lib.Dec.{eqb}
use lib.ListN.{length, length-append}
use native.Mathlib.Omega.{arith}
use Rattle.kit.proofs.Ladder.{decides_such}
use Rattle.wire.specs.Verdicts.{Verdict, verdict_accepted, verdict_refused}
use Rattle.frames.specs.Frames.{Framed, calls_of, short_tail}
use Rattle.frames.proofs.Splitting.{tail-most}
use Rattle.train_codes.specs.Refusals.{train_rows}
use Rattle.train_telegram.specs.Readings.{train_reading}
use Rattle.train_telegram.specs.declared.states.States.{States}
use Rattle.train_telegram.proofs.Refusals.{reading_refused}
use Rattle.signals.specs.Answers.{Updating}
use Rattle.signals.specs.Signals.{missed_by, fresh_signals, after_train_reading, update_of}
use Rattle.signals.specs.declared.Signals.{Signals}
use Rattle.signals_output.specs.Lines.{line_of, short_call_line}
use Rattle.signals_output.proofs.Room.{line_short}
use Rattle.signal_runs.specs.Runs.{no_telegram, updated_by, signal_lines_from, signal_lines_with, signal_lines}

-- the numbers of a line are bytes
abbrev Narrow : Updating → Type 0
Narrow updating = (updating.noted.number < 256) × (updating.signals.misses < 256)

-- R-22: the number of a refusal is that of one of the rows
verdict-small : (telegram : List ℕ) (number : ℕ) → (train_reading telegram).verdict ≡ verdict_refused number → number ≤ 17
unfolding train_rows
verdict-small telegram number e = decides_such (λ n. n ≤ 17) (train_rows telegram) number (omega arith) ((reading_refused telegram number).0 e)

reading_narrow : (signals : Signals) (verdict : Verdict) (states : States) → ((number : ℕ) → verdict ≡ verdict_refused number → number ≤ 17) → Narrow (after_train_reading signals verdict states)
unfolding missed_by
reading_narrow signals verdict_accepted states small = (omega arith, omega arith)
reading_narrow signals (verdict_refused number) states small = (omega (arith, small number refl), omega arith)

update-narrow : (signals : Signals) (present : Bool) (telegram : List ℕ) → Narrow (update_of signals present telegram)
unfolding update_of missed_by
update-narrow signals false telegram = (omega arith, omega arith)
update-narrow signals true telegram = reading_narrow signals (train_reading telegram).verdict (train_reading telegram).states (verdict-small telegram)

call_narrow : (signals : Signals) (call : Framed) → Narrow (updated_by signals call)
unfolding updated_by
call_narrow signals (size, bytes) = update-narrow signals (not (eqb size no_telegram)) bytes

lines-short : (calls : List Framed) (signals : Signals) → length (signal_lines_from signals calls) ≤ 256 * length calls
unfolding signal_lines_from
lines-short [] signals = omega arith
lines-short (call ∷ later) signals =
    let next = updated_by signals call in
    let narrow = call_narrow signals call in
    omega (
      arith,
      length-append (line_of next) (signal_lines_from next.signals later),
      line_short next narrow.0 narrow.1,
      lines-short later next.signals,
    )

short-long : length short_call_line ≡ 11
unfolding short_call_line
short-long = refl

-- S-13, S-14: a line for each call
pub signals-room : (input : List ℕ) → length (signal_lines input) ≤ 256 * length (calls_of no_telegram input) + 11
unfolding signal_lines signal_lines_with
signals-room input =
    omega (
      arith,
      length-append (signal_lines_from fresh_signals (calls_of no_telegram input)) (short_tail no_telegram short_call_line input),
      lines-short (calls_of no_telegram input) fresh_signals,
      tail-most no_telegram short_call_line input,
      short-long,
    )
