-- The lines of an input, by the size of its first call: one line more, the line that says that the input is short, or none.
use Prim.Native.Nat.{ℕ, ◌-◌, ◌≤◌}
use mathlib.Core.Path.{◌≡◌, refl}
use mathlib.Core.List.{List, [], ◌++◌, append_assoc}
use lib.ListN.{length, take, drop}
use Rattle.kit.specs.Bytes.{word_at}
use Rattle.frames.specs.Frames.{Framed, whole_size, calls_of, short_tail}
use Rattle.frames.proofs.Splitting.{calls_more, tail_more, calls_none, tail-short, calls_end, tail-end}
use Rattle.signals.specs.declared.Signals.{Signals}
use Rattle.signals_output.specs.Lines.{line_of, short_call_line}
use Rattle.signal_runs.specs.Runs.{no_telegram, updated_by, signal_lines_from, signal_lines_with}

module _ (signals : Signals) (input : List ℕ) where
  module _ (size : ℕ) (sized : size ≡ whole_size no_telegram input) where
    -- with the call's length and bytes, as they stand there
    pub lines_more : (call : Framed) → 1 ≤ size → (word_at input 0, take (size - 2) (drop 2 input)) ≡ call
        → signal_lines_with signals input ≡ line_of (updated_by signals call) ++ signal_lines_with (updated_by signals call).signals (drop size input)
    unfolding signal_lines_with signal_lines_from
    lines_more call some e =
        rw (calls_more no_telegram input size sized some, tail_more no_telegram input size sized some short_call_line, e)
        (append_assoc (line_of (updated_by signals call)) (signal_lines_from (updated_by signals call).signals (calls_of no_telegram (drop size input))) (short_tail no_telegram short_call_line (drop size input)))

    pub lines-short : size ≡ 0 → 1 ≤ length input → signal_lines_with signals input ≡ short_call_line
    unfolding signal_lines_with signal_lines_from
    lines-short none some = rw (calls_none no_telegram input size sized none, tail-short no_telegram input size sized none short_call_line some) refl

  pub lines_end : length input ≡ 0 → signal_lines_with signals input ≡ []
  unfolding signal_lines_with signal_lines_from
  lines_end end = rw (calls_end no_telegram input end, tail-end no_telegram input end short_call_line) refl
