-- What comes of a whole input of calls: every line that the program read_signals writes.
use Rattle.std.specs.Prelude.{ℕ, not, List, [], ◌∷◌, ◌++◌, eqb}
use Rattle.frames.specs.Frames.{Framed, calls_of, short_tail}
use Rattle.signals.specs.Answers.{Updating}
use Rattle.signals.specs.Signals.{fresh_signals, update_of}
use Rattle.signals.specs.declared.Signals.{Signals}
use Rattle.signals_output.specs.Lines.{line_of, short_call_line}

-- the length of a call with no telegram; nothing follows it
abbrev pub no_telegram : ℕ
no_telegram = 0xFFFF

-- S-13, S-14: the answer to a call and the next record
unfoldable pub updated_by : Signals → Framed → Updating
updated_by signals (size, bytes) = update_of signals (not (eqb size no_telegram)) bytes

-- a line for each call, which finds the record as the one before it left it
unfoldable pub signal_lines_from : Signals → List Framed → List ℕ
signal_lines_from signals [] = []
signal_lines_from signals (call ∷ later) = line_of (updated_by signals call) ++ signal_lines_from (updated_by signals call).signals later

-- the lines of all calls that the input has whole, and that of an input that ends inside one
unfoldable pub signal_lines_with : Signals → List ℕ → List ℕ
signal_lines_with signals input = signal_lines_from signals (calls_of no_telegram input) ++ short_tail no_telegram short_call_line input

-- S-17: from a fresh record
unfoldable pub signal_lines : List ℕ → List ℕ
signal_lines input = signal_lines_with fresh_signals input
