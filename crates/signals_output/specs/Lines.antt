-- What the program read_signals writes: one line a call, words and numbers with single blanks between them.
use Rattle.std.specs.Prelude.{ℕ, List, ◌∷◌, ◌++◌, get_or}
use Rattle.kit.specs.Each.{each}
use Rattle.kit.specs.Text.{ascii}
use Rattle.text.specs.Decimals.{decimal}
use Rattle.text.specs.Words.{blank, refused_word}
use Rattle.state_words.specs.Words.{cab_word, brake_word, isolation_word, traction_word}
use Rattle.train_codes.specs.declared.Isolation.{Isolation}
use Rattle.train_codes.specs.declared.Isolation.TheVariants as Isolation'
use Rattle.train_telegram.specs.declared.states.States.{States}
use Rattle.signals.specs.Answers.{Receipt, receipt_accepted, receipt_missed, receipt_refused, Noted, Updating}

-- S-13, S-14: the words of an answer
abbrev pub accepted_word : List ℕ
accepted_word = ascii "accepted"

abbrev pub missed_word : List ℕ
missed_word = ascii "missed"

-- ---- the line

-- S-13, S-14: the answer: `accepted`, `missed` or `refused N`
abbrev pub receipt_words : Receipt → ℕ → List ℕ
receipt_words receipt_accepted number = accepted_word
receipt_words receipt_missed number = missed_word
receipt_words receipt_refused number = refused_word ++ decimal number

abbrev pub answer_words : Noted → List ℕ
answer_words noted = receipt_words noted.receipt noted.number

-- S-18: the miss count
abbrev pub misses_word : ℕ → List ℕ
misses_word misses = blank ∷ decimal misses

-- S-05: of system i + 1
abbrev pub national_word : List Isolation → ℕ → List ℕ
national_word national i = isolation_word (get_or national i Isolation'.Silent)

-- cab, brake position, the sixteen systems from 1, the traction systems
unfoldable pub state_words : States → List ℕ
state_words states =
    cab_word states.cab
    ++ (brake_word states.brake
    ++ (each (national_word states.national) 0 16
    ++ traction_word states.traction))

-- the answer, the miss count, the states, and a line feed
unfoldable pub line_of : Updating → List ℕ
line_of updating = answer_words updating.noted ++ (misses_word updating.signals.misses ++ (state_words updating.signals.states ++ ascii "\n"))

-- where the input ends inside a call
unfoldable pub short_call_line : List ℕ
short_call_line = ascii "short call\n"
