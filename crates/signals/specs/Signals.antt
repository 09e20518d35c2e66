-- The record of signals: document 01, "Signals from the train", its last paragraph, sentence by sentence.
use Rattle.std.specs.Prelude.{ℕ, ◌+◌, min, Bool, true, false, cond, List, [], ltb, Option, None, Some}
use Rattle.wire.specs.Verdicts.{Verdict, verdict_accepted, verdict_refused}
use Rattle.train_telegram.specs.States.{silent}
use Rattle.train_telegram.specs.Readings.{train_reading}
use Rattle.train_telegram.specs.declared.states.States.{States}
use Rattle.signals.specs.Answers.{acceptance, absence, refusal_under, Updating}
use Rattle.signals.specs.declared.Signals.{Signals}

abbrev pub signals_with : States → ℕ → Signals
signals_with states misses = record { states = states; misses = misses }

-- S-15, S-16: the first two misses in a row keep the states; the third and later make every signal silent
-- S-18: the miss count stops at 3
unfoldable pub missed_by : Signals → Signals
missed_by signals =
    let misses = min 3 (signals.misses + 1) in
    signals_with (cond (ltb misses 3) signals.states silent) misses

-- S-17: fresh is silent, with the miss count at 0
unfoldable pub fresh_signals : Signals
fresh_signals = signals_with silent 0

-- S-13, S-20: a refused telegram is a miss, and changes nothing else
-- S-12, S-19: an accepted one gives every signal its own state, whatever it was before, and sets the count to 0
abbrev pub after_train_reading : Signals → Verdict → States → Updating
after_train_reading signals (verdict_refused number) states = record { noted = refusal_under number; signals = missed_by signals }
after_train_reading signals verdict_accepted states = record { noted = acceptance; signals = signals_with states 0 }

-- M-1b, S-14: the answer to a call and the next record. A call with no telegram is a miss, and no refusal.
unfoldable pub update_of : Signals → Bool → List ℕ → Updating
update_of signals false telegram = record { noted = absence; signals = missed_by signals }
update_of signals true telegram = after_train_reading signals (train_reading telegram).verdict (train_reading telegram).states

-- M-1b, S-14: the same of what the code takes, a telegram or none
abbrev pub update_by : Signals → Option (List ℕ) → Updating
update_by signals None = update_of signals false []
update_by signals (Some telegram) = update_of signals true telegram
