-- Laws of a call: with no telegram, with a refused one and with an accepted one.
use Prim.Native.Nat.{ℕ}
use mathlib.Core.Bool.{true, false}
use mathlib.Core.List.{List}
use mathlib.Core.Path.{◌≡◌, refl, sym, ap, ◌∙◌}
use Rattle.wire.specs.Verdicts.{verdict_accepted, verdict_refused}
use Rattle.train_telegram.specs.Readings.{train_reading, TrainReading}
use Rattle.signals.specs.Answers.{acceptance, absence, refusal_under, Updating}
use Rattle.signals.specs.Signals.{signals_with, missed_by, after_train_reading, update_of}
use Rattle.signals.specs.declared.Signals.{Signals}

module _ (signals : Signals) (telegram : List ℕ) where
  -- S-13, S-14
  pub update-missed : ◌≡◌ {A = Updating} (update_of signals false telegram) (record { noted = absence; signals = missed_by signals })
  unfolding update_of
  update-missed = refl

  module _ (reading : TrainReading) (same : reading ≡ train_reading telegram) where
    read_as : update_of signals true telegram ≡ after_train_reading signals reading.verdict reading.states
    unfolding update_of
    read_as = sym (ap (λ (r : TrainReading). after_train_reading signals r.verdict r.states) same)

    -- S-13, S-20
    pub update-refused : (number : ℕ) → reading.verdict ≡ verdict_refused number → ◌≡◌ {A = Updating} (update_of signals true telegram) (record { noted = refusal_under number; signals = missed_by signals })
    update-refused number e = read_as ∙ ap (λ v. after_train_reading signals v reading.states) e

    -- S-12, S-19
    pub update-accepted : reading.verdict ≡ verdict_accepted → ◌≡◌ {A = Updating} (update_of signals true telegram) (record { noted = acceptance; signals = signals_with reading.states 0 })
    update-accepted e = read_as ∙ ap (λ v. after_train_reading signals v reading.states) e
