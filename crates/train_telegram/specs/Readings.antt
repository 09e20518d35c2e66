-- Reading a telegram from the train: its refusal or its states, and what it is that states show a telegram.
use Rattle.std.specs.Prelude.{ℕ, ◌%◌, ◌<◌, cond, List, ◌↔◌, ◌≡◌, eqb, get_or, Result, Ok, Err}
use Rattle.kit.specs.Bytes.{bit, word_at, long_at}
use Rattle.wire.specs.Verdicts.{Verdict, verdict_accepted, verdict_refused, row_number, verdict_of}
use Rattle.wire.specs.declared.refusals.Refusal.{Refusal}
use Rattle.train_codes.specs.Origins.{CabCode, BrakeCode, IsolationCode, TractionCode}
use Rattle.train_codes.specs.Refusals.{train_refusal}
use Rattle.train_codes.specs.declared.Brake.{Brake}
use Rattle.train_codes.specs.declared.Cab.{Cab}
use Rattle.train_codes.specs.declared.Isolation.{Isolation}
use Rattle.train_codes.specs.declared.Traction.{Traction}
use Rattle.train_telegram.specs.States.{states_of, silent}
use Rattle.train_telegram.specs.declared.states.States.{States}

-- C-12: the answer to a telegram, and the states that it says
pub record TrainReading : Type 0 where
  pub verdict : Verdict
  pub states : States

-- C-12: what the code's answer says; beside a refusal every signal is silent
abbrev pub train_reading_in : Result States Refusal → TrainReading
train_reading_in (Ok states) = record { verdict = verdict_accepted; states = states }
train_reading_in (Err refusal) = record { verdict = verdict_refused (row_number refusal); states = silent }

-- W-05, S-12, C-12: the answer, and the states that are said; beside a refusal every signal is silent
unfoldable pub train_reading : List ℕ → TrainReading
train_reading t = record { verdict = verdict_of (train_refusal t); states = cond (eqb (train_refusal t) 0) (states_of t) silent }

-- M-2c, M-2e, S-12: these states show a telegram: each signal has the state whose code stands in its own bits, and no other
pub record Shows (states : States) (t : List ℕ) : Type 0 where
  pub cab : (state : Cab) → (states.cab ≡ state) ↔ CabCode state (bit 1 (get_or t 1 0)) (bit 0 (get_or t 1 0))
  pub brake : (state : Brake) → (states.brake ≡ state) ↔ BrakeCode state (get_or t 2 0 % 8)
  pub national : (other : Isolation) (i : ℕ) → i < 16 → (state : Isolation)
      → (get_or states.national i other ≡ state) ↔ IsolationCode state (bit i (word_at t 3)) (bit i (word_at t 5))
  pub traction : (state : Traction) → (states.traction ≡ state) ↔ TractionCode state (long_at t 7)
