-- Reading: each refusal is given exactly when its row holds and no earlier one does (R-22, R-23), and what stands beside it.
use Prim.Native.Nat.{ℕ, ◌≤◌}
use native.Mathlib.Omega.{arith}
use mathlib.Core.List.{List}
use mathlib.Core.Logic.{◌↔◌}
use mathlib.Core.Path.{◌≡◌, refl, sym, ap}
use borrow.Author.Tests.{eq-eqb, ne_eqb}
use Rattle.kit.specs.Ladder.{Decides, NoneHolds}
use Rattle.std.specs.Prelude.{Result, Ok, Err}
use Rattle.wire.specs.declared.refusals.Refusal.{Refusal}
use Rattle.wire.specs.Verdicts.{row_number, number_of, verdict_accepted, verdict_refused}
use Rattle.wire.proofs.Answers.{accepted_or_refused, verdict-accepted, verdict-refused, verdict-number, refused_when, accepted_when}
use Rattle.wire.proofs.Results.{number-positive, number_apart}
use Rattle.train_codes.specs.Refusals.{train_rows, train_refusal}
use Rattle.train_codes.proofs.Rows.{train-numbered}
use Rattle.train_telegram.specs.Readings.{TrainReading, train_reading_in, train_reading}
use Rattle.train_telegram.specs.States.{states_of, silent}
use Rattle.train_telegram.specs.declared.states.States.{States}

-- the two ways of a reading: refused, with every signal silent beside it, or accepted
module _ (t : List ℕ) (number : ℕ) (same : number ≡ train_refusal t) where
  pub read_refused : (number ≡ 0 → ⊥) → ◌≡◌ {A = TrainReading} (train_reading t) (record { verdict = verdict_refused number; states = silent })
  unfolding train_reading
  read_refused n = rw (← same, verdict-refused number n, ne_eqb number 0 n) refl

  pub read-accepted : number ≡ 0 → ◌≡◌ {A = TrainReading} (train_reading t) (record { verdict = verdict_accepted; states = states_of t })
  unfolding train_reading
  read-accepted e = rw (← same, verdict-accepted number e, eq-eqb number 0 e) refl

-- the same of the code's answer, by the number of its refusal
pub reading_refused_by : (t : List ℕ) (refusal : Refusal) → row_number refusal ≡ train_refusal t → train_reading_in (Err refusal) ≡ train_reading t
reading_refused_by t refusal same =
    let p : 1 ≤ row_number refusal = number-positive refusal in
    sym (read_refused t (row_number refusal) same (λ z. omega arith))

pub reading_accepted_by : (t : List ℕ) → 0 ≡ train_refusal t → train_reading_in (Ok (states_of t)) ≡ train_reading t
reading_accepted_by t same = sym (read-accepted t 0 same refl)

-- C-12: no two answers tell the same
pub train_reading_in-apart : (one other : Result States Refusal) → train_reading_in one ≡ train_reading_in other → one ≡ other
train_reading_in-apart (Ok one) (Ok other) e = ap (λ (r : TrainReading). Ok r.states) e
train_reading_in-apart (Ok one) (Err refusal) e = absurd (accepted_or_refused _ (ap (λ (r : TrainReading). r.verdict) e))
train_reading_in-apart (Err refusal) (Ok other) e = absurd (accepted_or_refused _ (sym (ap (λ (r : TrainReading). r.verdict) e)))
train_reading_in-apart (Err refusal) (Err other) e = ap Err (number_apart refusal other (ap (λ (r : TrainReading). number_of r.verdict) e))

module _ (t : List ℕ) where
  pub reading_refused : (number : ℕ) → ((train_reading t).verdict ≡ verdict_refused number) ↔ Decides (train_rows t) number
  unfolding train_reading
  reading_refused = refused_when (train_rows t) (train-numbered t)

  pub reading_accepted : ((train_reading t).verdict ≡ verdict_accepted) ↔ NoneHolds (train_rows t)
  unfolding train_reading
  reading_accepted = accepted_when (train_rows t) (train-numbered t)

  accepted-number : (train_reading t).verdict ≡ verdict_accepted → train_refusal t ≡ 0
  unfolding train_reading
  accepted-number e = verdict-number verdict_accepted e

  -- what is accepted has the states of its codes
  pub accepted-states : (train_reading t).verdict ≡ verdict_accepted → (train_reading t).states ≡ states_of t
  accepted-states e = ap (λ (r : TrainReading). r.states) (read-accepted t (train_refusal t) refl (accepted-number e))
