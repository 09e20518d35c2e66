-- Answers to a reading: no two tell the same, and each reading is that of an answer; and so each verdict on a writing.
use Rattle.std.proofs.Common.{◌≡◌, ℕ, List, eqb, eqb-true, sym, refl, ap, arith, length}
use borrow.Author.Tests.{eqb-false}
use Rattle.std.specs.Prelude.{Result, Ok, Err}
use Rattle.kit.proofs.Cases.{on}
use Rattle.wire.specs.Verdicts.{number_of, row_number, verdict_in}
use Rattle.wire.specs.declared.refusals.Refusal.{Refusal}
use Rattle.wire.proofs.Answers.{accepted_or_refused}
use Rattle.wire.proofs.Results.{number_apart, row_of, row-number, answer_with, answered_with}
use Rattle.telegram.specs.Telegrams.{Reading, read_refusal, telegram_of, read_of, reading_in, write_refusal, write_verdict}
use Rattle.telegram.specs.declared.Telegram.{Telegram}
use Rattle.telegram.proofs.Rows.{read_refused, read-accepted, read-most, write-most}

-- C-12: no two answers tell the same
pub reading_in-apart : (one other : Result Telegram Refusal) → reading_in one ≡ reading_in other → one ≡ other
reading_in-apart (Ok one) (Ok other) e = ap (λ (r : Reading). Ok r.telegram) e
reading_in-apart (Ok one) (Err refusal) e = absurd (accepted_or_refused _ (ap (λ (r : Reading). r.verdict) e))
reading_in-apart (Err refusal) (Ok other) e = absurd (accepted_or_refused _ (sym (ap (λ (r : Reading). r.verdict) e)))
reading_in-apart (Err refusal) (Err other) e = ap Err (number_apart refusal other (ap (λ (r : Reading). number_of r.verdict) e))

-- C-12: what any bytes read as is what an answer says
pub read_answer : (bytes : List ℕ) → (answer : Result Telegram Refusal) × (reading_in answer ≡ read_of bytes)
read_answer bytes =
    on (eqb (read_refusal bytes) 0)
    (λ e. (Ok (telegram_of bytes), sym (read-accepted bytes (read_refusal bytes) refl (eqb-true (read_refusal bytes) 0 e))))
    (λ e.
    let n : read_refusal bytes ≡ 0 → ⊥ = eqb-false (read_refusal bytes) 0 e in
    let back : row_number (row_of (read_refusal bytes)) ≡ read_refusal bytes = row-number (read_refusal bytes) (omega arith) (read-most bytes) in
    (Err (row_of (read_refusal bytes)), rw back (sym (read_refused bytes (read_refusal bytes) refl n))))

pub write_answer : (t : Telegram) (buffer : List ℕ) → (answer : Result Unit Refusal) × (verdict_in answer ≡ write_verdict t buffer)
unfolding write_verdict
write_answer t buffer =
    let a = answer_with tt (write_refusal t.packet (length buffer)) (write-most t.packet (length buffer)) in
    (a.0, answered_with a.0 a.1)
