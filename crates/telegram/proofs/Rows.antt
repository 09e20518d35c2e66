-- The ladders of a telegram, as the code climbs them.
use Prim.Native.Nat.{ℕ, ◌≤◌}
use Rattle.std.proofs.Common.{ap₂, ◌⊎◌, inl, inr, true, false, ltb}
use mathlib.Core.Path.{◌≡◌, refl, sym, ◌∙◌, subst}
use mathlib.Core.List.{List}
use lib.ListN.{length}
use native.Mathlib.Omega.{arith}
use borrow.Author.Tests.{eqb-true, eq-eqb, ne_eqb, not-false}
use Rattle.kit.specs.Each.{each}
use Rattle.kit.specs.Ladder.{ladder, above, Numbers, Numbered}
use Rattle.kit.proofs.Ladder.{ladder_such, above_append, numbered_append, numbered-each, passed-exactly}
use Rattle.condition.specs.Slots.{slot_rows, slot_refusal}
use Rattle.condition.specs.declared.slots.Coded.{Coded}
use Rattle.condition.proofs.Coding.{slot-numbered}
use Rattle.std.specs.Prelude.{Result}
use Rattle.std.specs.Result.{IsErrAnd}
use Rattle.std.proofs.lemmas.Result.{err_from_is_err_and}
use Rattle.wire.specs.Verdicts.{verdict_accepted, verdict_refused, row_number}
use Rattle.wire.specs.declared.refusals.Refusal.{Refusal}
use Rattle.wire.proofs.Answers.{verdict-accepted, verdict-refused}
use Rattle.wire.proofs.Results.{number_nonzero}
use Rattle.kit.proofs.Cases.{on, above_zero, at_zero}
use Rattle.telegram.specs.Telegrams.{coded_at, taken_before, taken_row, place_rows, read_rows, telegram_of, blank_telegram, read_of, reading_in, bytes_of, write_rows, write_verdict, written}
use Rattle.telegram.specs.declared.Telegram.{Telegram}

-- every answer of these ladders is a number of document 01, and so not 0
pub place-numbered : (bytes : List ℕ) (k : ℕ) → Numbered (place_rows bytes k)
place-numbered bytes k = numbered_append (slot_rows (coded_at bytes k)) (taken_row bytes k (coded_at bytes k).number) (slot-numbered (coded_at bytes k)) (omega arith)

pub read-numbered : (bytes : List ℕ) → Numbered (read_rows bytes)
unfolding read_rows
read-numbered bytes = (omega arith, (omega arith, numbered-each (place_rows bytes) (place-numbered bytes) 0 4))

-- R-20: hearing's own number, 15, is none of the reader's
pub read-to_14 : (bytes : List ℕ) → Numbers (λ number. number ≤ 14) (read_rows bytes)
unfolding read_rows each slot_rows
read-to_14 bytes = omega arith

-- none is above those of document 01's table
pub read-most : (bytes : List ℕ) → ladder 0 (read_rows bytes) ≤ 17
read-most bytes = let m : ladder 0 (read_rows bytes) ≤ 14 = ladder_such (λ number. number ≤ 14) (read_rows bytes) (read-to_14 bytes) (omega arith) in omega arith

pub write-most : (packet room : ℕ) → ladder 0 (write_rows packet room) ≤ 17
write-most packet room = ladder_such (λ number. number ≤ 17) (write_rows packet room) (omega arith) (omega arith)

pub write-numbered : (packet room : ℕ) → Numbered (write_rows packet room)
write-numbered packet room = omega arith

-- a place's rows: those of the slot by itself, above the one that looks at earlier slots
pub place-above : (bytes : List ℕ) (k : ℕ) (coded : Coded) → coded ≡ coded_at bytes k
    → ladder 0 (place_rows bytes k) ≡ above (ladder 0 (slot_rows coded)) (ladder 0 (taken_row bytes k coded.number))
place-above bytes k coded same =
    subst (λ c. ladder 0 (place_rows bytes k) ≡ above (ladder 0 (slot_rows c)) (ladder 0 (taken_row bytes k c.number))) (sym same)
    (above_append (slot_rows (coded_at bytes k)) (taken_row bytes k (coded_at bytes k).number) (slot-numbered (coded_at bytes k)))

-- a place's answer: its slot's where that has one, else 14 where its number stands in an earlier place, and else none
module _ (bytes : List ℕ) (k : ℕ) (coded : Coded) (same : coded ≡ coded_at bytes k) where
  place_both : (own taken : ℕ) → own ≡ slot_refusal coded → taken ≡ ladder 0 (taken_row bytes k coded.number) → above own taken ≡ ladder 0 (place_rows bytes k)
  place_both own taken first second = ap₂ above first second ∙ sym (place-above bytes k coded same)

  pub place_own : (own : ℕ) → own ≡ slot_refusal coded → 1 ≤ own → own ≡ ladder 0 (place_rows bytes k)
  unfolding above
  place_own own first p = sym (simp (ne_eqb own 0 (λ z. omega arith))) ∙ place_both own _ first refl

  pub place_taken : 0 ≡ slot_refusal coded → (coded.number ≡ 0 → ⊥) → taken_before bytes k coded.number ≡ true → 14 ≡ ladder 0 (place_rows bytes k)
  unfolding ladder above
  place_taken first n t = place_both 0 14 first (simp (above_zero _ n, t))

  pub place_clear : 0 ≡ slot_refusal coded → (coded.number ≡ 0) ⊎ (taken_before bytes k coded.number ≡ false) → 0 ≡ ladder 0 (place_rows bytes k)
  unfolding ladder above
  place_clear first (inl n) = place_both 0 0 first (simp (at_zero _ n))
  place_clear first (inr f) = place_both 0 0 first (on (ltb 0 coded.number) (λ e. rw (e, f) refl) (λ e. rw e refl))

-- the two ways of a reading: refused, with the blank telegram beside it, or accepted
module _ (bytes : List ℕ) (number : ℕ) (same : number ≡ ladder 0 (read_rows bytes)) where
  pub read_refused : (number ≡ 0 → ⊥) → read_of bytes ≡ record { verdict = verdict_refused number; telegram = blank_telegram }
  unfolding read_of
  read_refused n = rw (← same, verdict-refused number n, ne_eqb number 0 n) refl

  pub read-accepted : number ≡ 0 → read_of bytes ≡ record { verdict = verdict_accepted; telegram = telegram_of bytes }
  unfolding read_of
  read-accepted e = rw (← same, verdict-accepted number e, eq-eqb number 0 e) refl

  pub read_length : number ≡ 0 → length bytes ≡ 26
  unfolding read_rows
  read_length e = eqb-true (length bytes) 26 (not-false _ ((passed-exactly (read_rows bytes) (read-numbered bytes)).0 (sym same ∙ e)).0)

-- what a `?` of a reading hands on
pub exit_reading : (answer : Result Telegram Refusal) (refusal : Refusal) (bytes : List ℕ) → IsErrAnd answer (λ (own : Refusal). own ≡ refusal)
    → row_number refusal ≡ ladder 0 (read_rows bytes) → reading_in answer ≡ read_of bytes
exit_reading answer refusal bytes p same =
    let q = err_from_is_err_and answer p in
    rw (q.1, q.2) (sym (read_refused bytes (row_number refusal) same (number_nonzero refusal _ refl)))

-- the two ways of a writing: refused, with the buffer as it was, or accepted, with all 26 bytes written
module _ (t : Telegram) (buffer : List ℕ) (number : ℕ) (same : number ≡ ladder 0 (write_rows t.packet (length buffer))) where
  pub write-refused : (number ≡ 0 → ⊥) → (write_verdict t buffer ≡ verdict_refused number) × (written t buffer ≡ buffer)
  unfolding write_verdict written
  write-refused n = (rw (← same, verdict-refused number n) refl, rw (← same, ne_eqb number 0 n) refl)

  pub write-accepted : number ≡ 0 → (write_verdict t buffer ≡ verdict_accepted) × (written t buffer ≡ bytes_of t)
  unfolding write_verdict written
  write-accepted e = (rw (← same, verdict-accepted number e) refl, rw (← same, eq-eqb number 0 e) refl)

  pub write-length : number ≡ 0 → length buffer ≡ 26
  write-length e =
      eqb-true (length buffer) 26
      (not-false _ ((passed-exactly (write_rows t.packet (length buffer)) (write-numbered t.packet (length buffer))).0 (sym same ∙ e)).1.0)
