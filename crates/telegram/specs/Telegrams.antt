-- Telegrams: document 01, "Telegrams", and its rows 9 to 14 and 6.
use Rattle.std.specs.Prelude.{ℕ, ◌+◌, ◌*◌, ◌/◌, ◌%◌, Bool, cond, not, ◌&&◌, List, [], ◌∷◌, ◌++◌, eqb, ltb, leb, length, get_or, Result, Ok, Err}
use Rattle.kit.specs.Bytes.{word_of_two, word_bytes}
use Rattle.kit.specs.Each.{each}
use Rattle.kit.specs.Ladder.{ladder}
use Rattle.kit.specs.Loops.{any}
use Rattle.condition.specs.Slots.{empty_slot, slot_rows, slot_in, coded_of, six_of}
use Rattle.wire.specs.Steps.{steps}
use Rattle.wire.specs.Verdicts.{Verdict, verdict_accepted, verdict_refused, row_number, verdict_of}
use Rattle.wire.specs.declared.refusals.Refusal.{Refusal}
use Rattle.condition.specs.declared.slots.Coded.{Coded}
use Rattle.condition.specs.declared.slots.Slot.{Slot}
use Rattle.telegram.specs.declared.Telegram.{Telegram}

-- ---- the layout

-- T-02: bytes 0 and 1: packet number in the top three bits, step number in the low thirteen
abbrev pub head_in : List ℕ → ℕ
head_in bytes = word_of_two (get_or bytes 0 0) (get_or bytes 1 0)

-- T-02: the top three bits
abbrev pub packet_in : List ℕ → ℕ
packet_in bytes = head_in bytes / steps

-- T-02: the low thirteen
abbrev pub step_in : List ℕ → ℕ
step_in bytes = head_in bytes % steps

-- T-02: the two together
abbrev pub head_of : ℕ → ℕ → ℕ
head_of packet step = packet % 8 * steps + step % steps

-- T-03: then four slots of six bytes
abbrev pub place_start : ℕ → ℕ
place_start k = 2 + 6 * k

-- T-03, K-05: number, type, first word, second word, high byte first
unfoldable pub coded_at : List ℕ → ℕ → Coded
coded_at bytes k =
    record {
      number = get_or bytes (place_start k) 0;
      kind = get_or bytes (place_start k + 1) 0;
      first = word_of_two (get_or bytes (place_start k + 2) 0) (get_or bytes (place_start k + 3) 0);
      second = word_of_two (get_or bytes (place_start k + 4) 0) (get_or bytes (place_start k + 5) 0);
    }

-- ---- reading

-- R-14: a number stands in one of the places below k
unfoldable pub taken_before : List ℕ → ℕ → ℕ → Bool
taken_before bytes k number = any (λ j. eqb (get_or bytes (place_start j) 0) number) 0 k

-- R-14: slot number above 0, already in an earlier slot of this telegram
abbrev pub taken_row : List ℕ → ℕ → ℕ → List (Bool × ℕ)
taken_row bytes k number = (ltb 0 number && taken_before bytes k number, 14) ∷ []

-- R-20: of one place 12, 13, 6, and then 14
abbrev pub place_rows : List ℕ → ℕ → List (Bool × ℕ)
place_rows bytes k = slot_rows (coded_at bytes k) ++ taken_row bytes k (coded_at bytes k).number

-- R-10: not 26 bytes
-- R-11: packet number 0 to 2
-- R-20: then the first bad slot
unfoldable pub read_rows : List ℕ → List (Bool × ℕ)
read_rows bytes = (not (eqb (length bytes) 26), 10) ∷ (ltb (packet_in bytes) 3, 11) ∷ each (place_rows bytes) 0 4

-- R-20, R-23: the first of these rows that holds, or 0
abbrev pub read_refusal : List ℕ → ℕ
read_refusal bytes = ladder 0 (read_rows bytes)

-- T-03: the slot of place k
abbrev pub slot_at : List ℕ → ℕ → Slot
slot_at bytes k = slot_in (coded_at bytes k)

-- T-02, T-03: what 26 bytes mean
unfoldable pub telegram_of : List ℕ → Telegram
telegram_of bytes =
    record {
      packet = packet_in bytes;
      step = step_in bytes;
      slots = slot_at bytes 0 ∷ slot_at bytes 1 ∷ slot_at bytes 2 ∷ slot_at bytes 3 ∷ [];
    }

-- M-1b, M-2b: what reading comes to: a verdict, and the telegram
pub record Reading : Type 0 where
  pub verdict : Verdict
  pub telegram : Telegram

-- C-02: what stands beside a refusal
abbrev pub blank_telegram : Telegram
blank_telegram = record { packet = 0; step = 0; slots = empty_slot ∷ empty_slot ∷ empty_slot ∷ empty_slot ∷ [] }

-- M-1b, M-2b: the verdict of reading, and the telegram
unfoldable pub read_of : List ℕ → Reading
read_of bytes = record { verdict = verdict_of (read_refusal bytes); telegram = cond (eqb (read_refusal bytes) 0) (telegram_of bytes) blank_telegram }

-- C-12: what the code's answer says
abbrev pub reading_in : Result Telegram Refusal → Reading
reading_in (Ok telegram) = record { verdict = verdict_accepted; telegram = telegram }
reading_in (Err refusal) = record { verdict = verdict_refused (row_number refusal); telegram = blank_telegram }

-- ---- writing

-- T-03: the six bytes of place k
abbrev pub six_at : List Slot → ℕ → List ℕ
six_at slots k = six_of (coded_of (get_or slots k empty_slot))

-- T-02, T-03: all 26 bytes
unfoldable pub bytes_of : Telegram → List ℕ
bytes_of t = word_bytes (head_of t.packet t.step) ++ each (six_at t.slots) 0 4

-- R-09: packet asked for is not 3 to 7
-- R-10: buffer not 26 bytes
abbrev pub write_rows : ℕ → ℕ → List (Bool × ℕ)
write_rows packet room = (not (leb 3 packet && leb packet 7), 9) ∷ (not (eqb room 26), 10) ∷ []

-- R-19, R-23: the first of these rows that holds, or 0
abbrev pub write_refusal : ℕ → ℕ → ℕ
write_refusal packet room = ladder 0 (write_rows packet room)

-- M-1c: the verdict of writing
unfoldable pub write_verdict : Telegram → List ℕ → Verdict
write_verdict t buffer = verdict_of (write_refusal t.packet (length buffer))

-- M-2a, R-25: the buffer afterwards; a refused call changes no byte
unfoldable pub written : Telegram → List ℕ → List ℕ
written t buffer = cond (eqb (write_refusal t.packet (length buffer)) 0) (bytes_of t) buffer
