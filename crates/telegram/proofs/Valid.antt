-- Demand 2: an invalid code never shows as a valid state, for every telegram; and what is accepted can be sent on.
use Prim.Native.Nat.{ℕ, ◌<◌, ◌≤◌}
use mathlib.Core.Path.{◌≡◌, refl, sym, ap, ◌∙◌, subst}
use mathlib.Core.Bool.{false, ◌&&◌}
use mathlib.Core.List.{List}
use lib.Dec.{eqb, ltb}
use lib.ListN.{length, get_or}
use native.Mathlib.Omega.{arith}
use borrow.Author.Tests.{eqb-true, eqb-false, ltb-false, lt-ltb, not-false}
use Rattle.kit.specs.Bytes.{Bytes}
use Rattle.kit.specs.Ladder.{ladder, NoneHolds}
use Rattle.kit.proofs.Cases.{on, and_second}
use Rattle.wire.specs.Verdicts.{verdict_accepted}
use Rattle.telegram.proofs.Refusals.{reading_accepted}
use Rattle.kit.proofs.Ladder.{ladder-silent, passed-exactly, silent_append, silent-each}
use Rattle.kit.proofs.Loops.{any_none}
use Rattle.condition.specs.Slots.{empty_slot, slot_rows, MayHold}
use Rattle.condition.proofs.Coding.{read_held}
use Rattle.telegram.specs.Telegrams.{packet_in, place_start, coded_at, taken_before, taken_row, place_rows, read_rows, slot_at, telegram_of, read_of}
use Rattle.telegram.specs.Sendable.{slot_on, Sendable}
use Rattle.telegram.proofs.Four.{four-each}
use Rattle.telegram.proofs.Rows.{read-numbered, read_refused, read-accepted}

-- the slot of place k of what 26 bytes mean
pub slot-meant : (bytes : List ℕ) (k : ℕ) → k < 4 → slot_on (telegram_of bytes) k ≡ slot_at bytes k
unfolding telegram_of
slot-meant bytes k p =
    four-each (λ n x. n < 4 → x ≡ slot_at bytes n) (slot_at bytes) (λ n below q. refl) (λ n past q. absurd (omega arith)) k p

module _ (bytes : List ℕ) (s : NoneHolds (read_rows bytes)) where
  pub length-read : length bytes ≡ 26
  unfolding read_rows
  length-read = eqb-true (length bytes) 26 (not-false (eqb (length bytes) 26) s.0)

  packet-read : 3 ≤ packet_in bytes
  unfolding read_rows
  packet-read = ltb-false (packet_in bytes) 3 s.1.0

  place_read : (k : ℕ) → k < 4 → NoneHolds (place_rows bytes k)
  unfolding read_rows
  place_read k p = silent-each (place_rows bytes) 0 4 s.1.1 k (omega arith) (omega arith)

  pub slot_read : (k : ℕ) → k < 4 → NoneHolds (slot_rows (coded_at bytes k))
  slot_read k p = (silent_append (slot_rows (coded_at bytes k)) (taken_row bytes k (coded_at bytes k).number) (place_read k p)).0

  untaken-read : (k : ℕ) → k < 4 → ltb 0 (coded_at bytes k).number && taken_before bytes k (coded_at bytes k).number ≡ false
  untaken-read k p = (silent_append (slot_rows (coded_at bytes k)) (taken_row bytes k (coded_at bytes k).number) (place_read k p)).1.0

  held-read : (k : ℕ) → MayHold (slot_on (telegram_of bytes) k)
  unfolding telegram_of
  held-read = four-each (λ n x. MayHold x) (slot_at bytes) (λ n below. read_held (coded_at bytes n) (slot_read n below)) (λ n past. refl)

  distinct-read : (i j : ℕ) → i < j → j < 4 → 0 < (slot_on (telegram_of bytes) i).number → (slot_on (telegram_of bytes) i).number ≡ (slot_on (telegram_of bytes) j).number → ⊥
  unfolding taken_before coded_at
  distinct-read i j p q positive same =
      let a : (slot_on (telegram_of bytes) i).number ≡ get_or bytes (place_start i) 0 = ap (λ x. x.number) (slot-meant bytes i (omega arith)) in
      let b : (slot_on (telegram_of bytes) j).number ≡ get_or bytes (place_start j) 0 = ap (λ x. x.number) (slot-meant bytes j q) in
      let n : ℕ = get_or bytes (place_start j) 0 in
      let free : taken_before bytes j n ≡ false = and_second (ltb 0 n) (taken_before bytes j n) (untaken-read j q) (lt-ltb 0 n (omega arith)) in
      eqb-false (get_or bytes (place_start i) 0) n
      (any_none (λ m. eqb (get_or bytes (place_start m) 0) n) 0 j free i (omega arith) (omega arith))
      (sym a ∙ (same ∙ b))

-- M-2e: whatever the bytes, no slot that reading gives has a code that document 01 does not allow
pub never_invalid : (bytes : List ℕ) (k : ℕ) → MayHold (slot_on (read_of bytes).telegram k)
never_invalid bytes k =
    on (eqb (ladder 0 (read_rows bytes)) 0)
    (λ e.
    let z : ladder 0 (read_rows bytes) ≡ 0 = eqb-true (ladder 0 (read_rows bytes)) 0 e in
    subst (λ r. MayHold (slot_on r.telegram k)) (sym (read-accepted bytes (ladder 0 (read_rows bytes)) refl z))
    (held-read bytes ((passed-exactly (read_rows bytes) (read-numbered bytes)).0 z) k))
    (λ e.
    subst (λ r. MayHold (slot_on r.telegram k)) (sym (read_refused bytes (ladder 0 (read_rows bytes)) refl (eqb-false (ladder 0 (read_rows bytes)) 0 e)))
    (four-each (λ n x. MayHold x) (λ n. empty_slot) (λ n below. refl) (λ n past. refl) k))

-- what is accepted is what the bytes mean
pub accepted-means : (bytes : List ℕ) → (read_of bytes).verdict ≡ verdict_accepted → (read_of bytes).telegram ≡ telegram_of bytes
accepted-means bytes accepted =
    let z : 0 ≡ ladder 0 (read_rows bytes) = sym (ladder-silent 0 (read_rows bytes) ((reading_accepted bytes).0 accepted)) in
    ap (λ r. r.telegram) (read-accepted bytes 0 z refl)

-- what is accepted is a telegram that can be sent
pub read_sendable : (bytes : List ℕ) → Bytes bytes → NoneHolds (read_rows bytes) → Sendable (telegram_of bytes)
unfolding telegram_of
read_sendable bytes fits s =
    record {
      packet_from = packet-read bytes s;
      packet_to = omega (arith, fits 0, fits 1);
      step_below = omega arith;
      four = refl;
      held = held-read bytes s;
      distinct = distinct-read bytes s;
    }

pub accepted_sendable : (bytes : List ℕ) → Bytes bytes → (read_of bytes).verdict ≡ verdict_accepted → Sendable (read_of bytes).telegram
accepted_sendable bytes fits accepted = subst Sendable (sym (accepted-means bytes accepted)) (read_sendable bytes fits ((reading_accepted bytes).0 accepted))
