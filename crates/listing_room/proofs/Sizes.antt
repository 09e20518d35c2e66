-- How large the numbers are that a listener takes from a telegram of bytes and gives in its answers: the number of a slot is a byte, that
-- of a refusal is at most 15, a table has at most twenty conditions, and steps and gaps are below 8,192.
use Prim.Native.Nat.{ℕ, ◌<◌, ◌≤◌}
use mathlib.Core.Path.{◌≡◌, refl}
use mathlib.Core.List.{List}
use lib.Dec.{eqb}
use native.Mathlib.Omega.{arith}
use borrow.Author.Tests.{eqb-true}
use Rattle.std.specs.Prelude.{Option, None, Some}
use Rattle.kit.specs.Bytes.{Bytes}
use Rattle.kit.proofs.Ladder.{decides_such}
use Rattle.kit.proofs.Cases.{on}
use Rattle.kit.proofs.Loops.{count_most}
use Rattle.condition.specs.Slots.{empty_slot, is_occupied, slot_count}
use Rattle.condition.specs.declared.slots.Slot.{Slot}
use Rattle.wire.specs.Steps.{steps, gap_of}
use Rattle.wire.specs.Verdicts.{Verdict, verdict_accepted, verdict_refused}
use Rattle.telegram.specs.Sendable.{slot_on}
use Rattle.telegram.specs.Tables.{table_slot}
use Rattle.telegram.specs.Telegrams.{place_start, coded_at, read_refusal, read_rows, slot_at, telegram_of, blank_telegram, read_of}
use Rattle.telegram.specs.declared.Telegram.{Telegram}
use Rattle.telegram.proofs.Four.{four-each}
use Rattle.telegram.proofs.Refusals.{reading_refused}
use Rattle.telegram.proofs.Rows.{read-to_14}
use Rattle.picture.specs.Pictures.{count_of}
use Rattle.hand.specs.Sets.{begun, set_for, joined}
use Rattle.hand.specs.declared.Hand.{Hand}
use Rattle.last_step.specs.LastSteps.{gap_from}
use Rattle.listener.specs.Answers.{Told}
use Rattle.listener.specs.Listeners.{after_reading, heard_of, hear_of}
use Rattle.listener.specs.declared.Listener.{Listener}
use Rattle.listener.proofs.Promises.{ways}

-- ---- what is read

-- the telegram of a reading is what the bytes mean, or the blank one
read-either : (P : Telegram → Type 0) (bytes : List ℕ) → P (telegram_of bytes) → P blank_telegram → P (read_of bytes).telegram
unfolding read_of
read-either P bytes meant none = on (eqb (read_refusal bytes) 0) (λ e. rw e meant) (λ e. rw e none)

-- T-03: the number of a slot that is read
pub number_byte : (bytes : List ℕ) → Bytes bytes → (k : ℕ) → (slot_on (read_of bytes).telegram k).number < 256
unfolding telegram_of coded_at
number_byte bytes fits k =
    read-either (λ t. (slot_on t k).number < 256) bytes
    (four-each (λ n x. x.number < 256) (slot_at bytes) (λ n below. fits (place_start n)) (λ n past. omega arith) k)
    (four-each (λ n x. x.number < 256) (λ n. empty_slot) (λ n below. omega arith) (λ n past. omega arith) k)

-- T-02: its step number
pub step_small : (bytes : List ℕ) → (read_of bytes).telegram.step < steps
unfolding telegram_of
step_small bytes = read-either (λ t. t.step < steps) bytes (omega arith) (omega arith)

-- R-20: the number of a refusal is that of one of the reader's rows
verdict-small : (bytes : List ℕ) (number : ℕ) → (read_of bytes).verdict ≡ verdict_refused number → number ≤ 15
verdict-small bytes number e = let below = decides_such (λ n. n ≤ 14) (read_rows bytes) number (read-to_14 bytes) ((reading_refused bytes number).0 e) in omega arith

-- ---- what is told

-- its numbers are such
pub record Small (told : Told) : Type 0 where
  pub number : told.number ≤ 15
  pub step : told.step < steps
  pub conditions : told.conditions ≤ slot_count
  pub gap : told.gap < steps

pub set-step : (hand : Hand) (step : ℕ) → (set_for hand step).step ≡ step
unfolding set_for begun
set-step hand step = on (eqb hand.step step) (λ e. rw e (eqb-true hand.step step e)) (λ e. rw e refl)

gap-small : (last : Option ℕ) (step : ℕ) → gap_from last step < steps
unfolding gap_of
gap-small None step = omega arith
gap-small (Some last) step = omega arith

count_small : (table : List Slot) → count_of table ≤ slot_count
unfolding count_of
count_small table = count_most (λ i. is_occupied (table_slot table i)) slot_count

module _ (reach : ℕ) (listener : Listener) where
  heard-small : (t : Telegram) → t.step < steps → Small (heard_of reach listener t).told
  unfolding joined
  heard-small t below =
      let set = set_for listener.hand t.step in
      ways reach listener t (λ h number. Small h.told)
      (record { number = omega arith; step = omega arith; conditions = omega arith; gap = omega arith })
      (record { number = omega arith; step = omega arith; conditions = omega arith; gap = omega arith })
      (record { number = omega arith; step = omega arith; conditions = omega arith; gap = omega arith })
      (record {
        number = omega arith;
        step = omega (arith, set-step listener.hand t.step);
        conditions = count_small (joined set t).slots;
        gap = gap-small listener.last set.step;
      })

  after_small : (t : Telegram) → t.step < steps → (verdict : Verdict) → ((number : ℕ) → verdict ≡ verdict_refused number → number ≤ 15) → Small (after_reading verdict reach listener t).told
  after_small t below verdict_accepted most = heard-small t below
  after_small t below (verdict_refused number) most = record { number = most number refl; step = omega arith; conditions = omega arith; gap = omega arith }

  -- whatever the bytes
  pub hear-small : (bytes : List ℕ) → Small (hear_of reach listener (read_of bytes)).told
  unfolding hear_of
  hear-small bytes = after_small (read_of bytes).telegram (step_small bytes) (read_of bytes).verdict (verdict-small bytes)
