-- The desk and its calls: document 01, "The list and the step" and "Refusal numbers".
use Rattle.std.specs.Prelude.{ℕ, ◌*◌, cond, List, map, eqb, replicate}
use Rattle.wire.specs.Verdicts.{Verdict, verdict_of, verdict_in}
use Rattle.condition.specs.declared.slots.Slot.{Slot}
use Rattle.telegram.specs.Tables.{four_of}
use Rattle.telegram.specs.declared.Telegram.{Telegram}
use Rattle.places.specs.Places.{free_place}
use Rattle.orders.specs.Orders.{list_refusal}
use Rattle.condition.specs.Slots.{slot_count}
use Rattle.places.specs.declared.Place.{Place}
use Rattle.resting.specs.Rests.{none_ended}
use Rattle.desk.specs.declared.Desk.{Desk}
use Rattle.desk.specs.declared.Answer.{Answer}
use Rattle.desk.specs.Steps.{step_of}

-- D-12, D-13: eight tables in a row go without an ended number
abbrev pub base_rest : ℕ
base_rest = 8

-- D-04, D-11: step 0, all slots empty, nothing ended and no number given; D-14: a desk keeps so many rows of twenty ended numbers
unfoldable pub fresh_with : ℕ → Desk
fresh_with rows = record { places = replicate slot_count free_place; ended = replicate (slot_count * rows) none_ended; last = 0; step = 0 }

-- D-12: as many rows as an ended number rests; D-05: it is a desk like any other, and its table is written as theirs are
abbrev pub fresh_desk : Desk
fresh_desk = fresh_with base_rest

-- C-12: the verdict, and the desk beside it
pub record Accepting : Type 0 where
  pub verdict : Verdict
  pub desk : Desk

-- C-12: what the code's answer says
abbrev pub answer_in : Answer → Accepting
answer_in answer = record { verdict = verdict_in answer.verdict; desk = answer.desk }

-- M-1a, D-02, D-18: refused with the desk as it was, or accepted with the desk after the step; D-17: no row refuses an empty list, and
-- no order stands in it
unfoldable pub accept_of : ℕ → Desk → List ℕ → Accepting
accept_of rest desk list =
    let refusal = list_refusal desk.places list in
    record { verdict = verdict_of refusal; desk = cond (eqb refusal 0) (step_of rest desk list) desk }

-- W-03: the table
unfoldable pub table_of : Desk → List Slot
table_of desk = map (λ (place : Place). place.slot) desk.places

-- T-01 to T-04: the telegram of a packet of the table
unfoldable pub packet_of : Desk → ℕ → Telegram
packet_of desk packet = record { packet = packet; step = desk.step; slots = four_of (table_of desk) packet }

-- R-26: a desk that a making and earlier calls gave
pub data Made : Desk → Type 0 where
  made_fresh : Made fresh_desk
  called : {desk : Desk} → Made desk → (list : List ℕ) → Made (accept_of base_rest desk list).desk
