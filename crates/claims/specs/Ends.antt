-- Both ends of demand 3, over any figure of the desk, any of the listener, and any binding that carries their telegrams. Demand3.antt is the
-- page; it takes what stands here with the fleet's figures, eight and eight, and its bytes. Here each phrase of the user's words stands
-- over the text of the definitions that state it.
--
-- The desk, its calls and the tables of its steps are in Calls.antt; what was heard, and which tables were heard whole, in
-- Hearings.antt. proofs/Ends.antt proves the claim: of every binding that reads back what it wrote, where the listener's figure is not
-- above the desk's, and the desk's is at most 11.
use Rattle.telegram.specs.Telegrams.{Reading}
use Rattle.std.specs.Prelude.{ℕ, ◌+◌, ◌-◌, ◌%◌, ◌≤◌, ◌≡◌, true, cond, Option, None, Some, List, [], ◌∷◌, replicate}
use Rattle.condition.specs.Slots.{empty_slot, slot_count}
use Rattle.wire.specs.Steps.{steps}
use Rattle.wire.specs.Verdicts.{ruled_refused, ruling_of, number_of}
use Rattle.condition.specs.declared.slots.Slot.{Slot}
use Rattle.telegram.specs.declared.Telegram.{Telegram}
use Rattle.desk.specs.Desks.{packet_of}
use Rattle.picture.specs.Pictures.{count_of}
use Rattle.listener.specs.Listeners.{fresh_listener, hear_of}
use Rattle.listener.specs.Answers.{Told, refused_as, as_repeat, as_held, taken_as}
use Rattle.listener.specs.declared.Listener.{Listener}
use Rattle.claims.specs.Calls.{steps_made, desk_of, table_in, order_in, StoodFrom}
use Rattle.claims.specs.Hearings.{Item, sent, spoilt, was_heard, heard_whole, wholes, NoneAfter, Near}

-- M-2: a binding: how a telegram is written as a message and read from it, and which telegrams it can carry
pub record Binding (Message : Type 0) : Type 1 where
  pub write : Telegram → Message
  pub read : Message → Reading
  pub CanCarry : Telegram → Type 0

-- the desk's figure and the listener's, the binding, and the calls of the desk, the newest first
module _ (rest reach : ℕ) {Message : Type 0} (binding : Binding Message) (calls : List (List ℕ)) where
  -- ---- "Start both ends fresh."

  -- D-04, W-03: what is heard as packet p of step n is what the desk of that step wrote
  abbrev pub message_of : Item Message → Message
  message_of (sent n p) = binding.write (packet_of (desk_of rest calls n) p)
  message_of (spoilt other) = other

  -- A-20, M-1b: the listener after what was heard, the newest first
  unfoldable pub listener_after : List (Item Message) → Listener
  listener_after [] = fresh_listener
  listener_after (item ∷ earlier) = (hear_of reach (listener_after earlier) (binding.read (message_of item))).listener

  -- M-1b: and what it answers to one telegram more
  abbrev pub answer_to : Item Message → List (Item Message) → Told
  answer_to item earlier = (hear_of reach (listener_after earlier) (binding.read (message_of item))).told

  -- ---- "Let telegrams be lost or repeated, step order kept, each one heard coming at most 8,191 steps after the last table heard
  -- whole (before any, after the first telegram heard)."

  -- D-02, T-01: what can be heard: one of the five packets of a step that the desk has made
  abbrev pub OfTheDesk : ℕ → ℕ → Type 0
  OfTheDesk n p = (n ≤ steps_made rest calls) × (3 ≤ p) × (p ≤ 7) × binding.CanCarry (packet_of (desk_of rest calls n) p)

  -- A-24: that a sequence was heard so. Nothing asks that a telegram be heard at all, and none is forbidden to come again. `late` and
  -- `damaged` allow more than the user does: repeats of the last whole table at any later time, and anywhere what the reader refuses.
  pub data Premises : List (Item Message) → Type 0 where
    nothing : Premises []
    in_turn : {earlier : List (Item Message)} (n p : ℕ) → Premises earlier → OfTheDesk n p → NoneAfter n earlier → Near n earlier → Premises (sent n p ∷ earlier)
    late : {earlier : List (Item Message)} (n p : ℕ) (before : List ℕ) → Premises earlier → OfTheDesk n p → wholes earlier ≡ n ∷ before
        → Premises (sent n p ∷ earlier)
    damaged : {earlier : List (Item Message)} (other : Message) (number : ℕ) → Premises earlier → ruling_of (binding.read other).verdict ≡ ruled_refused number
        → Premises (spoilt other ∷ earlier)

  -- ---- "Then each table heard whole becomes the vehicle's picture exactly, and until then the previous picture stands."

  -- M-3a, M-3b: the picture when these steps were heard whole, the newest first; A-20: before any, the fresh one
  abbrev pub picture_of : List ℕ → List Slot
  picture_of [] = replicate slot_count empty_slot
  picture_of (n ∷ before) = table_in rest calls n

  -- L-04: and the step last taken
  abbrev pub last_of : List ℕ → Option ℕ
  last_of [] = None
  last_of (n ∷ before) = Some (n % steps)

  -- ---- "A condition is marked as carried on exactly when at most eight steps lie from the previous whole table to this one and the
  -- same order stood in every accepted list from that one to this; a fresh desk's table counts as an empty list."

  -- M-3c, A-23: slot i has a condition, and it is so of that condition's order. With the first table there is no previous one.
  abbrev pub IsCarriedOn : List ℕ → ℕ → Type 0
  IsCarriedOn [] i = ⊥
  IsCarriedOn (n ∷ []) i = ⊥
  IsCarriedOn (n ∷ m ∷ before) i =
      let order = order_in rest calls n i in
      (1 ≤ order) × (n ≤ m + reach) × StoodFrom rest calls order m n

  -- ---- "However long the loss within that bound, the next whole table puts the vehicle right."

  -- M-3e: whatever was lost before, a telegram after which its table has been heard whole leaves that table as the picture
  abbrev pub PutRight : List (Item Message) → Type 0
  PutRight [] = Unit
  PutRight (sent n p ∷ earlier) = heard_whole (sent n p ∷ earlier) n ≡ true → (listener_after (sent n p ∷ earlier)).picture ≡ table_in rest calls n
  PutRight (spoilt other ∷ earlier) = Unit

  -- ---- and the answers, which the user reads in the listing

  -- L-05, L-08, C-09: the true distance from the previous whole table; 0 for the first
  abbrev pub true_gap : List ℕ → ℕ → ℕ
  true_gap [] n = 0
  true_gap (m ∷ before) n = n - m

  -- L-01 to L-04: a telegram that was heard before is a repeat; one that makes its table whole is answered with that table's step
  -- number, its conditions and the distance; any other is held. None that the desk sent is refused.
  abbrev pub expected : Item Message → List (Item Message) → Told
  expected (sent n p) earlier =
      cond (was_heard earlier n p) as_repeat
      (cond (heard_whole (sent n p ∷ earlier) n) (taken_as (n % steps) (count_of (table_in rest calls n)) (true_gap (wholes earlier) n))
      as_held)
  expected (spoilt other) earlier = refused_as (number_of (binding.read other).verdict)

  abbrev pub Answered : List (Item Message) → Type 0
  Answered [] = Unit
  Answered (item ∷ earlier) = answer_to item earlier ≡ expected item earlier
