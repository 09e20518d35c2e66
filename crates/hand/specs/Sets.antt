-- The set in hand: document 01, "The listener", its sentences on packets that are held.
use Rattle.std.specs.Prelude.{ℕ, ◌-◌, Bool, false, true, cond, eqb, get_or, replicate, set}
use Rattle.std.proofs.lemmas.List.Edits.{sets}
use Rattle.kit.specs.Loops.{how_many}
use Rattle.condition.specs.Slots.{empty_slot, slot_count}
use Rattle.telegram.specs.Tables.{packets, first_packet, first_slot}
use Rattle.telegram.specs.declared.Telegram.{Telegram}
use Rattle.hand.specs.declared.Hand.{Hand}

-- L-03: a set that begins: its step number, none of five packets held, nothing known of twenty slots
unfoldable pub begun : ℕ → Hand
begun step = record { step = step; held = replicate packets false; slots = replicate slot_count empty_slot }

-- L-03: the set that a telegram of this step number goes into: the one in hand if it has that number; any other step number drops
-- an unfinished set and begins one
unfoldable pub set_for : Hand → ℕ → Hand
set_for hand step = cond (eqb hand.step step) hand (begun step)

-- L-02: whether a packet is already held for the set
unfoldable pub is_held : Hand → ℕ → Bool
is_held hand packet = get_or hand.held (packet - first_packet) false

-- L-03, T-04: the set with the telegram's four slots in it
unfoldable pub joined : Hand → Telegram → Hand
joined hand t =
    record {
      step = hand.step;
      held = set hand.held (t.packet - first_packet) true;
      slots = sets hand.slots (first_slot t.packet) t.slots;
    }

-- L-04: five are held
unfoldable pub is_whole : Hand → Bool
is_whole hand = eqb (how_many (λ k. get_or hand.held k false) packets) packets
