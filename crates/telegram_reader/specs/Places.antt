-- One place of a telegram, asked for by itself.
use Rattle.std.specs.Prelude.{ℕ, cond, List, eqb, ltb, length}
use Rattle.condition.specs.Slots.{empty_slot}
use Rattle.condition.specs.declared.slots.Slot.{Slot}
use Rattle.telegram.specs.Telegrams.{slot_at}

-- T-03: the slot of place k of 26 bytes; of bytes that are not 26 or a place that is not 0 to 3, an empty one
unfoldable pub place_slot : List ℕ → ℕ → Slot
place_slot bytes k = cond (eqb (length bytes) 26) (cond (ltb k 4) (slot_at bytes k) empty_slot) empty_slot
