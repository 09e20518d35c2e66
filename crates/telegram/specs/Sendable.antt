-- What a desk or a reader can hold as a telegram, and the bits that may alter when one is read and written again.
use Rattle.std.specs.Prelude.{ℕ, ◌+◌, ◌-◌, ◌*◌, ◌/◌, ◌%◌, ◌<◌, ◌≤◌, ◌≡◌, Bool, ◌&&◌, List, leb, length, get_or}
use Rattle.condition.specs.Slots.{empty_slot, MayHold}
use Rattle.wire.specs.Steps.{steps}
use Rattle.kinds.specs.Words.{is_idle}
use Rattle.condition.specs.declared.slots.Coded.{Coded}
use Rattle.condition.specs.declared.slots.Slot.{Slot}
use Rattle.telegram.specs.Telegrams.{coded_at}
use Rattle.telegram.specs.declared.Telegram.{Telegram}

-- T-03: the slot of place k
abbrev pub slot_on : Telegram → ℕ → Slot
slot_on t k = get_or t.slots k empty_slot

-- T-01 to T-03, R-14: packet 3 to 7, a step number of thirteen bits, four slots as a desk or a reader holds them, no number twice
pub record Sendable (t : Telegram) : Type 0 where
  pub packet_from : 3 ≤ t.packet
  pub packet_to : t.packet ≤ 7
  pub step_below : t.step < steps
  pub four : length t.slots ≡ 4
  pub held : (k : ℕ) → MayHold (slot_on t k)
  pub distinct : (i j : ℕ) → i < j → j < 4 → 0 < (slot_on t i).number → (slot_on t i).number ≡ (slot_on t j).number → ⊥

-- K-10, CR1-1: bit b of a coded slot's second word is not considered; both places where that is so stand in `is_idle`
abbrev pub idle_in : Coded → ℕ → Bool
idle_in c b = is_idle c.kind c.first c.second b

-- K-12, CR1-3: bit b of byte i, bit 0 the lowest, may alter when a telegram is read and written again: it is a bit of a second word that is
-- not considered. After the first two bytes, byte i lies in place (i - 2) / 6, and there byte 4 has bits 15..8 of the second word, byte 5
-- bits 7..0.
unfoldable pub may_alter : List ℕ → ℕ → ℕ → Bool
may_alter bytes i b = leb 2 i && (leb 4 ((i - 2) % 6) && idle_in (coded_at bytes ((i - 2) / 6)) (b + (5 - (i - 2) % 6) * 8))
