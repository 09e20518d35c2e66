-- Which slots of a table a packet carries (T-04).
use Rattle.std.specs.Prelude.{ℕ, ◌+◌, ◌-◌, ◌*◌, List, [], ◌∷◌, get_or}
use Rattle.condition.specs.Slots.{empty_slot}
use Rattle.condition.specs.declared.slots.Slot.{Slot}

-- W-01: slot i of a table; past its end, empty
abbrev pub table_slot : List Slot → ℕ → Slot
table_slot table i = get_or table i empty_slot

-- T-01, W-03: five packets carry them, 3 to 7
abbrev pub packets : ℕ
packets = 5

abbrev pub first_packet : ℕ
first_packet = 3

-- T-04: packet p carries slots 4(p-3) to 4(p-3)+3
abbrev pub first_slot : ℕ → ℕ
first_slot packet = 4 * (packet - first_packet)

-- T-04: so place k of packet p is slot 4(p-3)+k
abbrev pub carried_slot : List Slot → ℕ → ℕ → Slot
carried_slot table packet k = table_slot table (first_slot packet + k)

-- T-04: the four of them
unfoldable pub four_of : List Slot → ℕ → List Slot
four_of table packet = carried_slot table packet 0 ∷ carried_slot table packet 1 ∷ carried_slot table packet 2 ∷ carried_slot table packet 3 ∷ []
