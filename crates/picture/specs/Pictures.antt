-- What is judged of a whole table on the vehicle's side: how many conditions it has, and whether a number stands in it twice.
-- Document 01, "The listener", "Listing program" (K) and row 15.
use Rattle.std.specs.Prelude.{ℕ, Bool, ◌&&◌, List, eqb}
use Rattle.kit.specs.Loops.{any, how_many}
use Rattle.condition.specs.Slots.{is_occupied, slot_count}
use Rattle.condition.specs.declared.slots.Slot.{Slot}
use Rattle.telegram.specs.Tables.{table_slot}

-- G-03: the conditions of a table: its occupied slots
unfoldable pub count_of : List Slot → ℕ
count_of table = how_many (λ i. is_occupied (table_slot table i)) slot_count

-- A-19: an occupied slot with this number
unfoldable pub bears_number : ℕ → Slot → Bool
bears_number number slot = is_occupied slot && eqb slot.number number

-- R-15, A-19: slot i is occupied, and an earlier one has its number
unfoldable pub is_twice : List Slot → ℕ → Bool
is_twice table i = is_occupied (table_slot table i) && any (λ j. bears_number (table_slot table i).number (table_slot table j)) 0 i

-- R-15, L-09: a number twice across the set
unfoldable pub clashes : List Slot → Bool
clashes table = any (is_twice table) 0 slot_count
