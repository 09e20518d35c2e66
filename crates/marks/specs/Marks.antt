-- Which entries of a table are carried on from the picture before it, and which are new: document 01, "The listener", its sentence
-- on carried entries.
use Rattle.std.specs.Prelude.{ℕ, Bool, ◌&&◌, List, map, eqb, leb}
use Rattle.kit.specs.Loops.{any}
use Rattle.condition.specs.Slots.{is_occupied, kind_of, slot_count}
use Rattle.condition.specs.declared.slots.Slot.{Slot}
use Rattle.telegram.specs.Tables.{table_slot}

-- L-06: the same number with the same type
unfoldable pub is_same : Slot → Slot → Bool
is_same before slot = eqb before.number slot.number && eqb (kind_of before) (kind_of slot)

-- L-06: the previous picture has it, in any slot
unfoldable pub is_known : List Slot → Slot → Bool
is_known before slot = any (λ j. is_same (table_slot before j) slot) 0 slot_count

-- L-06: an entry is carried if the gap is 1 to the reach, which is 8 in document 01, and the previous picture has the same number
-- with the same type; otherwise it is new
unfoldable pub is_carried : ℕ → ℕ → List Slot → Slot → Bool
is_carried reach gap before slot = is_occupied slot && (leb 1 gap && (leb gap reach && is_known before slot))

-- L-06: the marks of a table, true for carried
unfoldable pub marks_of : ℕ → ℕ → List Slot → List Slot → List Bool
marks_of reach gap before table = map (is_carried reach gap before) table
