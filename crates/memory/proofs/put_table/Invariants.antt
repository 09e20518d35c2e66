-- `put_table`: after i turns the bytes of the first i slots are put.
use Prim.Native.Nat.{ℕ}
use mathlib.Core.List.{List}
use Rattle.kit.specs.Each.{each}
use Rattle.kit.specs.Put.{Put}
use Rattle.condition.specs.declared.slots.Slot.{Slot}
use Rattle.telegram.specs.Tables.{table_slot}
use Rattle.memory.specs.Memory.{slot_place, slot_bytes}
use Rattle.memory.proofs.put_table.Given as goal

-- the bytes of slot i
abbrev pub bytes : List Slot → ℕ → List ℕ
bytes table i = slot_bytes (table_slot table i)

abbrev pub invariant-loop-i : goal.invariant-loop-i
invariant-loop-i l = Put l.initial.memory l.from (each (bytes l.fn.table) 0 l.i) l.memory (slot_place l.from l.i)
