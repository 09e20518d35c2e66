-- A table and flags that were put into the memory are read back from it. No byte need be below 256 for that.
use Prim.Native.Nat.{ℕ, ◌+◌, ◌*◌, ◌<◌, ◌≤◌}
use mathlib.Core.Path.{◌≡◌, refl, sym, ap, ◌∙◌}
use mathlib.Core.Bool.{Bool, true, false}
use mathlib.Core.List.{List, map}
use lib.ListN.{length, get_or, length-map}
use lib.Seq.{sets, ext_get_or}
use native.Mathlib.Omega.{arith}
use Rattle.kit.proofs.Each.{length-each, each_at}
use Rattle.kit.proofs.Maps.{map_at}
use Rattle.kit.proofs.Stores.{sets_in}
use Rattle.condition.specs.Slots.{empty_slot, slot_count}
use Rattle.condition.specs.declared.slots.Slot.{Slot}
use Rattle.telegram.specs.Tables.{table_slot}
use Rattle.memory.specs.Memory.{slot_room, slot_place, table_at, slot_bytes, table_bytes, is_set, flag_byte, flags_at}
use Rattle.memory.proofs.Slots.{slot_in_lem, length-table, flag_in, length_flags, slot_same, slot-length, slot-back}

-- ---- a table

module _ (table : List Slot) where
  abbrev bytes : ℕ → List ℕ
  bytes i = slot_bytes (table_slot table i)

  abbrev sized : (i : ℕ) → length (bytes i) ≡ slot_room
  sized i = slot-length (table_slot table i)

  pub table-length : length (table_bytes table) ≡ slot_room * slot_count
  unfolding table_bytes
  table-length = length-each bytes slot_room sized 0 slot_count

  -- byte r of slot i among its bytes
  byte_at : (i r : ℕ) → i < slot_count → r < slot_room → get_or (table_bytes table) (i * slot_room + r) 0 ≡ get_or (bytes i) (0 + r) 0
  unfolding table_bytes
  byte_at i r p q =
      let slot : 0 + i ≡ i = omega arith in
      let byte : r ≡ 0 + r = omega arith in
      each_at bytes slot_room sized 0 0 slot_count i r p q ∙ (λ t. get_or (bytes (slot t)) (byte t) 0)

  module _ (memory : List ℕ) (from : ℕ) where
    pub table-back : length table ≡ slot_count → from + slot_room * slot_count ≤ length memory → table_at (sets memory from (table_bytes table)) from ≡ table
    table-back twenty fits =
        let after = sets memory from (table_bytes table) in
        ext_get_or empty_slot (table_at after from) table (length-table after from ∙ sym twenty)
        (λ i p.
        let q : i < slot_count = omega (arith, length-table after from) in
        slot_in_lem after from i q
        ∙ (slot_same after (bytes i) (slot_place from i) 0
        (λ r s.
        let e : slot_place from i + r ≡ from + (i * slot_room + r) = omega arith in
        ap (λ (n : ℕ). get_or after n 0) e
        ∙ (sets_in 0 (table_bytes table) memory from (i * slot_room + r) (omega (arith, table-length)) (omega (arith, table-length)) ∙ byte_at i r q s))
        ∙ slot-back (table_slot table i)))

-- ---- flags

flag-back : (flag : Bool) → is_set (flag_byte flag) ≡ flag
flag-back true = refl
flag-back false = refl

pub flags_back : (flags : List Bool) (memory : List ℕ) (from : ℕ) → from + length flags ≤ length memory
    → flags_at (sets memory from (map flag_byte flags)) from (length flags) ≡ flags
flags_back flags memory from fits =
    let after = sets memory from (map flag_byte flags) in
    ext_get_or false (flags_at after from (length flags)) flags (length_flags after from (length flags))
    (λ k p.
    let q : k < length flags = omega (arith, length_flags after from (length flags)) in
    let long = length-map flags flag_byte in
    flag_in after from (length flags) k q
    ∙ (ap is_set (sets_in 0 (map flag_byte flags) memory from k (omega (arith, long)) (omega (arith, long)) ∙ map_at flag_byte flags k false 0 q) ∙ flag-back (get_or flags k false)))
