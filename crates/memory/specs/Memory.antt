-- What the memory of a listener means that a host lends: 310 bytes, which need no alignment, and of which none is without a meaning.
--
--   0 to 139    the picture: twenty slots of seven bytes
-- 140 to 159    its marks, a byte each: 0 for new and for empty, else carried
-- 160 to 162    whether a step was taken (0 for never), and the number of the step last taken
-- 163 to 164    the step number of the set in hand
-- 165 to 169    which of the packets 3 to 7 are held, a byte each: 0 for those that are not
-- 170 to 309    the twenty slots of the set in hand
--
-- A slot's seven bytes are its number; what it holds: 0 nothing, 1 an area, 2 a change of traction, else a change of current; the type
-- of an area or the voltage of a change of traction; and two words, high byte first: entry and exit, change and country, change and
-- limit. So any slot has its bytes, and no telegram's coding is in them. Nothing of document 01 is decided here.
use Rattle.std.specs.Prelude.{ℕ, ◌+◌, ◌*◌, Bool, true, false, cond, not, List, [], ◌∷◌, ◌++◌, map, eqb, get_or, drop}
use Rattle.std.proofs.lemmas.List.Edits.{sets}
use Rattle.kit.specs.Bytes.{word_of_two, word_bytes}
use Rattle.kit.specs.Each.{each}
use Rattle.condition.specs.Slots.{slot_count}
use Rattle.condition.specs.declared.slots.Body.{Body}
use Rattle.condition.specs.declared.slots.Body.TheVariants.{Empty, Area, Traction, Current}
use Rattle.condition.specs.declared.slots.Slot.{Slot}
use Rattle.telegram.specs.Tables.{table_slot}

-- ---- where things stand

-- how many bytes the memory has
abbrev pub memory_size : ℕ
memory_size = 310

-- how many a slot has
abbrev pub slot_room : ℕ
slot_room = 7

abbrev pub marks_from : ℕ
marks_from = 140

abbrev pub last_from : ℕ
last_from = 160

abbrev pub step_from : ℕ
step_from = 163

abbrev pub held_from : ℕ
held_from = 165

abbrev pub set_from : ℕ
set_from = 170

-- where slot i of a table stands that begins at `from`
abbrev pub slot_place : ℕ → ℕ → ℕ
slot_place from i = from + slot_room * i

-- ---- slots

-- what a slot holds, by the byte that says which, the byte after it and two words
unfoldable pub body_from : ℕ → ℕ → ℕ → ℕ → Body
body_from shape own first second =
    cond (eqb shape 0) Empty
    (cond (eqb shape 1) (Area own first second)
    (cond (eqb shape 2) (Traction first second own)
    (Current first second)))

-- the slot whose bytes begin at `at`
unfoldable pub stored_slot : List ℕ → ℕ → Slot
stored_slot memory at =
    record {
      number = get_or memory at 0;
      body =
          body_from (get_or memory (at + 1) 0) (get_or memory (at + 2) 0)
          (word_of_two (get_or memory (at + 3) 0) (get_or memory (at + 4) 0))
          (word_of_two (get_or memory (at + 5) 0) (get_or memory (at + 6) 0));
    }

-- the table of twenty slots that begins at `from`
unfoldable pub table_at : List ℕ → ℕ → List Slot
table_at memory from = each (λ i. stored_slot memory (slot_place from i) ∷ []) 0 slot_count

-- the type of such a slot, 0 of an empty one
unfoldable pub kind_from : ℕ → ℕ → ℕ
kind_from shape own = cond (eqb shape 0) 0 (cond (eqb shape 1) own (cond (eqb shape 2) 4 5))

-- the bytes of a slot
abbrev pub body_bytes : ℕ → Body → List ℕ
body_bytes number Empty = number ∷ 0 ∷ 0 ∷ (word_bytes 0 ++ word_bytes 0)
body_bytes number (Area kind entry exit) = number ∷ 1 ∷ kind ∷ (word_bytes entry ++ word_bytes exit)
body_bytes number (Traction change country voltage) = number ∷ 2 ∷ voltage ∷ (word_bytes change ++ word_bytes country)
body_bytes number (Current change limit) = number ∷ 3 ∷ 0 ∷ (word_bytes change ++ word_bytes limit)

unfoldable pub slot_bytes : Slot → List ℕ
slot_bytes slot = body_bytes slot.number slot.body

-- the bytes of a table
unfoldable pub table_bytes : List Slot → List ℕ
table_bytes table = each (λ i. slot_bytes (table_slot table i)) 0 slot_count

-- the memory with slot i of the set in hand put in; past the twentieth nothing is put
unfoldable pub with_slot : List ℕ → ℕ → Slot → List ℕ
with_slot memory i slot = sets memory (slot_place set_from i) (slot_bytes slot)

-- the memory with the slots of the set in hand for its picture
unfoldable pub with_picture : List ℕ → List ℕ
with_picture memory = sets memory 0 (drop set_from memory)

-- ---- flags

-- whether a byte says so, and the byte that says it
abbrev pub is_set : ℕ → Bool
is_set byte = not (eqb byte 0)

abbrev pub flag_byte : Bool → ℕ
flag_byte true = 1
flag_byte false = 0

-- n flags from `from` on
unfoldable pub flags_at : List ℕ → ℕ → ℕ → List Bool
flags_at memory from n = each (λ k. is_set (get_or memory (from + k) 0) ∷ []) 0 n

-- the memory with these marks for the picture's
unfoldable pub with_marks : List ℕ → List Bool → List ℕ
with_marks memory marks = sets memory marks_from (map flag_byte marks)

-- ---- the parts of the memory that are tables and flags

-- the picture, its marks, and the slots of the set in hand
abbrev pub picture_in : List ℕ → List Slot
picture_in memory = table_at memory 0

abbrev pub marks_in : List ℕ → List Bool
marks_in memory = flags_at memory marks_from slot_count

abbrev pub set_in : List ℕ → List Slot
set_in memory = table_at memory set_from
