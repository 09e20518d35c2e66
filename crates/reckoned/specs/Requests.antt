-- Document 02: cases of its requests, as rows beside those of document 01; each is what the definitions give beside what the paper says.
use Rattle.std.specs.Prelude.{ℕ, cond, ◌≡◌, List, [], ◌∷◌, eqb}
use Rattle.kit.specs.Text.{ascii}
use Rattle.wire.specs.Distances.{no_value}
use Rattle.condition.specs.declared.slots.Body.TheVariants as Body'
use Rattle.telegram.specs.Tables.{table_slot}
use Rattle.telegram.specs.Telegrams.{read_of, bytes_of}
use Rattle.listener.specs.Listeners.{carries, heard_all}
use Rattle.listing_seconds.specs.Seconds.{second_word}
use Rattle.reckoned.specs.Reckoned.{Row, numbers_are, readings_are, slots_are, slot_with, wire_bytes, ordering, held_first, fresh_refusal, reads, refuses}

-- ---- CR 1: voltage 0 has no country

-- the bytes of a telegram that is read and written again
unfoldable pub rewritten : List ℕ → List ℕ
rewritten bytes = bytes_of (read_of bytes).telegram

abbrev pub voltage_zero : List Row
voltage_zero =
    -- CR1-1, CR1-2: countries 33 and 1023 with voltage 0 are accepted and held as zero, by the reader and by the desk
    readings_are (read_of (wire_bytes 4 0 0x0210)) (reads (Body'.Traction 0 0 0))
    ∷ readings_are (read_of (wire_bytes 4 0 0x3FF0)) (reads (Body'.Traction 0 0 0))
    ∷ numbers_are (fresh_refusal (ordering 4 0 0x0210)) (0 ∷ [])
    ∷ slots_are (held_first (ordering 4 0 0x0210)) (slot_with (Body'.Traction 0 0 0))
    ∷ slots_are (held_first (ordering 4 0 0x3FF0)) (slot_with (Body'.Traction 0 0 0))
    -- CR1-4: bit 14 and bit 15 are still checked there: refusal 6, of the telegram and of the list
    ∷ readings_are (read_of (wire_bytes 4 0 0x4210)) (refuses 6)
    ∷ readings_are (read_of (wire_bytes 4 0 0x8210)) (refuses 6)
    ∷ numbers_are (fresh_refusal (ordering 4 0 0x4210)) (6 ∷ [])
    ∷ numbers_are (fresh_refusal (ordering 4 0 0x8210)) (6 ∷ [])
    -- K-10: but not where the change distance is missing
    ∷ readings_are (read_of (wire_bytes 4 0x8000 0xC210)) (reads (Body'.Traction 0x8000 0 0))
    ∷ slots_are (held_first (ordering 4 0x8000 0xC210)) (slot_with (Body'.Traction 0x8000 0 0))
    -- CR1-3: each of the two places is needed, with all its bits: a telegram that is read and written again has other bytes, in the second
    -- word of types 4 and 5 with change 8000h, and in the country of type 4 with voltage 0
    ∷ numbers_are (rewritten (wire_bytes 4 0x8000 0xFFFF)) (wire_bytes 4 0x8000 0)
    ∷ numbers_are (rewritten (wire_bytes 5 0x8000 0xFFFF)) (wire_bytes 5 0x8000 0)
    ∷ numbers_are (rewritten (wire_bytes 4 0 0x3FF0)) (wire_bytes 4 0 0)
    -- CR1-3: and with voltage 1 it has the same
    ∷ numbers_are (rewritten (wire_bytes 4 0 0x3FF1)) (wire_bytes 4 0 0x3FF1)
    ∷ []

-- A-36: whatever was heard, type 4 with voltage 0 is listed as `0/0`, and as `-` where the change distance is missing
abbrev pub UnfittedListed : Type 0
UnfittedListed =
    (telegrams : List (List ℕ)) (i change country : ℕ) → (table_slot (heard_all carries telegrams).picture i).body ≡ Body'.Traction change country 0
    → second_word (Body'.Traction change country 0) ≡ cond (eqb change no_value) (ascii "-") (ascii "0/0")
