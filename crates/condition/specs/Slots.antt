-- A slot and its coding: document 01, "Conditions" and "Telegrams", rows 12, 13 and 6; and document 02, request 1: voltage 0 has no country.
use Rattle.std.specs.Prelude.{ℕ, ◌+◌, ◌*◌, ◌%◌, ◌<◌, ◌≡◌, Bool, true, false, cond, not, ◌&&◌, List, [], ◌∷◌, ◌++◌, eqb, ltb}
use Rattle.kit.specs.Bytes.{word_bytes}
use Rattle.kit.specs.Ladder.{ladder}
use Rattle.wire.specs.Distances.{no_value}
use Rattle.kinds.specs.Words.{is_type, country_in, voltage_in, is_voltage, is_current_word, second_allowed, second_held}
use Rattle.condition.specs.declared.slots.Body.{Body}
use Rattle.condition.specs.declared.slots.Body.TheVariants.{Empty, Area, Traction, Current}
use Rattle.condition.specs.declared.slots.Coded.{Coded}
use Rattle.condition.specs.declared.slots.Slot.{Slot}

-- W-01: a table has twenty slots, 0 to 19
abbrev pub slot_count : ℕ
slot_count = 20

-- T-05: the empty slot
abbrev pub empty_slot : Slot
empty_slot = record { number = 0; body = Empty }

-- T-05, A-38: a slot is occupied unless its body is the empty one
abbrev pub is_filled : Body → Bool
is_filled Empty = false
is_filled (Area kind entry exit) = true
is_filled (Traction change country voltage) = true
is_filled (Current change limit) = true

-- the same, of the slot
abbrev pub is_occupied : Slot → Bool
is_occupied x = is_filled x.body

-- K-01 to K-04, K-11, CR1-2: the body that a type and two words make, by the second word as it is held
unfoldable pub body_of : ℕ → ℕ → ℕ → Body
body_of kind first second =
    cond (eqb kind 4) (Traction first (country_in (second_held kind first second)) (voltage_in (second_held kind first second)))
    (cond (eqb kind 5) (Current first (second_held kind first second))
    (cond (is_type kind) (Area kind first second) Empty))

-- T-03: the slot that number, type and two words mean
abbrev pub slot_in : Coded → Slot
slot_in c = record { number = c.number; body = body_of c.kind c.first c.second }

-- R-12: slot number 0 with another byte not zero
-- R-13: slot number above 0, type not 1 to 9
-- R-06: second word not allowed for the type
unfoldable pub slot_rows : Coded → List (Bool × ℕ)
slot_rows c =
    (eqb c.number 0 && not (eqb c.kind 0 && eqb c.first 0 && eqb c.second 0), 12)
    ∷ (ltb 0 c.number && not (is_type c.kind), 13)
    ∷ (not (second_allowed c.kind c.first c.second), 6)
    ∷ []

-- R-20, R-23: the first of these rows that holds, or 0
abbrev pub slot_refusal : Coded → ℕ
slot_refusal c = ladder 0 (slot_rows c)

-- K-01 to K-04, M-2a: number, type and words of a slot that is written; T-05: an empty slot is all zero
abbrev pub coding : ℕ → Body → Coded
coding number Empty = record { number = 0; kind = 0; first = 0; second = 0 }
coding number (Area kind entry exit) = record { number = number; kind = kind; first = entry; second = exit }
coding number (Traction change country voltage) = record { number = number; kind = 4; first = change; second = country % 1024 * 16 + voltage % 16 }
coding number (Current change limit) = record { number = number; kind = 5; first = change; second = limit }

-- the same, of the slot
unfoldable pub coded_of : Slot → Coded
coded_of x = coding x.number x.body

-- K-01 to K-04: the type of a slot, 0 of an empty one
abbrev pub kind_of : Slot → ℕ
kind_of x = (coded_of x).kind

-- K-11, CR1-2: what is left of a coded slot when it is read and written again: its second word as it is held
abbrev pub settled : Coded → Coded
settled c = record { number = c.number; kind = c.kind; first = c.first; second = second_held c.kind c.first c.second }

-- T-03, K-05: the six bytes: number, type, first word, second word, high byte first
unfoldable pub six_of : Coded → List ℕ
six_of c = (c.number ∷ []) ++ ((c.kind ∷ []) ++ (word_bytes c.first ++ word_bytes c.second))

-- What a desk or a reader can hold: a slot is empty exactly when its number is 0; types, voltages, countries and limits are
-- those of the table (K-01 to K-04); and what is not considered is zero: without a change distance all that follows it (K-11), and with
-- voltage 0 the country (CR1-2).
abbrev pub HeldBody : ℕ → Body → Type 0
HeldBody number Empty = number ≡ 0
HeldBody number (Area kind entry exit) = (0 < number) × (is_type kind ≡ true) × (eqb kind 4 ≡ false) × (eqb kind 5 ≡ false)
HeldBody number (Traction change country voltage) =
    (0 < number) × (country < 1024) × (is_voltage voltage ≡ true) × (change ≡ no_value → (country ≡ 0) × (voltage ≡ 0)) × (voltage ≡ 0 → country ≡ 0)
HeldBody number (Current change limit) = (0 < number) × (is_current_word limit ≡ true) × (change ≡ no_value → limit ≡ 0)

-- the same, of the slot
abbrev pub MayHold : Slot → Type 0
MayHold x = HeldBody x.number x.body
