-- The types of conditions and their second words: document 01, "Conditions", its table and the paragraph on words that are not
-- considered; and document 02, request 1: voltage 0 has no country.
use Rattle.std.specs.Prelude.{ℕ, ◌-◌, ◌*◌, ◌/◌, ◌%◌, Bool, true, cond, not, ◌&&◌, ◌||◌, eqb, ltb, leb}
use Rattle.wire.specs.Distances.{no_value}

-- K-02: 1 powerless, pantograph lowered; 2 air tightness; 3 powerless, main switch off; 4 change of traction system; 5 change of
-- allowed current; 6 to 9 brake inhibition: regenerative, magnetic shoe, eddy current service, eddy current emergency
abbrev pub is_type : ℕ → Bool
is_type kind = leb 1 kind && leb kind 9

-- K-03: bits 13..4 of the second word of type 4 are the country, bits 3..0 the voltage
abbrev pub country_in : ℕ → ℕ
country_in second = second / 16 % 1024

abbrev pub voltage_in : ℕ → ℕ
voltage_in second = second % 16

-- K-03: voltage 0 to 5
abbrev pub is_voltage : ℕ → Bool
is_voltage voltage = leb voltage 5

-- K-03: bits 15..14 zero, any country, and one of these voltages; CR1-4: bits 15..14 zero with voltage 0, too
abbrev pub is_traction_word : ℕ → Bool
is_traction_word second = ltb second 0x4000 && is_voltage (voltage_in second)

-- K-04: a limit of 0 to 1000 in units of 10 A, or 1023 for no restriction
abbrev pub is_current_word : ℕ → Bool
is_current_word second = leb second 1000 || eqb second 1023

-- K-10: for types 4 and 5, when the change distance is 8000h, the second word is not considered
unfoldable pub is_considered : ℕ → ℕ → Bool
is_considered kind first = not (eqb first no_value && (eqb kind 4 || eqb kind 5))

-- R-06, K-01, K-03, K-04, K-10: the second word is allowed for the type; K-08: where it is an exit every word is, whatever the entry;
-- CR1-1, CR1-4: with voltage 0 any country is
unfoldable pub second_allowed : ℕ → ℕ → ℕ → Bool
second_allowed kind first second =
    not (is_considered kind first)
    || cond (eqb kind 4) (is_traction_word second) (cond (eqb kind 5) (is_current_word second) true)

-- CR1-1: for type 4 with voltage 0, a line that is fitted with no traction system, the ten country bits are not considered
unfoldable pub is_unfitted : ℕ → ℕ → Bool
is_unfitted kind second = eqb kind 4 && eqb (voltage_in second) 0

-- The bits of a second word that are not considered, bit 0 the lowest: these two places together, and no other (K-12, CR1-3).
-- K-10: of types 4 and 5, when the change distance is 8000h, every bit
-- CR1-1: of type 4 with voltage 0, bits 13..4
unfoldable pub is_idle : ℕ → ℕ → ℕ → ℕ → Bool
is_idle kind first second b = not (is_considered kind first) || (is_unfitted kind second && (leb 4 b && leb b 13))

-- K-11, CR1-2: what is not considered is held as zero, the whole second word or its country bits
unfoldable pub second_held : ℕ → ℕ → ℕ → ℕ
second_held kind first second = cond (is_considered kind first) (cond (is_unfitted kind second) (second - country_in second * 16) second) 0
