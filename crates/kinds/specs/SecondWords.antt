-- The page of second words: document 02, request 4. The figures are those of document 01, "Conditions"; names and units those of SUBSET-119
-- issue 4.0.0, Tables 5-24 (exits), 5-25 and 5-33. The page says which words are allowed. When a second word is not considered, and what is
-- held of it, stands in Words.antt.
use Rattle.std.specs.Prelude.{ℕ, Bool, not, ◌&&◌, ◌||◌, List, [], ◌∷◌, eqb, ltb, leb, length, get_or}
use Rattle.std.specs.Int.Bits.{bit_and}
use Rattle.kit.specs.Loops.{any}
use Rattle.kinds.specs.declared.second_words.Row.{Row}

-- CR4-1, K-02 to K-04: type, bits that must be zero, bits that are looked at, the lowest and the highest number that these may be
unfoldable pub second_words : List Row
second_words =
    (1, 0x0000, 0xFFFF, 0, 65535)  -- OBU_TR_PG_D_Exit, m, Table 5-24
    ∷ (2, 0x0000, 0xFFFF, 0, 65535)  -- OBU_TR_AT_D_Exit, m, Table 5-24
    ∷ (3, 0x0000, 0xFFFF, 0, 65535)  -- OBU_TR_MPS_D_Exit, m, Table 5-24
    ∷ (4, 0xC000, 0x000F, 0, 5)  -- OBU_TR_CTS_NewVoltage in bits 3..0 and any OBU_TR_CTS_NewId in bits 13..4, code M_VOLTAGE, Table 5-25
    ∷ (5, 0xFC00, 0xFFFF, 0, 1000)  -- OBU_TR_ACC_Limit, 10 A, Table 5-33
    ∷ (5, 0xFC00, 0xFFFF, 1023, 1023)  -- OBU_TR_ACC_Limit, no restriction, Table 5-33
    ∷ (6, 0x0000, 0xFFFF, 0, 65535)  -- OBU_TR_RBI_D_Exit, m, Table 5-24
    ∷ (7, 0x0000, 0xFFFF, 0, 65535)  -- OBU_TR_MGI_D_Exit, m, Table 5-24
    ∷ (8, 0x0000, 0xFFFF, 0, 65535)  -- OBU_TR_ECS_D_Exit, m, Table 5-24
    ∷ (9, 0x0000, 0xFFFF, 0, 65535)  -- OBU_TR_ECE_D_Exit, m, Table 5-24
    ∷ []

-- the five columns of a row
abbrev pub type_in : Row → ℕ
type_in row = row.0

abbrev pub zeros_in : Row → ℕ
zeros_in row = row.1

abbrev pub looked_in : Row → ℕ
looked_in row = row.2

abbrev pub low_in : Row → ℕ
low_in row = row.3

abbrev pub high_in : Row → ℕ
high_in row = row.4

-- CR4-1, A-46: a word, of sixteen bits, is one of those of a row: of the bits that must be zero none is set, and the bits that are looked at
-- are a number from the lowest to the highest
unfoldable pub fits : Row → ℕ → Bool
fits row word =
    ltb word 0x10000
    && eqb (bit_and word (zeros_in row)) 0
    && leb (low_in row) (bit_and word (looked_in row))
    && leb (bit_and word (looked_in row)) (high_in row)

-- CR4-1: a row is one of the type's; and it has the word
abbrev pub is_of : ℕ → Row → Bool
is_of kind row = eqb (type_in row) kind

abbrev pub has_word : ℕ → ℕ → Row → Bool
has_word kind word row = is_of kind row && fits row word

-- row i of the page, from 0; and whether one of its rows is such
abbrev pub row_at : ℕ → Row
row_at i = get_or second_words i (0, 0, 0, 0, 0)

abbrev pub some_row : (Row → Bool) → Bool
some_row such = any (λ i. such (row_at i)) 0 (length second_words)

-- CR4-1: a type allows the words of its rows; Q-5: a type without a row allows every word
unfoldable pub on_page : ℕ → ℕ → Bool
on_page kind word = not (some_row (is_of kind)) || some_row (has_word kind word)
