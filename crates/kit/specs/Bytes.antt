-- Bytes, the words of two bytes and the numbers of four, high byte first; and their bits.
--
-- A slice of bytes is a list of numbers. Its type holds each of them below 256; a statement about a list alone says so by `Bytes`.
use Rattle.std.specs.Prelude.{ℕ, zero, suc, ◌+◌, ◌*◌, ◌/◌, ◌%◌, ◌<◌, Bool, List, [], ◌∷◌, eqb, get_or}

-- every number of the list is a byte
abbrev pub Bytes : List ℕ → Type 0
Bytes l = (i : ℕ) → get_or l i 0 < 256

-- the word of two bytes
abbrev pub word_of_two : ℕ → ℕ → ℕ
word_of_two high low = high * 256 + low

-- the word at index i of a list of bytes, and the number of four bytes there
abbrev pub word_at : List ℕ → ℕ → ℕ
word_at l i = word_of_two (get_or l i 0) (get_or l (i + 1) 0)

abbrev pub long_at : List ℕ → ℕ → ℕ
long_at l i = word_at l i * 0x10000 + word_at l (i + 2)

-- bit i of a number, bit 0 the lowest
abbrev pub bit : ℕ → ℕ → Bool
bit zero n = eqb (n % 2) 1
bit (suc i) n = bit i (n / 2)

-- the two bytes of a word
abbrev pub word_bytes : ℕ → List ℕ
word_bytes w = (w / 256) ∷ (w % 256) ∷ []
