-- Numbers in hexadecimal.
use Rattle.std.specs.Prelude.{ℕ, zero, suc, ◌+◌, ◌-◌, ◌/◌, ◌%◌, cond, List, [], ◌∷◌, ◌++◌, ltb}
use Prim.Native.Char.{code}

-- one digit in ASCII: 0 to 9, then a to f in lower case
abbrev pub hex_digit : ℕ → ℕ
hex_digit value = cond (ltb value 10) (code "0" + value) (code "a" + (value - 10))

-- so many digits, leading zeros too: the last one after those of a sixteenth of the number
unfoldable pub hexadecimal : ℕ → ℕ → List ℕ
hexadecimal zero number = []
hexadecimal (suc width) number = hexadecimal width (number / 16) ++ (hex_digit (number % 16) ∷ [])
