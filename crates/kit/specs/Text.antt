-- Text that is quoted, as the bytes that are written: each character by its code. Of a character of ASCII the code is its byte.
use Rattle.std.specs.Prelude.{ℕ, List, [] as []ᴸ, ◌∷◌ as ◌∷ᴸ◌}
use Prim.Native.Char.{code}
use Prim.Native.String.{String, [], ◌∷◌}

abbrev pub ascii : String → List ℕ
ascii [] = []ᴸ
ascii (character ∷ text) = code character ∷ᴸ ascii text
