-- Two texts compared.
use Rattle.std.specs.Prelude.{ℕ, Bool, not, ◌&&◌, List, eqb, length, get_or}
use Rattle.kit.specs.Loops.{any}

-- byte i is not the same in both
abbrev pub differs_at : List ℕ → List ℕ → ℕ → Bool
differs_at text words i = not (eqb (get_or text i 0) (get_or words i 0))

-- as many bytes, and each the same; proofs/Bytes.antt has that they are then one text
unfoldable pub is_same_text : List ℕ → List ℕ → Bool
is_same_text text words = eqb (length text) (length words) && not (any (differs_at text words) 0 (length words))
