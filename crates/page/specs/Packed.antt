-- Bytes packed into a number, the first one lowest; and how many digits a number has.
use Rattle.std.specs.Prelude.{ℕ, zero, suc, ◌+◌, ◌*◌, ◌/◌, ◌%◌, ◌<◌, cond, List, [], ◌∷◌, leb}

-- so many bytes of a number, the lowest first
unfoldable pub low_bytes : ℕ → ℕ → List ℕ
low_bytes zero piece = []
low_bytes (suc count) piece = piece % 256 ∷ low_bytes count (piece / 256)

-- the number made of bytes, the first one lowest
unfoldable pub number_made : List ℕ → ℕ
number_made [] = 0
number_made (byte ∷ more) = byte + number_made more * 256

-- numbers that are bytes
pub data Small : List ℕ → Type 0 where
  none_small : Small []
  one_small : {byte : ℕ} {more : List ℕ} → byte < 256 → Small more → Small (byte ∷ more)

-- how many digits stand before the last one, of a number below 100,000
unfoldable pub digits_before : ℕ → ℕ
digits_before n = cond (leb 10 n) 1 0 + cond (leb 100 n) 1 0 + cond (leb 1000 n) 1 0 + cond (leb 10000 n) 1 0
