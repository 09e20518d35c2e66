-- Numbers in decimal.
use Rattle.std.specs.Prelude.{ℕ, zero, suc, ◌+◌, ◌-◌, ◌*◌, ◌/◌, ◌%◌, ◌<◌, ◌≤◌, ◌≡◌, cond, List, [], ◌∷◌, ◌++◌, ltb, length, get_or}
use Prim.Native.Char.{code}

-- A-35: the last digit, in ASCII
abbrev pub digit : ℕ → List ℕ
digit n = (code "0" + n % 10) ∷ []

-- A-35: all digits, the last one after those of a tenth of the number, but for no leading zero; `most` is as many digits as there can be
-- before the last
unfoldable pub digits : ℕ → ℕ → List ℕ
digits zero n = digit n
digits (suc most) n = cond (ltb n 10) (digit n) (digits most (n / 10) ++ digit n)

-- A-35: a number in decimal without leading zeros
unfoldable pub decimal : ℕ → List ℕ
decimal n = digits n n

-- ---- what that means, without the formula; proofs/ReadBack.antt proves it of `decimal`

-- A-35: the number that digits say, read from the left, after those that said `so_far`
abbrev pub value_from : ℕ → List ℕ → ℕ
value_from so_far [] = so_far
value_from so_far (byte ∷ more) = value_from (so_far * 10 + (byte - code "0")) more

-- A-35: a text is a number in decimal: digits in ASCII that say the number, and the first is a zero only where it is the only one
pub record IsDecimal (number : ℕ) (text : List ℕ) : Type 0 where
  pub some : 1 ≤ length text
  pub digits_only : (i : ℕ) → i < length text → (code "0" ≤ get_or text i 0) × (get_or text i 0 ≤ code "9")
  pub value : value_from 0 text ≡ number
  pub leading : 2 ≤ length text → code "1" ≤ get_or text 0 0
