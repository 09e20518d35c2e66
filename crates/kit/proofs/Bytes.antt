-- Words and their two bytes, there and back; past the end of a list every byte is 0, and so is every number of bytes; and parts of bytes are
-- bytes.
use Prim.Native.Nat.{ℕ, zero, suc, ◌+◌, ◌/◌, ◌%◌, ◌<◌, ◌≤◌}
use mathlib.Core.Path.{◌≡◌, refl, sym, subst}
use mathlib.Core.List.{List, [], ◌∷◌, ◌++◌}
use lib.ListN.{length, take, drop, get_or-eq_default}
use lib.Seq.{get_or-drop}
use native.Mathlib.Omega.{arith}
use Rattle.kit.specs.Bytes.{Bytes, word_of_two, word_at, long_at}

-- a word is that of its bytes
pub word_back : (w : ℕ) → word_of_two (w / 256) (w % 256) ≡ w
word_back w = omega arith

-- the bytes of a word are those that made it
pub high-back : (high low : ℕ) → low < 256 → word_of_two high low / 256 ≡ high
high-back high low h = omega arith

pub low-back : (high low : ℕ) → low < 256 → word_of_two high low % 256 ≡ low
low-back high low h = omega arith

module _ (l : List ℕ) (i : ℕ) (past : length l ≤ i) where
  pub word-past : word_at l i ≡ 0
  word-past = rw (get_or-eq_default l 0 {n = i} past, get_or-eq_default l 0 {n = i + 1} (omega arith)) refl

  pub long-past : long_at l i ≡ 0
  long-past = rw (word-past, get_or-eq_default l 0 {n = i + 2} (omega arith), get_or-eq_default l 0 {n = i + 2 + 1} (omega arith)) refl

-- bytes in front, bytes behind, and bytes one after another
pub take-bytes : (n : ℕ) (l : List ℕ) → Bytes l → Bytes (take n l)
take-bytes zero l bytes i = omega arith
take-bytes (suc n) [] bytes i = omega arith
take-bytes (suc n) (x ∷ l) bytes zero = bytes 0
take-bytes (suc n) (x ∷ l) bytes (suc i) = take-bytes n l (λ j. bytes (suc j)) i

pub drop-bytes : (n : ℕ) (l : List ℕ) → Bytes l → Bytes (drop n l)
drop-bytes n l bytes i = subst (λ b. b < 256) (sym (get_or-drop n l i 0)) (bytes (n + i))

pub append_bytes : (l m : List ℕ) → Bytes l → Bytes m → Bytes (l ++ m)
append_bytes [] m front behind i = behind i
append_bytes (x ∷ l) m front behind zero = front 0
append_bytes (x ∷ l) m front behind (suc i) = append_bytes l m (λ j. front (suc j)) behind i
