-- Which telegrams from the train are refused: document 01, "Signals from the train", "all else zero", and "Refusal numbers", rows 10, 16
-- and 17.
use Rattle.std.specs.Prelude.{ℕ, Bool, not, ◌||◌, List, [], ◌∷◌, eqb, leb, length, get_or}
use Rattle.kit.specs.Bytes.{bit, long_at}
use Rattle.kit.specs.Ladder.{ladder}
use Rattle.kit.specs.Loops.{any}

-- S-08: one of the bytes 11 to 25 is set
unfoldable pub rest_set : List ℕ → Bool
rest_set t = any (λ i. not (eqb (get_or t i 0) 0)) 11 15

-- R-17, A-31: a zero bit set: bits 7..2 of byte 1, bits 7..3 of byte 2, bit 0 of the list of traction systems, bytes 11 to 25
unfoldable pub zero_bit_set : List ℕ → Bool
zero_bit_set t = leb 4 (get_or t 1 0) || (leb 8 (get_or t 2 0) || (bit 0 (long_at t 7) || rest_set t))

-- S-02, R-10, R-16, R-17, R-22: train: 10, 16, 17
unfoldable pub train_rows : List ℕ → List (Bool × ℕ)
train_rows t =
    (not (eqb (length t) 26), 10)
    ∷ (not (eqb (get_or t 0 0) 1), 16)
    ∷ (zero_bit_set t, 17)
    ∷ []

-- the refusal of a telegram, or 0
abbrev pub train_refusal : List ℕ → ℕ
train_refusal t = ladder 0 (train_rows t)
