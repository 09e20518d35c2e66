-- Bits of numbers: zero has none; below k, a multiple of 2 ^ k makes no difference; from k on, they are the bits of what division by 2 ^ k
-- leaves.
use Prim.Native.Nat.{ℕ, zero, suc, ◌+◌, ◌-◌, ◌*◌, ◌/◌, ◌%◌, ◌<◌, ◌≤◌, ◌^◌}
use mathlib.Core.Path.{◌≡◌, refl, sym, ap, ◌∙◌}
use mathlib.Core.Bool.{false}
use lib.Dec.{eqb}
use native.Mathlib.Nat.{add-zero, add-suc, mul_assoc, mul_comm, pow-suc, div-div-eq-div-mul}
use native.Mathlib.Omega.{arith}
use Rattle.kit.specs.Bytes.{bit}

pub bit-zero : (i : ℕ) → bit i 0 ≡ false
bit-zero zero = refl
bit-zero (suc i) = bit-zero i

-- of an even number and another
doubled : (i m n : ℕ) → ((j : ℕ) → i ≡ suc j → bit j (m + n / 2) ≡ bit j (n / 2)) → bit i (m * 2 + n) ≡ bit i n
doubled zero m n halves = let same : (m * 2 + n) % 2 ≡ n % 2 = omega arith in ap (λ r. eqb r 1) same
doubled (suc j) m n halves = let half : (m * 2 + n) / 2 ≡ m + n / 2 = omega arith in ap (bit j) half ∙ halves j refl

pub bit_beside : (k i m n : ℕ) → i < k → bit i (m * 2 ^ k + n) ≡ bit i n
bit_beside zero i m n p = absurd (omega arith)
bit_beside (suc k) i m n p =
    let twice : m * 2 ^ suc k ≡ m * 2 ^ k * 2 = ap (λ power. m * power) (pow-suc 2 k) ∙ sym (mul_assoc m (2 ^ k) 2) in
    ap (λ x. bit i (x + n)) twice ∙ doubled i (m * 2 ^ k) n (λ j e. bit_beside k j m (n / 2) (omega arith))

pub bit-above : (k i n : ℕ) → bit (i + k) n ≡ bit i (n / 2 ^ k)
bit-above zero i n = let whole : n ≡ n / 2 ^ 0 = omega arith in ap (λ j. bit j n) (add-zero i) ∙ ap (bit i) whole
bit-above (suc k) i n =
    ap (λ j. bit j n) (add-suc i k)
    ∙ (bit-above k i (n / 2) ∙ ap (bit i) (div-div-eq-div-mul n 2 (2 ^ k) ∙ ap (λ x. n / x) (mul_comm 2 (2 ^ k) ∙ sym (pow-suc 2 k))))

-- of a word, the byte below has the lower eight; and a byte has no others
pub bit-low : (i n : ℕ) → i < 8 → bit i (n % 256) ≡ bit i n
bit-low i n p = let parts : n / 256 * 2 ^ 8 + n % 256 ≡ n = omega arith in sym (bit_beside 8 i (n / 256) (n % 256) p) ∙ ap (bit i) parts

pub bit_past : (i n : ℕ) → 8 ≤ i → n < 256 → bit i n ≡ false
bit_past i n p q =
    let split : i ≡ (i - 8) + 8 = omega arith in
    let none : n / 2 ^ 8 ≡ 0 = omega arith in ap (λ j. bit j n) split ∙ (bit-above 8 (i - 8) n ∙ (ap (bit (i - 8)) none ∙ bit-zero (i - 8)))
