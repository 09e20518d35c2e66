-- A number in decimal is its last digit after the decimal of its tenth, or that digit alone; in hexadecimal it has as many digits as are
-- asked for.
use Prim.Native.Nat.{ℕ, zero, suc, ◌+◌, ◌/◌, ◌%◌, ◌^◌, ◌<◌, ◌≤◌}
use mathlib.Core.Path.{◌≡◌, refl, sym, ap, ◌∙◌, subst}
use mathlib.Core.List.{[], ◌∷◌, ◌++◌}
use lib.Dec.{ltb}
use lib.ListN.{length, length-append}
use native.Mathlib.Nat.{pow-suc}
use native.Mathlib.Omega.{arith}
use borrow.Author.Tests.{lt-ltb, le-ltb, ltb-true, ltb-false}
use Rattle.kit.proofs.Cases.{on}
use Rattle.text.specs.Decimals.{digit, digits, decimal}
use Rattle.text.specs.Hexadecimals.{hex_digit, hexadecimal}

-- as many digits as the number is large are always enough
enough : (a b n : ℕ) → n ≤ a → n ≤ b → digits a n ≡ digits b n
unfolding digits
enough zero zero n p q = refl
enough zero (suc b) n p q = rw (lt-ltb n 10 (omega arith)) refl
enough (suc a) zero n p q = rw (lt-ltb n 10 (omega arith)) refl
enough (suc a) (suc b) n p q =
    on (ltb n 10) (λ e. rw e refl) (λ e. rw e (ap (λ l. l ++ digit n) (enough a b (n / 10) (omega (arith, ltb-false n 10 e)) (omega (arith, ltb-false n 10 e)))))

pub decimal-one : (n : ℕ) → n < 10 → decimal n ≡ (48 + n) ∷ []
unfolding decimal digits
decimal-one n p =
    let e : n % 10 ≡ n = omega arith in
    enough n (suc n) n (omega arith) (omega arith) ∙ rw (lt-ltb n 10 p) (ap (λ d. (48 + d) ∷ []) e)

pub decimal-more : (n : ℕ) → 10 ≤ n → decimal n ≡ decimal (n / 10) ++ digit n
unfolding decimal digits
decimal-more n p = enough n (suc n) n (omega arith) (omega arith) ∙ rw (le-ltb n 10 p) (ap (λ l. l ++ digit n) (enough n (n / 10) (n / 10) (omega arith) (omega arith)))

-- ---- how long they are

pub hexadecimal-long : (k n : ℕ) → length (hexadecimal k n) ≡ k
unfolding hexadecimal
hexadecimal-long zero n = refl
hexadecimal-long (suc k) n = omega (arith, length-append (hexadecimal k (n / 16)) (hex_digit (n % 16) ∷ []), hexadecimal-long k (n / 16))

-- a number below 10 ^ k has at most k digits
pub decimal-short : (k n : ℕ) → n < 10 ^ k → 1 ≤ k → length (decimal n) ≤ k
decimal-short zero n p q = absurd (omega arith)
decimal-short (suc zero) n p q = subst (λ l. length l ≤ 1) (sym (decimal-one n p)) (omega arith)
decimal-short (suc (suc k)) n p q =
    let tenth : n / 10 < 10 ^ suc k = omega (arith, pow-suc 10 (suc k)) in
    on (ltb n 10)
    (λ e. subst (λ l. length l ≤ suc (suc k)) (sym (decimal-one n (ltb-true n 10 e))) (omega arith))
    (λ e.
    subst (λ l. length l ≤ suc (suc k)) (sym (decimal-more n (omega (arith, ltb-false n 10 e))))
    (omega (arith, length-append (decimal (n / 10)) (digit n), decimal-short (suc k) (n / 10) tenth (omega arith))))

-- a byte has at most three
pub decimal_byte : (n : ℕ) → n < 256 → length (decimal n) ≤ 3
decimal_byte n p = decimal-short 3 n (omega arith) (omega arith)
