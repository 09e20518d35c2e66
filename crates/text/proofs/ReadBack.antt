-- A number in decimal reads back as that number, and has no leading zero (A-35).
use Prim.Native.Nat.{ℕ, zero, suc, ◌+◌, ◌-◌, ◌*◌, ◌/◌, ◌%◌, ◌<◌, ◌≤◌}
use Prim.Native.Char.{code}
use mathlib.Core.Path.{◌≡◌, refl, sym, ap, ◌∙◌, subst}
use mathlib.Core.List.{List, [], ◌∷◌, ◌++◌}
use lib.Dec.{ltb}
use lib.ListN.{length, get_or}
use native.Mathlib.Omega.{arith}
use borrow.Author.Tests.{ltb-true, ltb-false}
use Rattle.kit.proofs.Cases.{on, given}
use Rattle.text.specs.Decimals.{digit, decimal, value_from, IsDecimal}
use Rattle.text.proofs.Numerals.{decimal-one, decimal-more}

value_append : (so_far : ℕ) (a b : List ℕ) → value_from so_far (a ++ b) ≡ value_from (value_from so_far a) b
value_append so_far [] b = refl
value_append so_far (c ∷ a) b = value_append (so_far * 10 + (c - 48)) a b

value-below : (k n : ℕ) → n ≤ k → value_from 0 (decimal n) ≡ n
value-below zero n p = let z : n ≡ 0 = omega arith in ap (value_from 0) (decimal-one n (omega arith)) ∙ omega arith
value-below (suc k) n p =
    on (ltb n 10)
    (λ e. ap (value_from 0) (decimal-one n (ltb-true n 10 e)) ∙ omega arith)
    (λ e.
    let many = ltb-false n 10 e in
    ap (value_from 0) (decimal-more n many)
    ∙ (value_append 0 (decimal (n / 10)) (digit n)
    ∙ (ap (λ v. value_from v (digit n)) (value-below k (n / 10) (omega arith)) ∙ omega arith)))

pub decimal-value : (n : ℕ) → value_from 0 (decimal n) ≡ n
decimal-value n = value-below n n (omega arith)

-- the first digit
abbrev Leads : ℕ → List ℕ → Type 0
Leads c l = (more : List ℕ) × (l ≡ c ∷ more)

leads_below : (k n : ℕ) → n ≤ k → 1 ≤ n → (c : ℕ) × (49 ≤ c) × (c ≤ 57) × Leads c (decimal n)
leads_below zero n p q = absurd (omega arith)
leads_below (suc k) n p q =
    on (ltb n 10)
    (λ e. let small = ltb-true n 10 e in (48 + n, omega arith, omega arith, ([], decimal-one n small)))
    (λ e.
    let many = ltb-false n 10 e in
    given (leads_below k (n / 10) (omega arith) (omega arith))
    (λ (c, low, high, (more, same)). (c, low, high, (more ++ digit n, decimal-more n many ∙ ap (λ l. l ++ digit n) same))))

-- of a number above 0 it is 1 to 9
pub decimal_leads : (n : ℕ) → 1 ≤ n → (c : ℕ) × (49 ≤ c) × (c ≤ 57) × Leads c (decimal n)
decimal_leads n = leads_below n n (omega arith)

-- ---- all of it

abbrev Ascii : List ℕ → Type 0
Ascii text = (i : ℕ) → i < length text → (48 ≤ get_or text i 0) × (get_or text i 0 ≤ 57)

ascii-one : (c : ℕ) → 48 ≤ c → c ≤ 57 → Ascii (c ∷ [])
ascii-one c low high zero p = (low, high)
ascii-one c low high (suc i) p = absurd (omega arith)

ascii_append : (a b : List ℕ) → Ascii a → Ascii b → Ascii (a ++ b)
ascii_append [] b p q i r = q i r
ascii_append (c ∷ a) b p q zero r = p zero (omega arith)
ascii_append (c ∷ a) b p q (suc i) r = ascii_append a b (λ k s. p (suc k) (omega arith)) q i (omega arith)

ascii-below : (k n : ℕ) → n ≤ k → Ascii (decimal n)
ascii-below zero n p = subst Ascii (sym (decimal-one n (omega arith))) (ascii-one (48 + n) (omega arith) (omega arith))
ascii-below (suc k) n p =
    on (ltb n 10)
    (λ e. let small = ltb-true n 10 e in subst Ascii (sym (decimal-one n small)) (ascii-one (48 + n) (omega arith) (omega arith)))
    (λ e.
    let many = ltb-false n 10 e in
    subst Ascii (sym (decimal-more n many))
    (ascii_append (decimal (n / 10)) (digit n) (ascii-below k (n / 10) (omega arith)) (ascii-one (48 + n % 10) (omega arith) (omega arith))))

-- A-35: `decimal` gives the number in decimal
pub decimal-is : (n : ℕ) → IsDecimal n (decimal n)
decimal-is n =
    on (ltb n 1)
    (λ e.
    let one : length (decimal n) ≡ 1 = ap length (decimal-one n (omega (arith, ltb-true n 1 e))) in
    record { some = omega arith; digits_only = ascii-below n n (omega arith); value = decimal-value n; leading = λ p. absurd (omega arith) })
    (λ e.
    given (decimal_leads n (ltb-false n 1 e))
    (λ (c, low, high, (more, same)).
    let long : length (decimal n) ≡ length more + 1 = ap length same ∙ omega arith in
    record { some = omega arith; digits_only = ascii-below n n (omega arith); value = decimal-value n; leading = λ p. subst (λ text. code "1" ≤ get_or text 0 0) (sym same) low }))
