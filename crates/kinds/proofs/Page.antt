-- The page of second words as a rule in numbers. One test, which the checker computes over the whole page, and one law that turns it into the
-- rule at each row; and what follows for each type: the rule as the base had it (CR4-2), which is the law that the other crates use.
use Prim.Native.Nat.{ℕ, ◌+◌, ◌-◌, ◌*◌, ◌/◌, ◌%◌, ◌^◌, ◌<◌, ◌≤◌}
use mathlib.Core.Path.{◌≡◌, refl, sym, ap, ◌∙◌, subst}
use mathlib.Core.Bool.{Bool, true, false, not, ◌&&◌, ◌||◌}
use lib.Bits.{bit_and, and_mask, and_high}
use lib.Dec.{eqb, ltb, leb}
use lib.ListN.{length}
use lib.Pow.{pow_pos, pow-add}
use native.Mathlib.Nat.{div-lt_iff_lt-mul, mod-eq_of_lt, div-add-mod', mod-lt}
use native.Mathlib.Omega.{arith}
use borrow.Author.Tests.{eqb-true, eqb-false, eq-eqb, ne_eqb, ltb-true, ltb-false, lt-ltb, le-ltb, leb-true, le-leb, lt-leb, not-false}
use Rattle.kit.specs.Loops.{any, scan}
use Rattle.kit.proofs.Cases.{on, given, and_both}
use Rattle.kit.proofs.Loops.{any_none, any_some, any_when, any_same}
use Rattle.kinds.specs.SecondWords.{second_words, type_in, zeros_in, looked_in, low_in, high_in, fits, is_of, has_word, row_at, some_row, on_page}
use Rattle.kinds.specs.Words.{voltage_in, is_voltage, is_traction_word, is_current_word, is_considered, second_allowed}
use Rattle.kinds.specs.declared.second_words.Row.{Row}

-- ---- one row

-- a mask of the bits from some bit up to bit 15, and one of the bits below some bit
abbrev is_upper : ℕ → Bool
is_upper mask = any (λ k. eqb (mask + 2 ^ k) (2 ^ 16)) 0 17

abbrev is_lower : ℕ → Bool
is_lower mask = any (λ k. eqb (mask + 1) (2 ^ k)) 0 17

-- the row of a type other than 4 and 5 has every word
abbrev is_free : Row → Bool
is_free row = eqb (zeros_in row) 0 && eqb (low_in row) 0 && leb (looked_in row) (high_in row)

-- the test
abbrev is_plain : Row → Bool
is_plain row = is_upper (zeros_in row) && is_lower (looked_in row) && (is_of 4 row || is_of 5 row || is_free row)

-- the words of a row, in numbers
abbrev within : Row → ℕ → Bool
within row word =
    ltb word (0x10000 - zeros_in row)
    && leb (low_in row) (word % (looked_in row + 1))
    && leb (word % (looked_in row + 1)) (high_in row)

-- of a word, the bits from bit k up are zero exactly when it is below 2 ^ k
module _ (word k : ℕ) (short : k ≤ 16) (small : word < 2 ^ 16) where
  split : 16 - k + k ≡ 16
  split = omega arith

  above : bit_and word (2 ^ 16 - 2 ^ k) ≡ word / 2 ^ k % 2 ^ (16 - k) * 2 ^ k
  above = subst (λ n. bit_and word (2 ^ n - 2 ^ k) ≡ word / 2 ^ k % 2 ^ (16 - k) * 2 ^ k) split (and_high word (16 - k) k)

  narrow : word / 2 ^ k % 2 ^ (16 - k) ≡ word / 2 ^ k
  narrow = mod-eq_of_lt ((div-lt_iff_lt-mul (pow_pos k)).1 (subst (λ n. word < n) (ap (λ n. 2 ^ n) (sym split) ∙ pow-add 2 (16 - k) k) small))

  upper_part : bit_and word (2 ^ 16 - 2 ^ k) ≡ word / 2 ^ k * 2 ^ k
  upper_part = above ∙ ap (λ n. n * 2 ^ k) narrow

  none_above : eqb (bit_and word (2 ^ 16 - 2 ^ k)) 0 ≡ ltb word (2 ^ k)
  none_above =
      let whole : word / 2 ^ k * 2 ^ k + word % 2 ^ k ≡ word = div-add-mod' word (2 ^ k) in
      let rest : word % 2 ^ k < 2 ^ k = mod-lt word (pow_pos k) in
      on (ltb word (2 ^ k))
      (λ e.
      let all : word % 2 ^ k ≡ word = mod-eq_of_lt (ltb-true word (2 ^ k) e) in
      rw e (eq-eqb (bit_and word (2 ^ 16 - 2 ^ k)) 0 (upper_part ∙ omega arith)))
      (λ e. rw e (ne_eqb (bit_and word (2 ^ 16 - 2 ^ k)) 0 (λ z. omega (arith, upper_part, ltb-false word (2 ^ k) e))))

-- the law: a row that passes the test has the words that its numbers say
module _ (row : Row) (plain : is_plain row ≡ true) (word : ℕ) where
  masks : (is_upper (zeros_in row) ≡ true) × (is_lower (looked_in row) ≡ true)
  masks = and_both _ _ (and_both (is_upper (zeros_in row) && is_lower (looked_in row)) _ plain).0

  cleared : word < 2 ^ 16 → eqb (bit_and word (zeros_in row)) 0 ≡ ltb word (2 ^ 16 - zeros_in row)
  cleared small =
      given (any_some (λ k. eqb (zeros_in row + 2 ^ k) (2 ^ 16)) 0 17 masks.0)
      (λ (k, p, q, e).
      let sum : zeros_in row + 2 ^ k ≡ 2 ^ 16 = eqb-true (zeros_in row + 2 ^ k) (2 ^ 16) e in
      let mask : zeros_in row ≡ 2 ^ 16 - 2 ^ k = omega arith in
      let bound : 2 ^ k ≡ 2 ^ 16 - zeros_in row = omega arith in
      ap (λ m. eqb (bit_and word m) 0) mask ∙ (none_above word k (omega arith) small ∙ ap (ltb word) bound))

  looked : bit_and word (looked_in row) ≡ word % (looked_in row + 1)
  looked =
      given (any_some (λ k. eqb (looked_in row + 1) (2 ^ k)) 0 17 masks.1)
      (λ (k, p, q, e).
      let bound : looked_in row + 1 ≡ 2 ^ k = eqb-true (looked_in row + 1) (2 ^ k) e in
      let mask : looked_in row ≡ 2 ^ k - 1 = omega arith in
      ap (bit_and word) mask ∙ (and_mask word k ∙ ap (λ n. word % n) (sym bound)))

  in_numbers : fits row word ≡ within row word
  unfolding fits
  in_numbers =
      on (ltb word 0x10000)
      (λ e. rw (e, cleared (ltb-true word 0x10000 e), looked) refl)
      (λ e. rw (e, le-ltb word (2 ^ 16 - zeros_in row) (omega (arith, ltb-false word 0x10000 e))) refl)

-- ---- the page

-- the test, computed over the whole page
all_plain : some_row (λ row. not (is_plain row)) ≡ false
unfolding scan second_words
all_plain = refl

plain_at : (i : ℕ) → i < length second_words → is_plain (row_at i) ≡ true
plain_at i p = not-false (is_plain (row_at i)) (any_none (λ j. not (is_plain (row_at j))) 0 (length second_words) all_plain i (omega arith) (omega arith))

-- the same rule, in numbers
page_rule : (kind word : ℕ) → on_page kind word ≡ not (some_row (is_of kind)) || some_row (λ row. is_of kind row && within row word)
unfolding on_page
page_rule kind word =
    ap (λ has. not (some_row (is_of kind)) || has)
    (any_same (λ i. has_word kind word (row_at i)) (λ i. is_of kind (row_at i) && within (row_at i) word) 0 (length second_words)
    (λ i p q. ap (λ has. is_of kind (row_at i) && has) (in_numbers (row_at i) (plain_at i (omega arith)) word)))

-- ---- each type

module _ (word : ℕ) where
  pub traction-page : on_page 4 word ≡ is_traction_word word
  unfolding scan second_words
  traction-page =
      let low : leb 0 (word % 16) ≡ true = le-leb 0 (word % 16) (omega arith) in
      page_rule 4 word
      ∙ on (ltb word 0x4000) (λ e. rw (e, low) (on (is_voltage (voltage_in word)) (λ v. rw v refl) (λ v. rw v refl))) (λ e. rw e refl)

  pub current_page : on_page 5 word ≡ is_current_word word
  unfolding scan second_words
  current_page =
      page_rule 5 word
      ∙ on (ltb word 0x400)
      (λ e.
      let whole : word % 0x10000 ≡ word = omega (arith, ltb-true word 0x400 e) in
      let low : leb 0 word ≡ true = le-leb 0 word (omega arith) in
      rw (e, whole, low)
      (on (leb word 1000)
      (λ l. rw l refl)
      (λ l.
      rw l
      (on (eqb word 1023)
      (λ r. let same = eqb-true word 1023 r in rw (r, le-leb 1023 word (omega arith), le-leb word 1023 (omega arith)) refl)
      (λ r. rw (r, lt-leb 1023 word (omega (arith, ltb-true word 0x400 e, eqb-false word 1023 r))) refl)))))
      (λ e.
      let far = ltb-false word 0x400 e in
      rw (e, lt-leb word 1000 (omega arith), ne_eqb word 1023 (λ r. omega arith)) refl)

  -- a row that is not of type 4 or 5 has every word
  free-row : (row : Row) → is_plain row ≡ true → is_of 4 row ≡ false → is_of 5 row ≡ false → word < 0x10000 → within row word ≡ true
  free-row row plain a b small =
      given (and_both _ _ (rw (a, b) at (and_both (is_upper (zeros_in row) && is_lower (looked_in row)) _ plain).1))
      (λ (zero-low, high).
      given (and_both _ _ zero-low)
      (λ (z, l).
      let none : zeros_in row ≡ 0 = eqb-true (zeros_in row) 0 z in
      let least : low_in row ≡ 0 = eqb-true (low_in row) 0 l in
      let most = leb-true (looked_in row) (high_in row) high in
      let seen : word % (looked_in row + 1) < looked_in row + 1 = mod-lt word (omega arith) in
      rw
      (lt-ltb word (0x10000 - zeros_in row) (omega arith), le-leb (low_in row) (word % (looked_in row + 1)) (omega arith), le-leb (word % (looked_in row + 1)) (high_in row) (omega arith))
      refl))

  pub other-page : (kind : ℕ) → eqb kind 4 ≡ false → eqb kind 5 ≡ false → word < 0x10000 → on_page kind word ≡ true
  other-page kind a b small =
      page_rule kind word
      ∙ on (some_row (is_of kind))
      (λ e.
      given (any_some (λ i. is_of kind (row_at i)) 0 (length second_words) e)
      (λ (i, p, q, here).
      let same : type_in (row_at i) ≡ kind = eqb-true (type_in (row_at i)) kind here in
      let has : within (row_at i) word ≡ true = free-row (row_at i) (plain_at i (omega arith)) (ap (λ k. eqb k 4) same ∙ a) (ap (λ k. eqb k 5) same ∙ b) small in
      rw (e, any_when (λ j. is_of kind (row_at j) && within (row_at j) word) 0 (length second_words) i p q (rw (here, has) refl)) refl))
      (λ e. rw e refl)

-- CR4-2: the page answers as the rule of the base does, for every type and every two words
pub page-answers : (kind first second : ℕ) → second < 0x10000 → not (is_considered kind first) || on_page kind second ≡ second_allowed kind first second
unfolding second_allowed
page-answers kind first second small =
    ap (λ on-page. not (is_considered kind first) || on-page)
    (on (eqb kind 4)
    (λ e. rw (e, eqb-true kind 4 e) (traction-page second))
    (λ e.
    on (eqb kind 5)
    (λ f. rw (e, f, eqb-true kind 5 f) (current_page second))
    (λ f. rw (e, f) (other-page second kind e f small))))
