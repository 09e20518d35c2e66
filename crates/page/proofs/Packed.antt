-- Bytes packed into a number, and what a shift leaves of them; a number's digits packed with the byte after them.
use Prim.Native.Nat.{ℕ, zero, suc, ◌+◌, ◌-◌, ◌*◌, ◌/◌, ◌%◌, ◌^◌, ◌<◌, ◌≤◌, min}
use mathlib.Core.Path.{◌≡◌, refl, sym, ap, ◌∙◌, subst}
use mathlib.Core.Bool.{Bool, true, false, cond}
use mathlib.Core.List.{List, [], ◌∷◌, ◌++◌}
use lib.Dec.{leb}
use lib.ListN.{length, take, drop, get_or, length-take, length-drop, length-append, drop_of_length-le}
use lib.Seq.{sets, drop-cons, get_or-take, get_or-drop, drop-append-le, take-append-add, take_all}
use lib.Pow.{pow-add}
use Rattle.std.specs.Int.{w64, to_le_bytes}
use borrow.Rule.Slice.PartMut.{put_mid}
use Rattle.text.proofs.Copies.{part_sets}
use native.Mathlib.Nat.{add_comm, pow-suc, div-div-eq-div-mul}
use native.Mathlib.Omega.{arith}
use mir.Val.{bool_byte}
use borrow.Author.Tests.{lt-ltb, le-ltb, le-leb, lt-leb, leb-true, leb-false}
use Rattle.kit.proofs.Cases.{on}
use Rattle.text.specs.Decimals.{digit, decimal}
use Rattle.text.specs.Hexadecimals.{hex_digit, hexadecimal}
use Rattle.text.proofs.Numerals.{decimal-one, decimal-more, decimal_byte}
use Rattle.page.specs.Packed.{Small, none_small, one_small, low_bytes, number_made, digits_before}

-- ---- the lowest bytes of a number

pub low-length : (k x : ℕ) → length (low_bytes k x) ≡ k
unfolding low_bytes
low-length zero x = refl
low-length (suc k) x = ap suc (low-length k (x / 256))

pub low-take : (count k x : ℕ) → count ≤ k → take count (low_bytes k x) ≡ low_bytes count x
unfolding low_bytes
low-take zero k x p = refl
low-take (suc count) zero x p = absurd (omega arith)
low-take (suc count) (suc k) x p = ap (λ l. x % 256 ∷ l) (low-take count k (x / 256) (omega arith))

-- eight of them are what `to_le_bytes` gives
eight_low : (x : ℕ) → to_le_bytes w64 x ≡ low_bytes 8 x
unfolding low_bytes
eight_low x =
    let two : x / 0x10000 ≡ x / 256 / 256 = omega arith in
    let three : x / 0x1000000 ≡ x / 256 / 256 / 256 = omega arith in
    let four : x / 0x100000000 ≡ x / 256 / 256 / 256 / 256 = omega arith in
    let five : x / 0x10000000000 ≡ x / 256 / 256 / 256 / 256 / 256 = omega arith in
    let six : x / 0x1000000000000 ≡ x / 256 / 256 / 256 / 256 / 256 / 256 = omega arith in
    let seven : x / 0x100000000000000 ≡ x / 256 / 256 / 256 / 256 / 256 / 256 / 256 = omega arith in
    rw (two, three, four, five, six, seven)

-- written over eight bytes of a page
pub eight_stored : (l stored : List ℕ) (at end piece : ℕ) → end ≡ at + 8 → end ≤ length l → stored ≡ to_le_bytes w64 piece
    → put_mid at (end - at) l stored ≡ sets l at (low_bytes 8 piece)
eight_stored l stored at end piece place room same =
    let bytes : stored ≡ low_bytes 8 piece = same ∙ eight_low piece in
    part_sets l stored at (end - at) (omega arith) (ap length bytes ∙ low-length 8 piece ∙ omega arith) ∙ ap (sets l at) bytes

-- ---- a number made of bytes, the first one lowest

pub small_append : {a b : List ℕ} → Small a → Small b → Small (a ++ b)
small_append none_small q = q
small_append (one_small p r) q = one_small p (small_append r q)

-- its lowest bytes are the first ones
low-made : (k : ℕ) {l : List ℕ} → Small l → k ≤ length l → low_bytes k (number_made l) ≡ take k l
unfolding low_bytes number_made
low-made zero s p = refl
low-made (suc k) none_small p = absurd (omega arith)
low-made (suc k) (one_small {byte} {more} small s) p =
    let low : (byte + number_made more * 256) % 256 ≡ byte = omega arith in
    let high : (byte + number_made more * 256) / 256 ≡ number_made more = omega arith in
    rw (low, high) (ap (λ l. byte ∷ l) (low-made k s (omega arith)))

-- a shift by 8 j drops the first j
shift_made : (j : ℕ) {l : List ℕ} → Small l → j ≤ length l → number_made l / 2 ^ (8 * j) ≡ number_made (drop j l)
unfolding number_made
shift_made zero s p = omega arith
shift_made (suc j) none_small p = absurd (omega arith)
shift_made (suc j) (one_small {byte} {more} small s) p =
    let high : (byte + number_made more * 256) / 256 ≡ number_made more = omega arith in
    let eight : 8 * suc j ≡ 8 + 8 * j = omega arith in
    let wide : 2 ^ (8 * suc j) ≡ 256 * 2 ^ (8 * j) = ap (λ e. 2 ^ e) eight ∙ pow-add 2 8 (8 * j) in
    ap (λ d. (byte + number_made more * 256) / d) wide
    ∙ (sym (div-div-eq-div-mul (byte + number_made more * 256) 256 (2 ^ (8 * j))) ∙ (ap (λ x. x / 2 ^ (8 * j)) high ∙ shift_made j s (omega arith)))

-- ---- the last so many digits of a number

pub last_digits : ℕ → ℕ → List ℕ
last_digits zero n = []
last_digits (suc k) n = last_digits k (n / 10) ++ digit n

last-length : (k n : ℕ) → length (last_digits k n) ≡ k
unfolding last_digits
last-length zero n = refl
last-length (suc k) n = omega (arith, length-append (last_digits k (n / 10)) (digit n), last-length k (n / 10))

last-small : (k n : ℕ) → Small (last_digits k n)
unfolding last_digits
last-small zero n = none_small
last-small (suc k) n = small_append (last-small k (n / 10)) (one_small (omega arith) none_small)

-- the last k of the last k + j
last-drop : (j k m n : ℕ) → m ≡ j + k → drop j (last_digits m n) ≡ last_digits k n
unfolding last_digits
last-drop j zero m n e = drop_of_length-le (last_digits m n) {i = j} (omega (arith, last-length m n))
last-drop j (suc k) zero n e = absurd (omega arith)
last-drop j (suc k) (suc m) n e =
    drop-append-le j (last_digits m (n / 10)) (digit n) (omega (arith, last-length m (n / 10))) ∙ ap (λ l. l ++ digit n) (last-drop j k m (n / 10) (omega arith))

-- a number of d + 1 digits is in decimal its last d + 1 digits
decimal-last : (d n : ℕ) → n < 10 ^ suc d → (1 ≤ d → 10 ^ d ≤ n) → decimal n ≡ last_digits (suc d) n
unfolding last_digits
decimal-last zero n p q = let e : n ≡ n % 10 = omega arith in decimal-one n (omega arith) ∙ ap (λ d. (48 + d) ∷ []) e
decimal-last (suc d) n p q =
    let large : 10 ^ suc d ≤ n = q (omega arith) in
    decimal-more n (omega (arith, pow-suc 10 d))
    ∙ ap (λ l. l ++ digit n) (decimal-last d (n / 10) (omega (arith, pow-suc 10 (suc d))) (λ _. omega (arith, pow-suc 10 d)))

-- ---- digits packed with the byte after them: a shift drops the leading ones that are no part of the decimal

module _ (most d n after : ℕ) (rest : List ℕ) (fits : d ≤ most) (below : n < 10 ^ suc d) (above : 1 ≤ d → 10 ^ d ≤ n) (byte : after < 256) (small : Small rest) where
  abbrev digits_then : ℕ → List ℕ
  digits_then k = last_digits k n ++ (after ∷ rest)

  dropped : drop (most - d) (digits_then (suc most)) ≡ digits_then (suc d)
  dropped =
      drop-append-le (most - d) (last_digits (suc most) n) (after ∷ rest) (omega (arith, last-length (suc most) n))
      ∙ ap (λ l. l ++ (after ∷ rest)) (last-drop (most - d) (suc d) (suc most) n (omega arith))

  -- what the shift leaves
  pub packed_piece : number_made (digits_then (suc most)) / 2 ^ (8 * (most - d)) ≡ number_made (decimal n ++ (after ∷ rest))
  packed_piece =
      let all : Small (digits_then (suc most)) = small_append (last-small (suc most) n) (one_small byte small) in
      let long : length (digits_then (suc most)) ≡ suc most + suc (length rest) =
      length-append (last_digits (suc most) n) (after ∷ rest) ∙ ap (λ k. k + suc (length rest)) (last-length (suc most) n) in
      shift_made (most - d) all (omega arith) ∙ ap number_made (dropped ∙ ap (λ l. l ++ (after ∷ rest)) (sym (decimal-last d n below above)))

  -- its lowest bytes are the decimal, and as many as are kept of what stands after it
  pub packed_shown : (kept : ℕ) → kept ≤ suc (length rest) → decimal n ++ take kept (after ∷ rest) ≡ low_bytes (d + 1 + kept) (number_made (decimal n ++ (after ∷ rest)))
  packed_shown kept few =
      let same : decimal n ≡ last_digits (suc d) n = decimal-last d n below above in
      let all : Small (decimal n ++ (after ∷ rest)) = small_append (subst Small (sym same) (last-small (suc d) n)) (one_small byte small) in
      let digits : length (decimal n) ≡ suc d = ap length same ∙ last-length (suc d) n in
      let long : length (decimal n ++ (after ∷ rest)) ≡ suc d + suc (length rest) = length-append (decimal n) (after ∷ rest) ∙ ap (λ k. k + suc (length rest)) digits in
      let place : length (decimal n) + kept ≡ d + 1 + kept = omega arith in
      sym
      (low-made (d + 1 + kept) all (omega arith)
      ∙ (ap (λ k. take k (decimal n ++ (after ∷ rest))) (sym place) ∙ take-append-add (decimal n) (after ∷ rest) kept))

-- ---- how many digits stand before the last one

-- n has d digits before its last one
pub record Counted (d n : ℕ) : Type 0 where
  pub below : n < 10 ^ suc d
  pub above : 1 ≤ d → 10 ^ d ≤ n

before_0 : (n : ℕ) → n < 10 → digits_before n ≡ 0
unfolding digits_before
before_0 n p = simp (lt-leb 10 n (omega arith), lt-leb 100 n (omega arith), lt-leb 1000 n (omega arith), lt-leb 10000 n (omega arith))

before_1 : (n : ℕ) → 10 ≤ n → n < 100 → digits_before n ≡ 1
unfolding digits_before
before_1 n p q = simp (le-leb 10 n (omega arith), lt-leb 100 n (omega arith), lt-leb 1000 n (omega arith), lt-leb 10000 n (omega arith))

before_2 : (n : ℕ) → 100 ≤ n → n < 1000 → digits_before n ≡ 2
unfolding digits_before
before_2 n p q = simp (le-leb 10 n (omega arith), le-leb 100 n (omega arith), lt-leb 1000 n (omega arith), lt-leb 10000 n (omega arith))

before_3 : (n : ℕ) → 1000 ≤ n → n < 10000 → digits_before n ≡ 3
unfolding digits_before
before_3 n p q = simp (le-leb 10 n (omega arith), le-leb 100 n (omega arith), le-leb 1000 n (omega arith), lt-leb 10000 n (omega arith))

before_4 : (n : ℕ) → 10000 ≤ n → digits_before n ≡ 4
unfolding digits_before
before_4 n p = simp (le-leb 10 n (omega arith), le-leb 100 n (omega arith), le-leb 1000 n (omega arith), le-leb 10000 n (omega arith))

counted_as : {d e n : ℕ} → d ≡ e → n < 10 ^ suc e → (1 ≤ e → 10 ^ e ≤ n) → Counted d n
counted_as {n = n} same p q = subst (λ k. Counted k n) (sym same) (record { below = p; above = q })

pub counted : (n : ℕ) → n < 100000 → Counted (digits_before n) n
counted n p =
    on (leb 10 n)
    (λ a.
    on (leb 100 n)
    (λ b.
    on (leb 1000 n)
    (λ c.
    on (leb 10000 n)
    (λ d. counted_as (before_4 n (leb-true 10000 n d)) p (λ _. leb-true 10000 n d))
    (λ d. counted_as (before_3 n (leb-true 1000 n c) (leb-false 10000 n d)) (leb-false 10000 n d) (λ _. leb-true 1000 n c)))
    (λ c. counted_as (before_2 n (leb-true 100 n b) (leb-false 1000 n c)) (leb-false 1000 n c) (λ _. leb-true 100 n b)))
    (λ b. counted_as (before_1 n (leb-true 10 n a) (leb-false 100 n b)) (leb-false 100 n b) (λ _. leb-true 10 n a)))
    (λ a. counted_as (before_0 n (leb-false 10 n a)) (leb-false 10 n a) (λ one. absurd (omega arith)))

flag-most : (test : Bool) → cond test 1 0 ≤ 1
flag-most true = omega arith
flag-most false = omega arith

pub before-most : (n : ℕ) → digits_before n ≤ 4
unfolding digits_before
before-most n = omega (arith, flag-most (leb 10 n), flag-most (leb 100 n), flag-most (leb 1000 n), flag-most (leb 10000 n))

pub flags_fit : (test : Bool) → bool_byte test ≤ 1
flags_fit true = omega arith
flags_fit false = omega arith

-- one byte is kept of what stands after the digits, or none
pub kept_if : (wanted : Bool) (after : ℕ) (rest : List ℕ) → take (bool_byte wanted) (after ∷ rest) ≡ cond wanted (after ∷ []) []
kept_if true after rest = refl
kept_if false after rest = refl

pub most_if : (wanted : Bool) (d : ℕ) → d ≤ 4 → d + 1 + bool_byte wanted ≤ cond wanted 6 5
most_if true d p = omega arith
most_if false d p = omega arith

-- ---- what the code packs

digits-made : (a b c d e f : ℕ) → (48 + a) + (b + c * 0x100 + d * 0x10000 + e * 0x1000000 + 0x30303030) * 0x100 + f * 0x10000000000 + 0x3030000000000000 ≡ number_made ((48 + a) ∷ (48 + b) ∷ (48 + c) ∷ (48 + d) ∷ (48 + e) ∷ f ∷ 48 ∷ 48 ∷ [])
unfolding number_made
digits-made a b c d e f = omega arith

-- the last four digits of a number, as bytes of a number
abbrev four_digits : ℕ → ℕ
four_digits n = n / 1000 % 10 + n / 100 % 10 * 0x100 + n / 10 % 10 * 0x10000 + n % 10 * 0x1000000

five : (n after : ℕ) → n < 100000
    → (48 + n / 10000) + (four_digits n + 0x30303030) * 0x100 + after * 0x10000000000 + 0x3030000000000000 ≡ number_made (last_digits 5 n ++ (after ∷ 48 ∷ 48 ∷ []))
unfolding number_made last_digits
five n after p =
    let first : n / 10000 ≡ n / 10 / 10 / 10 / 10 % 10 = omega arith in
    let second : n / 1000 ≡ n / 10 / 10 / 10 = omega arith in
    let third : n / 100 ≡ n / 10 / 10 = omega arith in
    rw (first, second, third)
    (digits-made (n / 10 / 10 / 10 / 10 % 10) (n / 10 / 10 / 10 % 10) (n / 10 / 10 % 10) (n / 10 % 10) (n % 10) after)

-- ---- what is left of it after the shift, of d digits before the last; and that its lowest bytes are the decimal and the byte after it

counted_as_told : {n d : ℕ} → n < 100000 → d ≡ digits_before n → Counted d n
counted_as_told {n} p e = subst (λ k. Counted k n) (sym e) (counted n p)

two_fill : Small (48 ∷ 48 ∷ [])
two_fill = one_small {byte = 48} (omega arith) (one_small {byte = 48} (omega arith) none_small)

module _ (n after d : ℕ) (p : n < 65536) (q : after < 256) (e : d ≡ digits_before n) where
  pub five_piece : (four : ℕ) → four ≡ four_digits n
      → ((48 + n / 10000) + (four + 0x30303030) * 0x100 + after * 0x10000000000 + 0x3030000000000000) / 2 ^ (8 * (4 - d)) ≡ number_made (decimal n ++ (after ∷ 48 ∷ 48 ∷ []))
  five_piece four f =
      let own : Counted d n = counted_as_told (omega arith) e in
      ap (λ x. x / 2 ^ (8 * (4 - d))) (ap (λ x. (48 + n / 10000) + (x + 0x30303030) * 0x100 + after * 0x10000000000 + 0x3030000000000000) f ∙ five n after (omega arith))
      ∙ packed_piece 4 d n after (48 ∷ 48 ∷ []) (omega (arith, before-most n)) own.below own.above q two_fill

  pub five-shown : (wanted : Bool) → decimal n ++ cond wanted (after ∷ []) [] ≡ low_bytes (d + 1 + bool_byte wanted) (number_made (decimal n ++ (after ∷ 48 ∷ 48 ∷ [])))
  five-shown wanted =
      let own : Counted d n = counted_as_told (omega arith) e in
      ap (λ l. decimal n ++ l) (sym (kept_if wanted after (48 ∷ 48 ∷ [])))
      ∙ packed_shown 4 d n after (48 ∷ 48 ∷ []) (omega (arith, before-most n)) own.below own.above q two_fill (bool_byte wanted) (omega (arith, flags_fit wanted))

-- ---- one digit and the byte after it

module _ (n after : ℕ) (p : n < 10) where
  pub one_piece : number_made (decimal n ++ (after ∷ 48 ∷ 48 ∷ [])) ≡ (48 + n) + after * 0x100 + 0x30300000
  unfolding number_made
  one_piece = ap (λ digits. number_made (digits ++ (after ∷ 48 ∷ 48 ∷ []))) (decimal-one n p) ∙ omega arith

  pub one-shown : after < 256 → decimal n ++ (after ∷ []) ≡ low_bytes 2 (number_made (decimal n ++ (after ∷ 48 ∷ 48 ∷ [])))
  one-shown q = five-shown n after 0 (omega arith) q (sym (before_0 n p)) true

-- a byte has at most three digits
pub byte_then : (n after : ℕ) → n < 256 → length (decimal n ++ (after ∷ [])) ≤ 4
byte_then n after p = omega (arith, length-append (decimal n) (after ∷ []), decimal_byte n p)

-- ---- the bytes of a text, packed from the last one on

-- bytes make a number of so many bytes
pub made-below : (k : ℕ) {l : List ℕ} → Small l → length l ≤ k → number_made l < 256 ^ k
unfolding number_made
made-below zero none_small p = omega arith
made-below zero (one_small small s) p = absurd (omega arith)
made-below (suc k) none_small p = omega (arith, pow-suc 256 k, made-below k none_small (omega arith))
made-below (suc k) (one_small {byte} {more} small s) p = omega (arith, pow-suc 256 k, made-below k s (omega arith))

module _ (words : List ℕ) (from : ℕ) where
  -- the bytes that are packed
  abbrev body : List ℕ
  body = take 8 (drop from words)

  body-long : length body ≡ min 8 (length words - from)
  body-long = length-take 8 (drop from words) ∙ ap (min 8) (length-drop from words)

  pub packed_none : (i : ℕ) → i ≡ min (length words) (from + 8) → drop (i - from) body ≡ []
  packed_none i e = drop_of_length-le body {i = i - from} (omega (arith, body-long))

  module _ (i : ℕ) (low : from < i) (high : i ≤ min (length words) (from + 8)) where
    body_at : drop (i - 1 - from) body ≡ get_or words (i - 1) 0 ∷ drop (i - from) body
    body_at =
        let place : from + (i - 1 - from) ≡ i - 1 = omega arith in
        let next : suc (i - 1 - from) ≡ i - from = omega arith in
        drop-cons body (i - 1 - from) 0 (omega (arith, body-long))
        ∙ (ap (λ n. get_or body (i - 1 - from) 0 ∷ drop n body) next
        ∙ ap (λ b. b ∷ drop (i - from) body)
        (get_or-take 8 (drop from words) (i - 1 - from) 0 (omega arith) ∙ (get_or-drop from words (i - 1 - from) 0 ∙ ap (λ n. get_or words n 0) place)))

    -- one more byte
    pub packed_more : {piece : ℕ} → piece ≡ number_made (drop (i - from) body) → piece * 256 + get_or words (i - 1) 0 ≡ number_made (drop (i - 1 - from) body)
    unfolding number_made
    packed_more {piece} e =
        ap (λ n. n * 256 + get_or words (i - 1) 0) e
        ∙ (add_comm (number_made (drop (i - from) body) * 256) (get_or words (i - 1) 0) ∙ sym (ap number_made body_at))

    pub small-more : Small (drop (i - from) body) → get_or words (i - 1) 0 < 256 → Small (drop (i - 1 - from) body)
    small-more s p = subst Small (sym body_at) (one_small p s)

    -- it has room
    pub packed_fits : Small (drop (i - from) body) → number_made (drop (i - from) body) < 0x100000000000000
    packed_fits s = made-below 7 s (omega (arith, body-long, length-drop (i - from) body))

-- the first bytes of a text are shown by what is packed of it
pub packed_first : (words : List ℕ) → Small (take 8 words) → take 8 words ≡ low_bytes (min (length words) 8) (number_made (take 8 words))
packed_first words s =
    let long : length (take 8 words) ≡ min 8 (length words) = length-take 8 words in
    sym (low-made (min (length words) 8) s (omega arith) ∙ take_all (min (length words) 8) (take 8 words) (omega arith))

-- ---- digits in hexadecimal

-- the two digits of a byte
abbrev pub hex_pair : ℕ → List ℕ
hex_pair byte = hex_digit (byte / 16) ∷ hex_digit (byte % 16) ∷ []

-- the halves of the lowest byte of a number
high : (n : ℕ) → n % 256 / 16 ≡ n / 16 % 16
high n = omega arith

low : (n : ℕ) → n % 256 % 16 ≡ n % 16
low n = omega arith

second : (n : ℕ) → n / 0x100 ≡ n / 16 / 16
second n = omega arith

third : (n : ℕ) → n / 0x10000 ≡ n / 16 / 16 / 16 / 16
third n = omega arith

fourth : (n : ℕ) → n / 0x1000000 ≡ n / 16 / 16 / 16 / 16 / 16 / 16
fourth n = omega arith

-- the digits of the four bytes that `to_be_bytes` gives
pub eight_hex : (n : ℕ) → ((hex_pair (n / 0x1000000 % 256) ++ hex_pair (n / 0x10000 % 256)) ++ hex_pair (n / 0x100 % 256)) ++ hex_pair (n % 256) ≡ hexadecimal 8 n
unfolding hexadecimal
eight_hex n =
    rw (
      high (n / 0x1000000),
      low (n / 0x1000000),
      high (n / 0x10000),
      low (n / 0x10000),
      high (n / 0x100),
      low (n / 0x100),
      high n,
      low n,
      second n,
      third n,
      fourth n,
    )
    refl

-- ---- laws that docs/changes/CR-13.md names: the code's loops went, the laws hold as they did

small-drop : (j : ℕ) {l : List ℕ} → Small l → Small (drop j l)
small-drop zero s = s
small-drop (suc j) none_small = none_small
small-drop (suc j) (one_small p s) = small-drop j s

-- flags, as the code counts them
pub flag : (test : Bool) → bool_byte test ≡ cond test 1 0
flag true = refl
flag false = refl

pub before_flags : (n : ℕ) → bool_byte (leb 10 n) + bool_byte (leb 100 n) + bool_byte (leb 1000 n) + bool_byte (leb 10000 n) ≡ digits_before n
unfolding digits_before
before_flags n = rw (flag (leb 10 n), flag (leb 100 n), flag (leb 1000 n), flag (leb 10000 n))

pub hex_flag : (d : ℕ) → 48 + d + bool_byte (leb 10 d) * 39 ≡ hex_digit d
hex_flag d =
    on (leb 10 d)
    (λ e. rw (e, le-ltb d 10 (leb-true 10 d e)) (omega (arith, leb-true 10 d e)))
    (λ e. rw (e, lt-ltb d 10 (leb-false 10 d e)) (omega arith))

-- the digits of the lowest byte of a number, and of a byte
low-digits : (n : ℕ) → hex_pair (n % 256) ≡ hex_digit (n / 16 % 16) ∷ hex_digit (n % 16) ∷ []
low-digits n = rw (high n, low n) refl

all_digits : (n : ℕ) → n < 256 → hex_pair n ≡ hex_digit (n / 16 % 16) ∷ hex_digit (n % 16) ∷ []
all_digits n p = let high : n / 16 ≡ n / 16 % 16 = omega arith in ap (λ d. hex_digit d ∷ hex_digit (n % 16) ∷ []) high
