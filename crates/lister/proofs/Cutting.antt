-- Cutting bytes into telegrams: what comes later does not change what is whole, and the tail is cut with what comes after it.
use Prim.Native.Nat.{ℕ, zero, suc, ◌+◌, ◌*◌, ◌/◌, ◌<◌, ◌≤◌}
use mathlib.Core.Path.{◌≡◌, refl, sym, ap, ◌∙◌}
use mathlib.Core.List.{List, [], ◌∷◌, ◌++◌}
use lib.ListN.{length, take, drop, length-append, length-drop}
use lib.Seq.{take-append-le, drop-append-le, drop-drop, drop-length, take_all}
use native.Mathlib.Nat.{suc-mul}
use native.Mathlib.Omega.{arith}
use Rattle.lister.specs.Hearings.{cut, telegrams_in, tail_of}

cut-front : (n : ℕ) (xs ys : List ℕ) → n * 26 ≤ length xs → cut n (xs ++ ys) ≡ cut n xs
unfolding cut
cut-front zero xs ys p = refl
cut-front (suc n) xs ys p =
    let room : 26 ≤ length xs = omega (arith, suc-mul n 26) in
    ap (λ l. l ∷ cut n (drop 26 (xs ++ ys))) (take-append-le 26 xs ys room)
    ∙ ap (λ l. take 26 xs ∷ l) (ap (cut n) (drop-append-le 26 xs ys room) ∙ cut-front n (drop 26 xs) ys (omega (arith, suc-mul n 26, length-drop 26 xs)))

cut-more : (n m : ℕ) (xs : List ℕ) → cut (n + m) xs ≡ cut n xs ++ cut m (drop (n * 26) xs)
unfolding cut
cut-more zero m xs =
    let e : 0 + m ≡ m = omega arith in
    let f : 0 ≡ 0 * 26 = omega arith in
    ap (λ k. cut k xs) e ∙ ap (λ k. cut m (drop k xs)) f
cut-more (suc n) m xs =
    let e : suc n + m ≡ suc (n + m) = omega arith in
    let f : 26 + n * 26 ≡ suc n * 26 = omega (arith, suc-mul n 26) in
    ap (λ k. cut k xs) e
    ∙ ap (λ l. take 26 xs ∷ l) (cut-more n m (drop 26 xs) ∙ ap (λ l. cut n (drop 26 xs) ++ cut m l) (drop-drop (n * 26) 26 xs ∙ ap (λ k. drop k xs) f))

-- the count of telegrams in both is the sum of the counts
counts : (xs ys : List ℕ) → length (xs ++ ys) / 26 ≡ length xs / 26 + length (drop (length xs / 26 * 26) xs ++ ys) / 26
counts xs ys = omega (arith, length-append xs ys, length-append (drop (length xs / 26 * 26) xs) ys, length-drop (length xs / 26 * 26) xs)

pub telegrams-then : (xs ys : List ℕ) → telegrams_in (xs ++ ys) ≡ telegrams_in xs ++ telegrams_in (tail_of xs ++ ys)
unfolding telegrams_in tail_of
telegrams-then xs ys =
    let n = length xs / 26 in
    let room : n * 26 ≤ length xs = omega arith in
    ap (λ k. cut k (xs ++ ys)) (counts xs ys)
    ∙ (cut-more n (length (drop (n * 26) xs ++ ys) / 26) (xs ++ ys)
    ∙ (ap (λ l. l ++ cut (length (drop (n * 26) xs ++ ys) / 26) (drop (n * 26) (xs ++ ys))) (cut-front n xs ys room)
    ∙ ap (λ l. cut n xs ++ cut (length (drop (n * 26) xs ++ ys) / 26) l) (drop-append-le (n * 26) xs ys room)))

pub tail-then : (xs ys : List ℕ) → tail_of (xs ++ ys) ≡ tail_of (tail_of xs ++ ys)
unfolding tail_of
tail-then xs ys =
    let n = length xs / 26 in
    let m = length (drop (n * 26) xs ++ ys) / 26 in
    let room : n * 26 ≤ length xs = omega arith in
    let e : length (xs ++ ys) / 26 * 26 ≡ n * 26 + m * 26 = omega (arith, counts xs ys) in
    ap (λ k. drop k (xs ++ ys)) e ∙ (sym (drop-drop (m * 26) (n * 26) (xs ++ ys)) ∙ ap (drop (m * 26)) (drop-append-le (n * 26) xs ys room))

pub tail-short : (xs : List ℕ) → length (tail_of xs) < 26
unfolding tail_of
tail-short xs = omega (arith, length-drop (length xs / 26 * 26) xs)

-- fewer than 26 bytes are no telegram, and 26 are one
pub telegrams-none : (xs : List ℕ) → length xs < 26 → telegrams_in xs ≡ []
unfolding telegrams_in cut
telegrams-none xs p = let e : length xs / 26 ≡ 0 = omega arith in ap (λ k. cut k xs) e

pub tail_all : (xs : List ℕ) → length xs < 26 → tail_of xs ≡ xs
unfolding tail_of
tail_all xs p = let e : length xs / 26 * 26 ≡ 0 = omega arith in ap (λ k. drop k xs) e

pub telegrams-one : (xs : List ℕ) → length xs ≡ 26 → telegrams_in xs ≡ xs ∷ []
unfolding telegrams_in cut
telegrams-one xs p =
    let e : length xs / 26 ≡ 1 = omega arith in
    ap (λ k. cut k xs) e ∙ ap (λ l. l ∷ []) (take_all 26 xs (omega arith))

pub tail_none : (xs : List ℕ) → length xs ≡ 26 → tail_of xs ≡ []
unfolding tail_of
tail_none xs p = let e : length xs / 26 * 26 ≡ length xs = omega arith in ap (λ k. drop k xs) e ∙ drop-length xs
