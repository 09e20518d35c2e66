-- Laws of `each`, for parts that are all of one size: how long it is, and which part an index lies in; and where each part is one
-- element.
use Prim.Native.Nat.{ℕ, zero, suc, ◌+◌, ◌*◌, ◌<◌, ◌≤◌}
use mathlib.Core.Path.{◌≡◌, refl, sym, ap, ◌∙◌}
use mathlib.Core.List.{List, [], ◌∷◌, ◌++◌, append-nil, append_assoc}
use lib.ListN.{length, get_or, length-append, get_or-append}
use lib.Seq.{get_or-append-add}
use native.Mathlib.Omega.{arith}
use native.Mathlib.Nat.{add-zero, zero-mul, suc-mul}
use Rattle.kit.specs.Each.{each}

-- one thing more, at the end
pub each_more : {A : Type 0} (of : ℕ → List A) (k n : ℕ) → each of k (n + 1) ≡ each of k n ++ of (k + n)
unfolding each
each_more of k zero = append-nil (of k) ∙ ap of (sym (add-zero k))
each_more of k (suc n) =
    let e : k + 1 + n ≡ k + suc n = omega arith in
    let f : suc n + 1 ≡ suc (n + 1) = omega arith in
    ap (λ x. each of k x) f
    ∙ (ap (λ l. of k ++ l) (each_more of (k + 1) n ∙ ap (λ x. each of (k + 1) n ++ of x) e) ∙ sym (append_assoc (of k) (each of (k + 1) n) (of (k + suc n))))

pub each_next : {A : Type 0} (of : ℕ → List A) (n : ℕ) → each of 0 (n + 1) ≡ each of 0 n ++ of n
each_next of n = let here : 0 + n ≡ n = omega arith in each_more of 0 n ∙ ap (λ x. each of 0 n ++ of x) here

module _ {A : Type 0} (of : ℕ → List A) (size : ℕ) (sized : (i : ℕ) → length (of i) ≡ size) where
  pub length-each : (k n : ℕ) → length (each of k n) ≡ n * size
  unfolding each
  length-each k zero = sym (zero-mul size)
  length-each k (suc n) = omega (arith, length-append (of k) (each of (k + 1) n), sized k, length-each (k + 1) n, suc-mul n size)

  -- index r of part j
  pub each_at : (other : A) (k n j r : ℕ) → j < n → r < size → get_or (each of k n) (j * size + r) other ≡ get_or (of (k + j)) r other
  unfolding each
  each_at other k zero j r p q = absurd (omega arith)
  each_at other k (suc n) zero r p q =
      let e : 0 * size + r ≡ r = omega (arith, zero-mul size) in
      let inside : r < length (of k) = omega (arith, sized k) in
      ap (λ (x : ℕ). get_or (of k ++ each of (k + 1) n) x other) e
      ∙ (get_or-append (of k) (each of (k + 1) n) other r inside ∙ ap (λ (x : ℕ). get_or (of x) r other) (sym (add-zero k)))
  each_at other k (suc n) (suc j) r p q =
      let e : suc j * size + r ≡ length (of k) + (j * size + r) = omega (arith, suc-mul j size, sized k) in
      let f : k + 1 + j ≡ k + suc j = omega arith in
      ap (λ (x : ℕ). get_or (of k ++ each of (k + 1) n) x other) e
      ∙ (get_or-append-add (of k) (each of (k + 1) n) (j * size + r) other ∙ (each_at other (k + 1) n j r (omega arith) q ∙ ap (λ (x : ℕ). get_or (of x) r other) f))

-- parts that are at most so long
pub length-each-within : {A : Type 0} (of : ℕ → List A) (most k n : ℕ) → ((i : ℕ) → i < k + n → length (of i) ≤ most) → length (each of k n) ≤ n * most
unfolding each
length-each-within of most k zero short = omega arith
length-each-within of most k (suc n) short =
    omega (arith, length-append (of k) (each of (k + 1) n), short k (omega arith), length-each-within of most (k + 1) n (λ i p. short i (omega arith)), suc-mul n most)

pub length-each-most : {A : Type 0} (of : ℕ → List A) (most : ℕ) → ((i : ℕ) → length (of i) ≤ most) → (k n : ℕ) → length (each of k n) ≤ n * most
length-each-most of most short k n = length-each-within of most k n (λ i p. short i)

-- one element for each thing: element j is that of thing j
module _ {A : Type 0} (of : ℕ → A) (n : ℕ) where
  pub length-one-each : length (each (λ i. of i ∷ []) 0 n) ≡ n
  length-one-each = omega (arith, length-each (λ i. of i ∷ []) 1 (λ i. refl) 0 n)

  pub one-each_at : (other : A) (j : ℕ) → j < n → get_or (each (λ i. of i ∷ []) 0 n) j other ≡ of j
  one-each_at other j p =
      let e : j ≡ j * 1 + 0 = omega arith in
      let f : 0 + j ≡ j = omega arith in
      ap (λ (x : ℕ). get_or (each (λ i. of i ∷ []) 0 n) x other) e ∙ (each_at (λ i. of i ∷ []) 1 (λ i. refl) other 0 n j 0 p (omega arith) ∙ ap of f)
