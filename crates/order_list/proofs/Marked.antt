-- A search as one number: from a bit upwards, a bit is set for each index at which the test holds, and the one past the last is always
-- set. Its trailing zeros tell the first. Laws that docs/changes/CR-13.md names: the code's loops went, the laws hold as they did.
use Prim.Native.Nat.{ℕ, zero, suc, ◌+◌, ◌*◌, ◌/◌, ◌%◌, ◌-◌, ◌<◌, ◌≤◌}
use mathlib.Core.Path.{◌≡◌, refl, subst}
use mathlib.Core.Bool.{Bool, cond}
use lib.Count.{count_trailing_zeros}
use native.Mathlib.Omega.{arith}
use Rattle.kit.specs.Loops.{scan}
use Rattle.kit.proofs.Cases.{on}

unfoldable pub marked : (ℕ → Bool) → ℕ → ℕ → ℕ → ℕ
marked test bit k zero = bit
marked test bit k (suc n) = cond (test k) bit 0 + marked test (bit * 2) (k + 1) n

-- all bits set
unfoldable pub most : ℕ → ℕ → ℕ
most bit zero = bit
most bit (suc n) = bit + most (bit * 2) n

module _ (test : ℕ → Bool) where
  -- one turn of the loop, and its end
  pub marked_turn : (n bit k added : ℕ) → k < n → added ≡ cond (test k) bit 0
      → marked test bit k (n - k) ≡ added + marked test (bit * 2) (k + 1) (n - (k + 1))
  unfolding marked
  marked_turn n bit k added p e = let left : n - k ≡ suc (n - (k + 1)) = omega arith in rw (left, e) refl

  pub marked-end : (n bit k : ℕ) → n ≤ k → marked test bit k (n - k) ≡ bit
  unfolding marked
  marked-end n bit k p = let left : n - k ≡ 0 = omega arith in rw left refl

  pub marked_least : (bit k n : ℕ) → bit ≤ marked test bit k n
  unfolding marked
  marked_least bit k zero = omega arith
  marked_least bit k (suc n) = omega (arith, marked_least (bit * 2) (k + 1) n)

  pub marked-most : (bit k n : ℕ) → marked test bit k n ≤ most bit n
  unfolding marked most
  marked-most bit k zero = omega arith
  marked-most bit k (suc n) =
      on (test k)
      (λ t. rw t (omega (arith, marked-most (bit * 2) (k + 1) n)))
      (λ t. rw t (omega (arith, marked-most (bit * 2) (k + 1) n)))

  twice : (bit k n : ℕ) → marked test (bit * 2) k n ≡ 2 * marked test bit k n
  unfolding marked
  twice bit k zero = omega arith
  twice bit k (suc n) =
      on (test k) (λ t. rw t (omega (arith, twice (bit * 2) (k + 1) n))) (λ t. rw t (omega (arith, twice (bit * 2) (k + 1) n)))

  -- the lowest bit is that of the first
  pub marked-first : (d k n : ℕ) → n < d → k + count_trailing_zeros d (marked test 1 k n) ≡ scan test (λ i. i) (k + n) k n
  unfolding marked scan count_trailing_zeros
  marked-first zero k n p = absurd (omega arith)
  marked-first (suc d) k zero p = refl
  marked-first (suc d) k (suc n) p =
      let later : ℕ = marked test 1 (k + 1) n in
      on (test k)
      (λ t. rw t (let odd : (1 + marked test (1 * 2) (k + 1) n) % 2 ≡ 1 = omega (arith, twice 1 (k + 1) n) in rw odd (omega arith)))
      (λ t.
      rw t
      (let even : (0 + marked test (1 * 2) (k + 1) n) % 2 ≡ 0 = omega (arith, twice 1 (k + 1) n) in
      let half : (0 + marked test (1 * 2) (k + 1) n) / 2 ≡ later = omega (arith, twice 1 (k + 1) n) in
      let past : k + 1 + n ≡ k + suc n = omega arith in
      let rest : k + 1 + count_trailing_zeros d later ≡ scan test (λ i. i) (k + suc n) (k + 1) n =
      subst (λ m. k + 1 + count_trailing_zeros d later ≡ scan test (λ i. i) m (k + 1) n) past (marked-first d (k + 1) n (omega arith))
      in rw (even, half) (omega (arith, rest))))
