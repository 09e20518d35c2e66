-- What a loop computes, as a recursion over its index, in the form that the loop itself has.
use Rattle.std.specs.Prelude.{ℕ, zero, suc, ◌+◌, Bool, true, false, cond, not, eqb, ltb}

module _ {A : Type 0} where
  -- a loop that leaves early: of k, k + 1, and so on, n of them, the first at which `leaves` holds gives its answer; where none does, `other`
  unfoldable pub scan : (ℕ → Bool) → (ℕ → A) → A → ℕ → ℕ → A
  scan leaves answer other k zero = other
  scan leaves answer other k (suc n) = cond (leaves k) (answer k) (scan leaves answer other (k + 1) n)

  -- a loop to the end: `turn 0`, then `turn 1`, and so on, n of them, each on what the one before gave
  unfoldable pub fold : (ℕ → A → A) → A → ℕ → A
  fold turn start zero = start
  fold turn start (suc n) = turn n (fold turn start n)

-- whether the test holds at one of k, k + 1, and so on, n of them
abbrev pub any : (ℕ → Bool) → ℕ → ℕ → Bool
any test k n = scan test (λ i. true) false k n

-- the first of number k, number (k + 1), and so on, n of them, that is not 0, or 0
abbrev pub first_nonzero : (ℕ → ℕ) → ℕ → ℕ → ℕ
first_nonzero number k n = scan (λ i. not (eqb (number i) 0)) number 0 k n

-- the first of 0 to n - 1 at which the test holds, or n where it holds at none
abbrev pub find : (ℕ → Bool) → ℕ → ℕ
find test n = scan test (λ i. i) n 0 n

-- whether there is one
abbrev pub found : (ℕ → Bool) → ℕ → Bool
found test n = ltb (find test n) n

-- how many of 0 to n - 1 pass the test
unfoldable pub how_many : (ℕ → Bool) → ℕ → ℕ
how_many test n = fold (λ i so_far. cond (test i) (so_far + 1) so_far) 0 n
