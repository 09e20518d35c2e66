-- A number is what its bits are: two numbers with the same bits are the same.
use Prim.Native.Nat.{ℕ, zero, suc, ◌+◌, ◌/◌, ◌%◌, ◌≤◌}
use mathlib.Core.Path.{◌≡◌, ◌∙◌}
use lib.Dec.{eqb}
use native.Mathlib.Omega.{arith}
use borrow.Author.Tests.{eqb-true, eqb-false}
use Rattle.kit.specs.Bytes.{bit}
use Rattle.kit.proofs.Cases.{on}

-- the lowest bit is the remainder by two
lowest-same : (m n : ℕ) → bit 0 m ≡ bit 0 n → m % 2 ≡ n % 2
lowest-same m n e =
    on (eqb (n % 2) 1)
    (λ set. omega (arith, eqb-true (m % 2) 1 (e ∙ set), eqb-true (n % 2) 1 set))
    (λ clear. omega (arith, eqb-false (m % 2) 1 (e ∙ clear), eqb-false (n % 2) 1 clear))

-- of numbers that are not above a bound, by halving
below : (bound m n : ℕ) → m ≤ bound → n ≤ bound → ((i : ℕ) → bit i m ≡ bit i n) → m ≡ n
below zero m n p q e = omega arith
below (suc bound) m n p q e =
    let halves : m / 2 ≡ n / 2 = below bound (m / 2) (n / 2) (omega arith) (omega arith) (λ i. e (suc i)) in
    omega (arith, halves, lowest-same m n (e 0))

pub bits_same : (m n : ℕ) → ((i : ℕ) → bit i m ≡ bit i n) → m ≡ n
bits_same m n e = below (m + n) m n (omega arith) (omega arith) e
