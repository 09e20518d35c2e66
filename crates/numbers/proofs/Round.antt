-- The numbers after the last one given, without the formula (D-10, D-11): the first is the next number, 255 is followed by 1, each further
-- one follows the one before it, none is 0, and where none has been given the first is 1. Those that lie between the last one given and
-- another, going round, come before that one.
use Prim.Native.Nat.{ℕ, ◌+◌, ◌-◌, ◌<◌, ◌≤◌}
use mathlib.Core.Path.{◌≡◌, refl}
use mathlib.Core.Logic.{◌⊎◌, inl, inr}
use native.Mathlib.Omega.{arith}
use Rattle.numbers.specs.Numbers.{number_after}

pub next-follows : (last : ℕ) → last < 255 → number_after last 0 ≡ last + 1
next-follows last p = omega arith

pub one-follows_255 : number_after 255 0 ≡ 1
one-follows_255 = refl

pub one_further : (last others : ℕ) → number_after last (others + 1) ≡ number_after (number_after last others) 0
one_further last others = omega arith

pub never_zero : (last others : ℕ) → (1 ≤ number_after last others) × (number_after last others ≤ 255)
never_zero last others = (omega arith, omega arith)

pub between-before : (last others number : ℕ) → last ≤ 255 → others < 255 → 1 ≤ number → number ≤ 255
    → ((last < number) × (number < number_after last others)) ⊎ ((number_after last others ≤ last) × ((last < number) ⊎ (number < number_after last others)))
    → (j : ℕ) × (j < others) × (number_after last j ≡ number)
between-before last others number p q low high (inl (above, below)) = (number - 1 - last, omega arith, omega arith)
between-before last others number p q low high (inr (round, inl above)) = (number - 1 - last, omega arith, omega arith)
between-before last others number p q low high (inr (round, inr below)) = (number + 254 - last, omega arith, omega arith)
