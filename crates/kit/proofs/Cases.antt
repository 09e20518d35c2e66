-- The small logic of tests: case by case with the equation in hand, and what a test of two tests says.
use Prim.Native.Nat.{ℕ}
use mathlib.Core.Path.{◌≡◌, refl}
use mathlib.Core.Bool.{Bool, true, false, not, ◌&&◌, ◌||◌}
use lib.Dec.{ltb}
use native.Mathlib.Omega.{arith}
use borrow.Author.Tests.{lt-ltb, le-ltb}

-- a test's two cases, each with its equation
pub on : {C : Type 0} (test : Bool) → (test ≡ true → C) → (test ≡ false → C) → C
on true yes' no' = yes' refl
on false yes' no' = no' refl

pub clash : {test : Bool} → test ≡ true → test ≡ false → ⊥
clash {test} p q = let z : ◌≡◌ {A = ℕ} 0 1 = cc in omega arith

-- a value, named for what follows
pub given {ℓ} : {A : Type ℓ} {C : Type 0} → A → (A → C) → C
given a f = f a

pub or_neither : (a b : Bool) → a || b ≡ false → (a ≡ false) × (b ≡ false)
or_neither true b h = absurd (clash refl h)
or_neither false b h = (refl, h)

pub and_both : (a b : Bool) → a && b ≡ true → (a ≡ true) × (b ≡ true)
and_both true b h = (refl, h)
and_both false b h = absurd (clash h refl)

-- where the first of two tests holds and not both do, the second does not
pub and_second : (a b : Bool) → a && b ≡ false → a ≡ true → b ≡ false
and_second true b h e = h
and_second false b h e = absurd (clash e refl)

-- a number is positive, or it is not: `ltb 0 n`, which is `leb 1 n` too
pub above_zero : (n : ℕ) → (n ≡ 0 → ⊥) → ltb 0 n ≡ true
above_zero n h = lt-ltb 0 n (omega arith)

pub at_zero : (n : ℕ) → n ≡ 0 → ltb 0 n ≡ false
at_zero n h = le-ltb 0 n (omega arith)
