-- The last four digits of a number, made two by two: the arithmetic of `last_four`. Laws that docs/changes/CR-13.md names: the check finds what
-- the code needs of them by itself, the laws hold as they did.
use Prim.Native.Nat.{ℕ, ◌+◌, ◌-◌, ◌*◌, ◌/◌, ◌%◌, ◌<◌, ◌≤◌}
use mathlib.Core.Path.{◌≡◌, ap, ap₂, ◌∙◌}
use native.Mathlib.Omega.{arith}

-- below 100 a product and a shift divide by ten
tenth : (n : ℕ) → n < 100 → n * 103 / 1024 ≡ n / 10
tenth n p = omega arith

module _ (front back : ℕ) (p : front < 100) (q : back < 100) where
  -- two numbers below 100 in one, and the tens of both
  abbrev pairs : ℕ
  pairs = front + back * 0x10000

  abbrev tens : ℕ
  tens = pairs * 103 / 0x400 % 16 + pairs * 103 / 0x4000000 % 16 * 0x10000

  front-tens : pairs * 103 / 0x400 % 16 ≡ front / 10
  front-tens =
      let apart : pairs * 103 / 0x400 ≡ front * 103 / 1024 + back * 6592 = omega arith in
      let own : (front / 10 + back * 6592) % 16 ≡ front / 10 = omega arith in
      ap (λ n. n % 16) (apart ∙ ap (λ n. n + back * 6592) (tenth front p)) ∙ own

  back-tens : pairs * 103 / 0x4000000 % 16 ≡ back / 10
  back-tens =
      let apart : pairs * 103 / 0x4000000 ≡ back * 103 / 1024 = omega arith in
      let own : back / 10 % 16 ≡ back / 10 = omega arith in
      ap (λ n. n % 16) (apart ∙ tenth back q) ∙ own

  both-tens : tens ≡ front / 10 + back / 10 * 0x10000
  both-tens = ap₂ (λ a b. a + b * 0x10000) front-tens back-tens

  -- what is taken away is there
  pub tens-below : tens * 2559 ≤ pairs * 0x100
  tens-below = rw both-tens (omega arith)

  -- the digits of both
  pub two_digits : pairs * 0x100 - tens * 2559 ≡ front / 10 + front % 10 * 0x100 + back / 10 * 0x10000 + back % 10 * 0x1000000
  two_digits = rw both-tens (omega arith)

-- a number's last four digits are those of two numbers below 100
pub four_digits_lem : (n : ℕ)
    → n % 10000 / 100 / 10 + n % 10000 / 100 % 10 * 0x100 + n % 10000 % 100 / 10 * 0x10000 + n % 10000 % 100 % 10 * 0x1000000
    ≡ n / 1000 % 10 + n / 100 % 10 * 0x100 + n / 10 % 10 * 0x10000 + n % 10 * 0x1000000
four_digits_lem n =
    let first : n % 10000 / 100 / 10 ≡ n / 1000 % 10 = omega arith in
    let second : n % 10000 / 100 % 10 ≡ n / 100 % 10 = omega arith in
    let third : n % 10000 % 100 / 10 ≡ n / 10 % 10 = omega arith in
    let fourth : n % 10000 % 100 % 10 ≡ n % 10 = omega arith in
    rw (first, second, third, fourth)
