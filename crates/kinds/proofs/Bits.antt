-- The second word as it is held, bit by bit (K-11, CR1-2): a bit that is not considered is zero, and every other is as it was.
use Prim.Native.Nat.{ℕ, ◌+◌, ◌-◌, ◌*◌, ◌/◌, ◌%◌, ◌<◌, ◌≤◌, ◌^◌}
use mathlib.Core.Path.{◌≡◌, refl, sym, ap, ◌∙◌}
use mathlib.Core.Bool.{false, cond, ◌&&◌}
use lib.Dec.{leb}
use native.Mathlib.Omega.{arith}
use borrow.Author.Tests.{leb-true, leb-false}
use Rattle.kit.specs.Bytes.{bit}
use Rattle.kit.proofs.Bits.{bit-zero, bit_beside, bit-above}
use Rattle.kit.proofs.Cases.{on}
use Rattle.kinds.specs.Words.{country_in, is_considered, is_unfitted, is_idle, second_held}

module _ (second : ℕ) where
  -- its country bits zero
  abbrev cleared : ℕ
  cleared = second - country_in second * 16

  below_country : (b : ℕ) → b < 4 → bit b cleared ≡ bit b second
  below_country b p =
      let left : cleared ≡ second / 0x4000 * 1024 * 2 ^ 4 + second % 16 = omega arith in
      let right : second ≡ second / 16 * 2 ^ 4 + second % 16 = omega arith in
      ap (bit b) left
      ∙ (bit_beside 4 b (second / 0x4000 * 1024) (second % 16) p ∙ (sym (bit_beside 4 b (second / 16) (second % 16) p) ∙ ap (bit b) (sym right)))

  in_country : (b : ℕ) → 4 ≤ b → b ≤ 13 → bit b cleared ≡ false
  in_country b p q =
      let split : b ≡ (b - 4) + 4 = omega arith in
      let left : cleared / 2 ^ 4 ≡ second / 0x4000 * 2 ^ 10 + 0 = omega arith in
      ap (λ i. bit i cleared) split
      ∙ (bit-above 4 (b - 4) cleared
      ∙ (ap (bit (b - 4)) left ∙ (bit_beside 10 (b - 4) (second / 0x4000) 0 (omega arith) ∙ bit-zero (b - 4))))

  above_country : (b : ℕ) → 14 ≤ b → bit b cleared ≡ bit b second
  above_country b p =
      let split : b ≡ (b - 14) + 14 = omega arith in
      let same : cleared / 2 ^ 14 ≡ second / 2 ^ 14 = omega arith in
      ap (λ i. bit i cleared) split
      ∙ (bit-above 14 (b - 14) cleared
      ∙ (ap (bit (b - 14)) same ∙ (sym (bit-above 14 (b - 14) second) ∙ ap (λ i. bit i second) (sym split))))

  cleared-bit : (b : ℕ) → bit b cleared ≡ cond (leb 4 b && leb b 13) false (bit b second)
  cleared-bit b =
      on (leb 4 b)
      (λ low.
      on (leb b 13)
      (λ high. rw (low, high) (in_country b (leb-true 4 b low) (leb-true b 13 high)))
      (λ high. rw (low, high) (above_country b (omega (arith, leb-false b 13 high)))))
      (λ low. rw low (below_country b (leb-false 4 b low)))

pub held-bit : (kind first second b : ℕ) → bit b (second_held kind first second) ≡ cond (is_idle kind first second b) false (bit b second)
unfolding second_held is_idle
held-bit kind first second b =
    on (is_considered kind first)
    (λ e. on (is_unfitted kind second) (λ f. rw (e, f) (cleared-bit second b)) (λ f. rw (e, f) refl))
    (λ e. rw e (bit-zero b))
