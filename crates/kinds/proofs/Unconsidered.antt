-- What is not considered, whatever it is: it is allowed, and it is held as zero. The second word without a change distance (K-10, K-11), and
-- the country bits with voltage 0 (CR1-1, CR1-2), where bits 15 and 14 still decide (CR1-4).
use Prim.Native.Nat.{ℕ, ◌<◌}
use mathlib.Core.Bool.{false, true}
use mathlib.Core.Path.{◌≡◌, refl}
use lib.Dec.{ltb}
use native.Mathlib.Omega.{arith}
use borrow.Author.Tests.{eq-eqb, ne_eqb}
use Rattle.kit.proofs.Cases.{on}
use Rattle.wire.specs.Distances.{no_value}
use Rattle.kinds.specs.Words.{voltage_in, is_considered, is_unfitted, second_allowed, second_held}

-- K-10: this is so for types 4 and 5 when the change distance is 8000h
pub unconsidered_changes : (is_considered 4 no_value ≡ false) × (is_considered 5 no_value ≡ false)
unfolding is_considered
unconsidered_changes = (refl, refl)

module _ (kind first : ℕ) (unconsidered : is_considered kind first ≡ false) where
  -- K-10: it is not checked
  pub unconsidered_allowed : (second : ℕ) → second_allowed kind first second ≡ true
  unfolding second_allowed
  unconsidered_allowed second = rw unconsidered refl

  -- K-11: it is held as zero
  pub unconsidered_held : (second : ℕ) → second_held kind first second ≡ 0
  unfolding second_held
  unconsidered_held second = rw unconsidered refl

module _ (first second : ℕ) (none : voltage_in second ≡ 0) where
  -- CR1-1, CR1-4: with voltage 0 and a change distance, a word is allowed by bits 15 and 14 alone
  pub unfitted-allowed : (first ≡ no_value → ⊥) → second_allowed 4 first second ≡ ltb second 0x4000
  unfolding second_allowed is_considered
  unfitted-allowed other = on (ltb second 0x4000) (λ e. rw (ne_eqb first no_value other, none, e) refl) (λ e. rw (ne_eqb first no_value other, e) refl)

  -- CR1-2: with voltage 0 every word below 4000h is held as zero
  pub unfitted-held : second < 0x4000 → second_held 4 first second ≡ 0
  unfolding second_held is_unfitted
  unfitted-held p = on (is_considered 4 first) (λ e. rw (e, eq-eqb (voltage_in second) 0 none) (omega arith)) (λ e. rw e refl)
