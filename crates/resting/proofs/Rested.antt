-- Which numbers rest, by the entries of those that ended (D-12).
use Prim.Native.Nat.{ℕ, ◌<◌}
use mathlib.Core.Path.{◌≡◌, refl, subst}
use mathlib.Core.Bool.{true, false}
use mathlib.Core.List.{List, map}
use lib.Dec.{eqb, ltb}
use lib.ListN.{length}
use native.Mathlib.Omega.{arith}
use borrow.Author.Tests.{eqb-true, eq-eqb, ltb-true, lt-ltb}
use Rattle.kit.specs.Member.{member}
use Rattle.kit.proofs.Cases.{on, clash, given, and_both}
use Rattle.kit.proofs.Loops.{any_none, any_some}
use Rattle.kit.proofs.Member.{member-map}
use Rattle.wire.specs.Steps.{gap_of}
use Rattle.resting.specs.Rests.{none_ended, ended_at, rests_by, is_resting}
use Rattle.resting.specs.declared.Ended.{Ended}

module _ (rest step n : ℕ) where
  rests_when : (entry : Ended) → entry.number ≡ n → gap_of step entry.step < rest → rests_by rest step n entry ≡ true
  unfolding rests_by
  rests_when entry e p = rw (eq-eqb entry.number n e, lt-ltb (gap_of step entry.step) rest p) refl

  rests-only : (entry : Ended) → rests_by rest step n entry ≡ true → (entry.number ≡ n) × (gap_of step entry.step < rest)
  unfolding rests_by
  rests-only entry h =
      given (and_both (eqb entry.number n) (ltb (gap_of step entry.step) rest) h)
      (λ (a, b). (eqb-true entry.number n a, ltb-true (gap_of step entry.step) rest b))

pub resting-none : (rest step : ℕ) (ended : List Ended) (n : ℕ) → is_resting rest step ended n ≡ false → (i : ℕ) → i < length ended
    → rests_by rest step n (ended_at ended i) ≡ false
unfolding is_resting
resting-none rest step ended n h i p = any_none (λ i. rests_by rest step n (ended_at ended i)) 0 (length ended) h i (omega arith) (omega arith)

pub resting_when : (rest step : ℕ) (ended : List Ended) (n i : ℕ) → i < length ended → (ended_at ended i).number ≡ n
    → gap_of step (ended_at ended i).step < rest → is_resting rest step ended n ≡ true
resting_when rest step ended n i p e q =
    on (is_resting rest step ended n)
    (λ t. t)
    (λ t. absurd (clash (rests_when rest step n (ended_at ended i) e q) (resting-none rest step ended n t i p)))

pub resting-some : (rest step : ℕ) (ended : List Ended) (n : ℕ) → is_resting rest step ended n ≡ true
    → (i : ℕ) × (i < length ended) × ((ended_at ended i).number ≡ n) × (gap_of step (ended_at ended i).step < rest)
unfolding is_resting
resting-some rest step ended n h =
    given (any_some (λ i. rests_by rest step n (ended_at ended i)) 0 (length ended) h)
    (λ (i, a, b, e). given (rests-only rest step n (ended_at ended i) e) (λ (same, near). (i, omega arith, same, near)))

-- the numbers of the ended entries cover those that rest
pub covers-resting : (rest step : ℕ) (ended : List Ended) (n : ℕ) → is_resting rest step ended n ≡ true
    → member n (map (λ (e : Ended). e.number) ended) ≡ true
covers-resting rest step ended n h =
    given (resting-some rest step ended n h)
    (λ (i, p, same, near).
    subst (λ (m : ℕ). member m (map (λ (e : Ended). e.number) ended) ≡ true) same (member-map (λ (e : Ended). e.number) none_ended ended i p))
