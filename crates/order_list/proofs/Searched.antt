-- What the searches answer: the first index at which the test holds, or none.
use Prim.Native.Nat.{ℕ, ◌<◌, ◌≤◌}
use mathlib.Core.Path.{◌≡◌, refl}
use mathlib.Core.Bool.{Bool, true, false}
use native.Mathlib.Omega.{arith}
use borrow.Author.Tests.{lt-ltb, le-ltb, ltb-true, ltb-false}
use Rattle.std.specs.Prelude.{Option, Some, None, MatchOption}
use lib.Dec.{ltb}
use Rattle.kit.specs.Loops.{find}
use Rattle.kit.proofs.Cases.{on}
use Rattle.kit.proofs.Loops.{scan-at, scan-none}
use Rattle.order_list.specs.Lists.{index_below}

pub searched : (test : ℕ → Bool) (n : ℕ) (answer : Option ℕ)
    → MatchOption answer ((k : ℕ) → 0 ≤ k → k < n → test k ≡ false) (λ i. (0 ≤ i) × (i < n) × (test i ≡ true) × ((k : ℕ) → 0 ≤ k → k < i → test k ≡ false))
    → answer ≡ index_below n (find test n)
searched test n None none =
    let e : find test n ≡ n = scan-none test (λ i. i) n 0 n (λ j p q. none j p (omega arith)) in
    rw (e, le-ltb n n (omega arith)) refl
searched test n (Some i) (p, q, t, before) =
    let e : find test n ≡ i = scan-at test (λ k. k) n 0 n i (omega arith) (omega arith) t before in
    rw (e, lt-ltb i n q) refl

-- and what an answer tells of the index
module _ (n i : ℕ) where
  pub below-some : i < n → index_below n i ≡ Some i
  below-some p = rw (lt-ltb i n p) refl

  pub below-none : n ≤ i → index_below n i ≡ None
  below-none p = rw (le-ltb i n p) refl

  pub some-below : (at : ℕ) → Some at ≡ index_below n i → (at ≡ i) × (i < n)
  some-below at e =
      on (ltb i n)
      (λ t. let same : Some at ≡ Some i = rw t at e in (cc, ltb-true i n t))
      (λ t. let other : ◌≡◌ {A = Option ℕ} (Some at) None = rw t at e in cc)

  pub none-below : None ≡ index_below n i → n ≤ i
  none-below e =
      on (ltb i n)
      (λ t. let other : ◌≡◌ {A = Option ℕ} None (Some i) = rw t at e in cc)
      (λ t. ltb-false i n t)
