-- Laws of loops, in the loop's own form: what stands at index k of n is `.. k (n - k)`, and a turn takes it to `.. (k + 1) (n - (k + 1))`.
use Prim.Native.Nat.{ℕ, zero, suc, ◌+◌, ◌-◌, ◌<◌, ◌≤◌}
use mathlib.Core.Path.{◌≡◌, refl, sym, ap, ◌∙◌}
use mathlib.Core.Bool.{Bool, true, false, cond, ◌||◌}
use lib.Dec.{eqb}
use native.Mathlib.Omega.{arith}
use borrow.Author.Tests.{eqb-true, eqb-false, eq-eqb, ne_eqb, ltb-true, ltb-false}
use native.Mathlib.Numerals.{add-one}
use Rattle.kit.specs.Loops.{scan, fold, any, first_nonzero, find, found, how_many}
use Rattle.kit.proofs.Cases.{on, clash, given}

left-suc : (n k : ℕ) → k < n → n - k ≡ suc (n - (k + 1))
left-suc n k h = omega arith

left-none : (n k : ℕ) → n ≤ k → n - k ≡ 0
left-none n k h = omega arith

module _ {A : Type 0} (leaves : ℕ → Bool) (answer : ℕ → A) (other : A) where
  -- the turn that goes on, the turn that leaves, and the end
  pub scan-go : (n k : ℕ) → k < n → leaves k ≡ false → scan leaves answer other k (n - k) ≡ scan leaves answer other (k + 1) (n - (k + 1))
  unfolding scan
  scan-go n k h e = rw (left-suc n k h) (simp e)

  pub scan_hit : (n k : ℕ) → k < n → leaves k ≡ true → scan leaves answer other k (n - k) ≡ answer k
  unfolding scan
  scan_hit n k h e = rw (left-suc n k h) (simp e)

  pub scan-end : (n k : ℕ) → n ≤ k → scan leaves answer other k (n - k) ≡ other
  unfolding scan
  scan-end n k h = rw (left-none n k h) refl

  -- what a scan answers: the first index at which it leaves, or none
  pub scan-at : (k n i : ℕ) → k ≤ i → i < k + n → leaves i ≡ true → ((j : ℕ) → k ≤ j → j < i → leaves j ≡ false) → scan leaves answer other k n ≡ answer i
  unfolding scan
  scan-at k zero i p q e none = absurd (omega arith)
  scan-at k (suc n) i p q e none =
      on (leaves k)
      (λ t. on (eqb k i) (λ same. rw t (ap answer (eqb-true k i same))) (λ other. absurd (clash t (none k (omega arith) (omega (arith, eqb-false k i other))))))
      (λ t.
      on (eqb k i)
      (λ same. absurd (clash e (rw (eqb-true k i same) at t)))
      (λ other. rw t (scan-at (k + 1) n i (omega (arith, eqb-false k i other)) (omega arith) e (λ j a b. none j (omega arith) b))))

  pub scan-none : (k n : ℕ) → ((j : ℕ) → k ≤ j → j < k + n → leaves j ≡ false) → scan leaves answer other k n ≡ other
  unfolding scan
  scan-none k zero none = refl
  scan-none k (suc n) none = rw (none k (omega arith) (omega arith)) (scan-none (k + 1) n (λ j a b. none j (omega arith) (omega arith)))

-- what `find` answers: the lowest index at which the test holds, or n where it holds at none
module _ (test : ℕ → Bool) where
  abbrev from : ℕ → ℕ → ℕ → ℕ
  from m k n = scan test (λ i. i) m k n

  abbrev Lowest : ℕ → ℕ → ℕ → Type 0
  Lowest m k at = (at ≤ m) × (at < m → test at ≡ true) × ((j : ℕ) → k ≤ j → j < at → test j ≡ false)

  lowest : (m k n : ℕ) → k + n ≡ m → Lowest m k (from m k n)
  unfolding scan
  lowest m k zero e = (omega arith, λ h. absurd (omega arith), λ j p q. absurd (omega arith))
  lowest m k (suc n) e =
      on (test k)
      (λ t. rw t (omega arith, λ h. t, λ j p q. absurd (omega arith)))
      (λ t.
      rw t
      (given (lowest m (k + 1) n (omega arith))
      (λ (a, b, c). (a, b, λ j p q. on (eqb k j) (λ same. rw (eqb-true k j same) at t) (λ other. c j (omega (arith, eqb-false k j other)) q)))))

  pub find-before : (n j : ℕ) → j < find test n → test j ≡ false
  find-before n j p = (lowest n 0 n (omega arith)).2 j (omega arith) p

  pub found-there : (n : ℕ) → found test n ≡ true → (find test n < n) × (test (find test n) ≡ true)
  found-there n h = given (ltb-true (find test n) n h) (λ p. (p, (lowest n 0 n (omega arith)).1 p))

  pub found_none : (n j : ℕ) → found test n ≡ false → j < n → test j ≡ false
  found_none n j h p = find-before n j (omega (arith, ltb-false (find test n) n h))

  pub found_when : (n j : ℕ) → j < n → test j ≡ true → found test n ≡ true
  found_when n j p t = on (found test n) (λ e. e) (λ e. absurd (clash t (found_none n j e p)))

-- the turns of `first_nonzero`, by whether a number is 0
module _ (number : ℕ → ℕ) (n k : ℕ) (p : k < n) where
  pub first-go : number k ≡ 0 → first_nonzero number k (n - k) ≡ first_nonzero number (k + 1) (n - (k + 1))
  first-go e = scan-go _ _ _ n k p (rw (eq-eqb (number k) 0 e) refl)

  pub first_hit : (number k ≡ 0 → ⊥) → first_nonzero number k (n - k) ≡ number k
  first_hit e = scan_hit _ _ _ n k p (rw (ne_eqb (number k) 0 e) refl)

module _ (test : ℕ → Bool) where
  pub any_none : (k n : ℕ) → any test k n ≡ false → (j : ℕ) → k ≤ j → j < k + n → test j ≡ false
  unfolding scan
  any_none k zero h j p q = absurd (omega arith)
  any_none k (suc n) h j p q =
      on (test k)
      (λ t. absurd (clash refl (rw t at h)))
      (λ t.
      on (eqb k j)
      (λ same. rw (eqb-true k j same) at t)
      (λ other. any_none (k + 1) n (rw t at h) j (omega (arith, eqb-false k j other)) (omega arith)))

  pub any_some : (k n : ℕ) → any test k n ≡ true → (j : ℕ) × (k ≤ j) × (j < k + n) × (test j ≡ true)
  unfolding scan
  any_some k zero h = absurd (clash h refl)
  any_some k (suc n) h =
      on (test k)
      (λ t. (k, omega arith, omega arith, t))
      (λ t. given (any_some (k + 1) n (rw t at h)) (λ (j, a, b, e). (j, omega arith, omega arith, e)))

  pub any_when : (k n j : ℕ) → k ≤ j → j < k + n → test j ≡ true → any test k n ≡ true
  any_when k n j p q t = on (any test k n) (λ e. e) (λ e. absurd (clash t (any_none k n e j p q)))

-- one test more, at the row's end
pub any-more : (f : ℕ → Bool) (n : ℕ) → any f 0 (n + 1) ≡ any f 0 n || f n
any-more f n =
    on (any f 0 n)
    (λ e. given (any_some f 0 n e) (λ (j, p, q, t). rw e (any_when f 0 (n + 1) j p (omega arith) t)))
    (λ e.
    on (f n)
    (λ t. rw (e, t) (any_when f 0 (n + 1) n (omega arith) (omega arith) t))
    (λ t.
    rw (e, t)
    (scan-none f (λ i. true) false 0 (n + 1)
    (λ j p q.
    on (eqb j n) (λ here. ap f (eqb-true j n here) ∙ t) (λ there. any_none f 0 n e j p (omega (arith, eqb-false j n there)))))))

-- tests that agree on a row
pub any_same : (f g : ℕ → Bool) (k n : ℕ) → ((j : ℕ) → k ≤ j → j < k + n → f j ≡ g j) → any f k n ≡ any g k n
unfolding scan
any_same f g k zero same = refl
any_same f g k (suc n) same = rw (same k (omega arith) (omega arith), any_same f g (k + 1) n (λ j p q. same j (omega arith) (omega arith))) refl

module _ {A : Type 0} (turn : ℕ → A → A) (start : A) where
  pub fold-none : fold turn start 0 ≡ start
  unfolding fold
  fold-none = refl

  pub fold_more : (k : ℕ) → fold turn start (k + 1) ≡ turn k (fold turn start k)
  unfolding fold
  fold_more k = rw add-one refl

  -- the turn of a loop: what stands is the fold so far, and the body gives the next
  pub fold-turn : (now next : A) (k : ℕ) → now ≡ fold turn start k → next ≡ turn k now → next ≡ fold turn start (k + 1)
  fold-turn now next k e g = g ∙ (ap (turn k) e ∙ sym (fold_more k))

-- a count: at most all, and all exactly when each passes
module _ (test : ℕ → Bool) where
  -- one turn of a loop that counts
  pub count_turn : (now next k : ℕ) → now ≡ how_many test k → next ≡ cond (test k) (now + 1) now → next ≡ how_many test (k + 1)
  unfolding how_many
  count_turn = fold-turn (λ i so_far. cond (test i) (so_far + 1) so_far) 0

  pub count_none : how_many test 0 ≡ 0
  unfolding how_many
  count_none = fold-none (λ i so_far. cond (test i) (so_far + 1) so_far) 0

  count-suc : (n : ℕ) → how_many test (suc n) ≡ cond (test n) (how_many test n + 1) (how_many test n)
  unfolding how_many fold
  count-suc n = refl

  pub count_most : (n : ℕ) → how_many test n ≤ n
  count_most zero = omega (arith, count_none)
  count_most (suc n) =
      on (test n)
      (λ t. rw (count-suc n, t) (omega (arith, count_most n)))
      (λ t. rw (count-suc n, t) (omega (arith, count_most n)))

  pub count-all : (n : ℕ) → ((k : ℕ) → k < n → test k ≡ true) → how_many test n ≡ n
  count-all zero each = count_none
  count-all (suc n) each = rw (count-suc n, each n (omega arith)) (omega (arith, count-all n (λ k p. each k (omega arith))))

  pub all-counted : (n : ℕ) → how_many test n ≡ n → (k : ℕ) → k < n → test k ≡ true
  all-counted zero full k p = absurd (omega arith)
  all-counted (suc n) full k p =
      on (test n)
      (λ t.
      on (eqb k n)
      (λ e. rw (eqb-true k n e) t)
      (λ e. all-counted n (omega (arith, rw (count-suc n, t) at full)) k (omega (arith, eqb-false k n e))))
      (λ t. absurd (omega (arith, count_most n, rw (count-suc n, t) at full)))

-- tests that agree count the same
pub count_same : (f g : ℕ → Bool) (n : ℕ) → ((k : ℕ) → k < n → f k ≡ g k) → how_many f n ≡ how_many g n
unfolding how_many fold
count_same f g zero same = refl
count_same f g (suc n) same = rw (same n (omega arith), count_same f g n (λ k p. same k (omega arith))) refl
