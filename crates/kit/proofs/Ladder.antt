-- Laws of a ladder of refusals.
--
-- `refused-exactly` and `passed-exactly` are the law in both directions (R-23): the answer is n exactly when a row with n holds and
-- no row above it does, and 0 exactly when no row holds. The rest is for the code, which climbs a ladder row by row and thing by thing.
use Prim.Native.Nat.{ℕ, zero, suc, ◌+◌, ◌<◌, ◌≤◌}
use mathlib.Core.Path.{◌≡◌, refl, ap, ◌∙◌, subst}
use mathlib.Core.Logic.{◌⊎◌, inl, inr, ◌↔◌}
use mathlib.Core.Bool.{Bool, true, false, cond, not}
use mathlib.Core.List.{List, [], ◌∷◌, ◌++◌}
use lib.Dec.{eqb}
use native.Mathlib.Omega.{arith}
use borrow.Author.Tests.{eqb-true, eqb-false}
use Rattle.kit.specs.Ladder.{ladder, Decides, NoneHolds, above, Numbers, Numbered}
use Rattle.kit.specs.Each.{each}
use Rattle.kit.specs.Loops.{first_nonzero, scan}
use Rattle.kit.proofs.Cases.{on, given}

module _ {A : Type 0} where
  pub ladder_decides : (other answer : A) (rows : List (Bool × A)) → Decides rows answer → ladder other rows ≡ answer
  unfolding ladder
  ladder_decides other answer [] d = absurd d
  ladder_decides other answer ((t, own) ∷ rows) (inl (e, same)) = rw e same
  ladder_decides other answer ((t, own) ∷ rows) (inr (e, d)) = rw e (ladder_decides other answer rows d)

  pub ladder-silent : (other : A) (rows : List (Bool × A)) → NoneHolds rows → ladder other rows ≡ other
  unfolding ladder
  ladder-silent other [] s = refl
  ladder-silent other ((t, own) ∷ rows) (e, s) = rw e (ladder-silent other rows s)

  -- a ladder either decides or is silent
  pub climb : (other : A) (rows : List (Bool × A)) → Decides rows (ladder other rows) ⊎ NoneHolds rows
  unfolding ladder
  climb other [] = inr tt
  climb other ((true, own) ∷ rows) = inl (inl (refl, refl))
  climb other ((false, own) ∷ rows) = further (climb other rows)
    where
      further : Decides rows (ladder other rows) ⊎ NoneHolds rows → Decides ((false, own) ∷ rows) (ladder other rows) ⊎ NoneHolds ((false, own) ∷ rows)
      further (inl d) = inl (inr (refl, d))
      further (inr s) = inr (refl, s)

  -- one ladder above another: where the upper one is silent, the lower one answers
  pub ladder_append : (other : A) (upper lower : List (Bool × A)) → ladder other (upper ++ lower) ≡ ladder (ladder other lower) upper
  unfolding ladder
  ladder_append other [] lower = refl
  ladder_append other ((t, own) ∷ upper) lower = ap (λ (rest : A). cond t own rest) (ladder_append other upper lower)

  pub silent_append : (upper lower : List (Bool × A)) → NoneHolds (upper ++ lower) → NoneHolds upper × NoneHolds lower
  silent_append [] lower s = (tt, s)
  silent_append ((t, own) ∷ upper) lower (e, s) = given (silent_append upper lower s) (λ (a, b). ((e, a), b))

  pub decides_append : (upper lower : List (Bool × A)) (answer : A) → Decides (upper ++ lower) answer → Decides upper answer ⊎ (NoneHolds upper × Decides lower answer)
  decides_append [] lower answer d = inr (tt, d)
  decides_append ((t, own) ∷ upper) lower answer (inl here) = inl (inl here)
  decides_append ((t, own) ∷ upper) lower answer (inr (e, d)) = further (decides_append upper lower answer d)
    where
      further : Decides upper answer ⊎ (NoneHolds upper × Decides lower answer) → Decides ((t, own) ∷ upper) answer ⊎ (NoneHolds ((t, own) ∷ upper) × Decides lower answer)
      further (inl above) = inl (inr (e, above))
      further (inr (s, below)) = inr ((e, s), below)

  pub silent-join : (upper lower : List (Bool × A)) → NoneHolds upper → NoneHolds lower → NoneHolds (upper ++ lower)
  silent-join [] lower a b = b
  silent-join ((t, own) ∷ upper) lower (e, a) b = (e, silent-join upper lower a b)

  pub silent-each : (rows : ℕ → List (Bool × A)) (k n : ℕ) → NoneHolds (each rows k n) → (i : ℕ) → k ≤ i → i < k + n → NoneHolds (rows i)
  unfolding each
  silent-each rows k zero s i p q = absurd (omega arith)
  silent-each rows k (suc n) s i p q =
      given (silent_append (rows k) (each rows (k + 1) n) s)
      (λ (a, b). on (eqb k i) (λ e. subst (λ j. NoneHolds (rows j)) (eqb-true k i e) a) (λ e. silent-each rows (k + 1) n b i (omega (arith, eqb-false k i e)) (omega arith)))

  pub silent-all : (rows : ℕ → List (Bool × A)) (k n : ℕ) → ((i : ℕ) → k ≤ i → i < k + n → NoneHolds (rows i)) → NoneHolds (each rows k n)
  unfolding each
  silent-all rows k zero s = tt
  silent-all rows k (suc n) s = silent-join (rows k) (each rows (k + 1) n) (s k (omega arith) (omega arith)) (silent-all rows (k + 1) n (λ i p q. s i (omega arith) (omega arith)))

-- what is so of each row's number, of ladders one above another
module _ (Such : ℕ → Type 0) where
  pub numbers_append : (upper lower : List (Bool × ℕ)) → Numbers Such upper → Numbers Such lower → Numbers Such (upper ++ lower)
  numbers_append [] lower a b = b
  numbers_append ((t, own) ∷ upper) lower (e, a) b = (e, numbers_append upper lower a b)

  pub numbers-each : (rows : ℕ → List (Bool × ℕ)) → ((i : ℕ) → Numbers Such (rows i)) → (k n : ℕ) → Numbers Such (each rows k n)
  unfolding each
  numbers-each rows a k zero = tt
  numbers-each rows a k (suc n) = numbers_append (rows k) (each rows (k + 1) n) (a k) (numbers-each rows a (k + 1) n)

pub numbered_append : (upper lower : List (Bool × ℕ)) → Numbered upper → Numbered lower → Numbered (upper ++ lower)
numbered_append = numbers_append (λ n. 1 ≤ n)

pub numbered-each : (rows : ℕ → List (Bool × ℕ)) → ((i : ℕ) → Numbered (rows i)) → (k n : ℕ) → Numbered (each rows k n)
numbered-each = numbers-each (λ n. 1 ≤ n)

-- what is so of each row's number is so of the answer
pub decides_such : (Such : ℕ → Type 0) (rows : List (Bool × ℕ)) (n : ℕ) → Numbers Such rows → Decides rows n → Such n
decides_such Such [] n a d = absurd d
decides_such Such ((t, own) ∷ rows) n (p, a) (inl (e, same)) = subst Such same p
decides_such Such ((t, own) ∷ rows) n (p, a) (inr (e, d)) = decides_such Such rows n a d

-- and so is what stands for no row, if that is such
pub ladder_such : (Such : ℕ → Type 0) (rows : List (Bool × ℕ)) → Numbers Such rows → Such 0 → Such (ladder 0 rows)
unfolding ladder
ladder_such Such [] a none = none
ladder_such Such ((true, own) ∷ rows) (p, a) none = p
ladder_such Such ((false, own) ∷ rows) (p, a) none = ladder_such Such rows a none

pub decides_positive : (rows : List (Bool × ℕ)) (n : ℕ) → Numbered rows → Decides rows n → 1 ≤ n
decides_positive = decides_such (λ n. 1 ≤ n)

module _ (rows : List (Bool × ℕ)) (numbered : Numbered rows) where
  pub refused-exactly : (n : ℕ) → 1 ≤ n → (ladder 0 rows ≡ n) ↔ Decides rows n
  refused-exactly n p = (λ e. go e (climb 0 rows), ladder_decides 0 n rows)
    where
      go : ladder 0 rows ≡ n → Decides rows (ladder 0 rows) ⊎ NoneHolds rows → Decides rows n
      go e (inl d) = subst (Decides rows) e d
      go e (inr s) = absurd (omega (arith, ladder-silent 0 rows s))

  pub passed-exactly : (ladder 0 rows ≡ 0) ↔ NoneHolds rows
  passed-exactly = (λ e. go e (climb 0 rows), ladder-silent 0 rows)
    where
      go : ladder 0 rows ≡ 0 → Decides rows (ladder 0 rows) ⊎ NoneHolds rows → NoneHolds rows
      go e (inl d) = absurd (omega (arith, decides_positive rows (ladder 0 rows) numbered d))
      go e (inr s) = s

  -- a ladder that answers keeps its answer whatever stands below it, and one that does not leaves the answer to that
  pub upper_answers : (other : ℕ) → (ladder 0 rows ≡ 0 → ⊥) → ladder other rows ≡ ladder 0 rows
  upper_answers other n = go (climb 0 rows)
    where
      go : Decides rows (ladder 0 rows) ⊎ NoneHolds rows → ladder other rows ≡ ladder 0 rows
      go (inl d) = ladder_decides other (ladder 0 rows) rows d
      go (inr s) = absurd (n (ladder-silent 0 rows s))

  pub lower_answers : (other : ℕ) → ladder 0 rows ≡ 0 → ladder other rows ≡ other
  lower_answers other e = ladder-silent other rows (passed-exactly.0 e)

pub above_append : (upper lower : List (Bool × ℕ)) → Numbered upper → ladder 0 (upper ++ lower) ≡ above (ladder 0 upper) (ladder 0 lower)
unfolding above
above_append upper lower numbered =
    ladder_append 0 upper lower
    ∙ on (eqb (ladder 0 upper) 0)
    (λ e. rw e (lower_answers upper numbered (ladder 0 lower) (eqb-true _ 0 e)))
    (λ e. rw e (upper_answers upper numbered (ladder 0 lower) (eqb-false _ 0 e)))

-- the ladder of several things answers as the first of them that has a row that holds: "the first bad slot, within it .."
pub ladder-each : (rows : ℕ → List (Bool × ℕ)) → ((i : ℕ) → Numbered (rows i)) → (k n : ℕ)
    → ladder 0 (each rows k n) ≡ first_nonzero (λ i. ladder 0 (rows i)) k n
unfolding each ladder scan above
ladder-each rows a k zero = refl
ladder-each rows a k (suc n) =
    above_append (rows k) (each rows (k + 1) n) (a k)
    ∙ on (eqb (ladder 0 (rows k)) 0) (λ e. rw e (ladder-each rows a (k + 1) n)) (λ e. rw e refl)
