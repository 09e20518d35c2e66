-- Laws of verdicts: what is told of a verdict is different for every two of them, and each number has a verdict of its own.
use Rattle.std.proofs.Common.{◌≡◌, ℕ, ◌≤◌, Bool, cond, eqb, ◌↔◌, List, sym, refl, ap, ◌∙◌, arith, eq-eqb, ne_eqb, eqb-true}
use borrow.Author.Tests.{eqb-false}
use Rattle.kit.specs.Ladder.{ladder, Decides, NoneHolds, Numbered}
use Rattle.kit.proofs.Cases.{on}
use Rattle.kit.proofs.Ladder.{refused-exactly, passed-exactly, decides_positive}
use Rattle.wire.specs.Verdicts.{Ruling, Verdict, verdict_accepted, verdict_refused, ruling_of, number_of, verdict_of}

-- C-12: no two verdicts tell the same
verdict_by : Ruling → Verdict
verdict_by ruling = cond ruling.refused (verdict_refused ruling.number) verdict_accepted

ruling_back : (verdict : Verdict) → verdict_by (ruling_of verdict) ≡ verdict
unfolding verdict_by
ruling_back verdict_accepted = refl
ruling_back (verdict_refused number) = refl

pub ruling_apart : (one other : Verdict) → ruling_of one ≡ ruling_of other → one ≡ other
ruling_apart one other e = sym (ruling_back one) ∙ (ap verdict_by e ∙ ruling_back other)

pub accepted_or_refused : (number : ℕ) → verdict_accepted ≡ verdict_refused number → ⊥
accepted_or_refused number e = let z : ◌≡◌ {A = ℕ} 0 1 = cc in omega arith

pub verdict-accepted : (number : ℕ) → number ≡ 0 → verdict_of number ≡ verdict_accepted
unfolding verdict_of
verdict-accepted number e = rw (eq-eqb number 0 e) refl

pub verdict-refused : (number : ℕ) → (number ≡ 0 → ⊥) → verdict_of number ≡ verdict_refused number
unfolding verdict_of
verdict-refused number e = rw (ne_eqb number 0 e) refl

-- a verdict tells its number, so that two numbers never share one
pub number-verdict : (number : ℕ) → number_of (verdict_of number) ≡ number
unfolding verdict_of
number-verdict number = on (eqb number 0) (λ e. rw e (sym (eqb-true number 0 e))) (λ e. rw e refl)

pub verdict-number : {number : ℕ} (verdict : Verdict) → verdict_of number ≡ verdict → number ≡ number_of verdict
verdict-number {number} verdict e = sym (number-verdict number) ∙ ap number_of e

-- R-23: a refusal is given when its row holds and nothing earlier does, and never else
module _ (rows : List (Bool × ℕ)) (numbered : Numbered rows) where
  pub refused_when : (number : ℕ) → (verdict_of (ladder 0 rows) ≡ verdict_refused number) ↔ Decides rows number
  refused_when number = (there, back)
    where
      there : verdict_of (ladder 0 rows) ≡ verdict_refused number → Decides rows number
      there e =
          let n : ladder 0 rows ≡ number = verdict-number (verdict_refused number) e in
          on (eqb (ladder 0 rows) 0)
          (λ z. absurd (accepted_or_refused number (sym (verdict-accepted (ladder 0 rows) (eqb-true _ 0 z)) ∙ e)))
          (λ z. (refused-exactly rows numbered number (omega (arith, eqb-false (ladder 0 rows) 0 z))).0 n)

      back : Decides rows number → verdict_of (ladder 0 rows) ≡ verdict_refused number
      back d =
          let p : 1 ≤ number = decides_positive rows number numbered d in
          let n : ladder 0 rows ≡ number = (refused-exactly rows numbered number p).1 d in
          ap verdict_of n ∙ verdict-refused number (λ z. omega arith)

  pub accepted_when : (verdict_of (ladder 0 rows) ≡ verdict_accepted) ↔ NoneHolds rows
  accepted_when = (λ e. (passed-exactly rows numbered).0 (verdict-number verdict_accepted e), λ s. verdict-accepted (ladder 0 rows) ((passed-exactly rows numbered).1 s))

-- two numbers never share a verdict
pub verdict-number-apart : (one other : ℕ) → verdict_of one ≡ verdict_of other → one ≡ other
verdict-number-apart one other e = sym (number-verdict one) ∙ (ap number_of e ∙ number-verdict other)
