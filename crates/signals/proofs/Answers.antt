-- What an answer tells tells it from every other, so that a promise of the one is a promise of the other.
use Prim.Native.Nat.{ℕ}
use mathlib.Core.Path.{◌≡◌, refl, ap, ap₂}
use Rattle.signals.specs.Answers.{Noted, acceptance, absence, refusal_under, noted_of, Updating, updating_of}
use Rattle.signals.specs.declared.Answer.{Answer}
use Rattle.signals.specs.declared.Answer.TheVariants.{Accepted, Missed, Refused}
use Rattle.signals.specs.declared.Signals.{Signals}
use Rattle.signals.specs.declared.Updated.{Updated}

receipts : {one other : Noted} → one ≡ other → one.receipt ≡ other.receipt
receipts e = ap (λ (n : Noted). n.receipt) e

pub absence_no_acceptance : absence ≡ acceptance → ⊥
absence_no_acceptance e = let r = receipts e in cc

pub acceptance_no_refusal : (number : ℕ) → acceptance ≡ refusal_under number → ⊥
acceptance_no_refusal number e = let r = receipts e in cc

-- C-12: every two answers are told apart
pub noted-apart : (one other : Answer) → noted_of one ≡ noted_of other → one ≡ other
noted-apart Accepted Accepted e = refl
noted-apart Accepted Missed e = let r = receipts e in cc
noted-apart Accepted (Refused number) e = let r = receipts e in cc
noted-apart Missed Accepted e = let r = receipts e in cc
noted-apart Missed Missed e = refl
noted-apart Missed (Refused number) e = let r = receipts e in cc
noted-apart (Refused number) Accepted e = let r = receipts e in cc
noted-apart (Refused number) Missed e = let r = receipts e in cc
noted-apart (Refused number) (Refused same) e = ap Refused (ap (λ (n : Noted). n.number) e)

-- and so are every two outcomes
pub updating_apart : (one other : Updated) → updating_of one ≡ updating_of other → one ≡ other
updating_apart one other e =
    ap₂ (λ (answer : Answer) (signals : Signals). record { answer = answer; signals = signals })
    (noted-apart one.answer other.answer (ap (λ (u : Updating). u.noted) e))
    (ap (λ (u : Updating). u.signals) e)
