-- Laws of the code's answers: each row of document 01's table has a number of its own, an answer is told apart by its number, and each number
-- up to the last row's is that of an answer.
use Rattle.std.proofs.Common.{◌≡◌, ℕ, ◌≤◌, cond, eqb, sym, refl, ap, ◌∙◌, arith, eqb-true}
use borrow.Author.Tests.{eqb-false}
use Rattle.std.specs.Prelude.{Result, Ok, Err}
use Rattle.std.specs.Result.{IsErrAnd, IsOk}
use Rattle.std.proofs.lemmas.Result.{err_from_is_err_and}
use Rattle.kit.proofs.Cases.{on}
use Rattle.wire.specs.Verdicts.{verdict_accepted, verdict_of, row_number, refusal_number, verdict_in}
use Rattle.wire.specs.declared.refusals.Refusal.{Refusal}
use Rattle.wire.specs.declared.refusals.Refusal.TheVariants as Refusal'
use Rattle.wire.proofs.Answers.{verdict-accepted, verdict-refused, verdict-number-apart, accepted_or_refused}

-- C-12: no row has the number 0, and no two rows have the same
pub number-positive : (refusal : Refusal) → 1 ≤ row_number refusal
number-positive Refusal'.NotWholeOrders = omega arith
number-positive Refusal'.ListTooLong = omega arith
number-positive Refusal'.OrderZero = omega arith
number-positive Refusal'.UnknownType = omega arith
number-positive Refusal'.SpareByte = omega arith
number-positive Refusal'.SecondWord = omega arith
number-positive Refusal'.OrderTwice = omega arith
number-positive Refusal'.TypeChanged = omega arith
number-positive Refusal'.NoSuchPacket = omega arith
number-positive Refusal'.Length = omega arith
number-positive Refusal'.NoTablePacket = omega arith
number-positive Refusal'.EmptySlotFilled = omega arith
number-positive Refusal'.UnknownSlotType = omega arith
number-positive Refusal'.NumberTwice = omega arith
number-positive Refusal'.NumberClash = omega arith
number-positive Refusal'.FirstByte = omega arith
number-positive Refusal'.ZeroBit = omega arith

pub row_of : ℕ → Refusal
row_of number = cond (eqb number 1) Refusal'.NotWholeOrders (cond (eqb number 2) Refusal'.ListTooLong (cond (eqb number 3) Refusal'.OrderZero (cond (eqb number 4) Refusal'.UnknownType (cond (eqb number 5) Refusal'.SpareByte (cond (eqb number 6) Refusal'.SecondWord (cond (eqb number 7) Refusal'.OrderTwice (cond (eqb number 8) Refusal'.TypeChanged (cond (eqb number 9) Refusal'.NoSuchPacket (cond (eqb number 10) Refusal'.Length (cond (eqb number 11) Refusal'.NoTablePacket (cond (eqb number 12) Refusal'.EmptySlotFilled (cond (eqb number 13) Refusal'.UnknownSlotType (cond (eqb number 14) Refusal'.NumberTwice (cond (eqb number 15) Refusal'.NumberClash (cond (eqb number 16) Refusal'.FirstByte (Refusal'.ZeroBit))))))))))))))))

row_back : (refusal : Refusal) → row_of (row_number refusal) ≡ refusal
unfolding row_of
row_back Refusal'.NotWholeOrders = refl
row_back Refusal'.ListTooLong = refl
row_back Refusal'.OrderZero = refl
row_back Refusal'.UnknownType = refl
row_back Refusal'.SpareByte = refl
row_back Refusal'.SecondWord = refl
row_back Refusal'.OrderTwice = refl
row_back Refusal'.TypeChanged = refl
row_back Refusal'.NoSuchPacket = refl
row_back Refusal'.Length = refl
row_back Refusal'.NoTablePacket = refl
row_back Refusal'.EmptySlotFilled = refl
row_back Refusal'.UnknownSlotType = refl
row_back Refusal'.NumberTwice = refl
row_back Refusal'.NumberClash = refl
row_back Refusal'.FirstByte = refl
row_back Refusal'.ZeroBit = refl

pub number_apart : (one other : Refusal) → row_number one ≡ row_number other → one ≡ other
number_apart one other e = sym (row_back one) ∙ (ap row_of e ∙ row_back other)

-- C-12: the verdict of an answer is that of its number
pub verdict_by_number : {A : Type 0} (answer : Result A Refusal) → verdict_in answer ≡ verdict_of (refusal_number answer)
verdict_by_number (Ok value) = sym (verdict-accepted 0 refl)
verdict_by_number (Err refusal) =
    let p : 1 ≤ row_number refusal = number-positive refusal in
    sym (verdict-refused (row_number refusal) (λ z. omega arith))

-- an answer with a number is so
pub answered_with : {A : Type 0} (answer : Result A Refusal) {number : ℕ} → refusal_number answer ≡ number → verdict_in answer ≡ verdict_of number
answered_with answer e = verdict_by_number answer ∙ ap verdict_of e

-- what a `?` hands on has the number that came
pub exit_number : {A : Type 0} (answer : Result A Refusal) (refusal : Refusal) → IsErrAnd answer (λ (own : Refusal). own ≡ refusal)
    → refusal_number answer ≡ row_number refusal
exit_number answer refusal p = let q = err_from_is_err_and answer p in rw (q.1, q.2) refl

-- the number of a row is not 0, whatever it is said to be
pub number_nonzero : (refusal : Refusal) (number : ℕ) → row_number refusal ≡ number → number ≡ 0 → ⊥
number_nonzero refusal number same z = let p : 1 ≤ row_number refusal = number-positive refusal in omega arith

-- each number of the table is a row's
pub row-number : (number : ℕ) → 1 ≤ number → number ≤ 17 → row_number (row_of number) ≡ number
unfolding row_of
row-number number p q = on (eqb number 1) (λ e. rw (e) (sym (eqb-true number 1 e))) (λ f1. on (eqb number 2) (λ e. rw (f1, e) (sym (eqb-true number 2 e))) (λ f2. on (eqb number 3) (λ e. rw (f1, f2, e) (sym (eqb-true number 3 e))) (λ f3. on (eqb number 4) (λ e. rw (f1, f2, f3, e) (sym (eqb-true number 4 e))) (λ f4. on (eqb number 5) (λ e. rw (f1, f2, f3, f4, e) (sym (eqb-true number 5 e))) (λ f5. on (eqb number 6) (λ e. rw (f1, f2, f3, f4, f5, e) (sym (eqb-true number 6 e))) (λ f6. on (eqb number 7) (λ e. rw (f1, f2, f3, f4, f5, f6, e) (sym (eqb-true number 7 e))) (λ f7. on (eqb number 8) (λ e. rw (f1, f2, f3, f4, f5, f6, f7, e) (sym (eqb-true number 8 e))) (λ f8. on (eqb number 9) (λ e. rw (f1, f2, f3, f4, f5, f6, f7, f8, e) (sym (eqb-true number 9 e))) (λ f9. on (eqb number 10) (λ e. rw (f1, f2, f3, f4, f5, f6, f7, f8, f9, e) (sym (eqb-true number 10 e))) (λ f10. on (eqb number 11) (λ e. rw (f1, f2, f3, f4, f5, f6, f7, f8, f9, f10, e) (sym (eqb-true number 11 e))) (λ f11. on (eqb number 12) (λ e. rw (f1, f2, f3, f4, f5, f6, f7, f8, f9, f10, f11, e) (sym (eqb-true number 12 e))) (λ f12. on (eqb number 13) (λ e. rw (f1, f2, f3, f4, f5, f6, f7, f8, f9, f10, f11, f12, e) (sym (eqb-true number 13 e))) (λ f13. on (eqb number 14) (λ e. rw (f1, f2, f3, f4, f5, f6, f7, f8, f9, f10, f11, f12, f13, e) (sym (eqb-true number 14 e))) (λ f14. on (eqb number 15) (λ e. rw (f1, f2, f3, f4, f5, f6, f7, f8, f9, f10, f11, f12, f13, f14, e) (sym (eqb-true number 15 e))) (λ f15. on (eqb number 16) (λ e. rw (f1, f2, f3, f4, f5, f6, f7, f8, f9, f10, f11, f12, f13, f14, f15, e) (sym (eqb-true number 16 e))) (λ f16. let last : number ≡ 17 = omega (arith, p, q, eqb-false number 1 f1, eqb-false number 2 f2, eqb-false number 3 f3, eqb-false number 4 f4, eqb-false number 5 f5, eqb-false number 6 f6, eqb-false number 7 f7, eqb-false number 8 f8, eqb-false number 9 f9, eqb-false number 10 f10, eqb-false number 11 f11, eqb-false number 12 f12, eqb-false number 13 f13, eqb-false number 14 f14, eqb-false number 15 f15, eqb-false number 16 f16) in rw (f1, f2, f3, f4, f5, f6, f7, f8, f9, f10, f11, f12, f13, f14, f15, f16) (sym last)))))))))))))))))

-- an answer with a number, and the verdict of it
pub answer_with : {A : Type 0} → A → (number : ℕ) → number ≤ 17 → (answer : Result A Refusal) × (refusal_number answer ≡ number)
answer_with value number q =
    on (eqb number 0) (λ e. (Ok value, sym (eqb-true number 0 e)))
    (λ e. let p : number ≡ 0 → ⊥ = eqb-false number 0 e in (Err (row_of number), row-number number (omega arith) q))

-- an answer that has no value to give is told by its number, and by its verdict
pub refusal_number-apart : (one other : Result Unit Refusal) → refusal_number one ≡ refusal_number other → one ≡ other
refusal_number-apart (Ok one) (Ok other) e = refl
refusal_number-apart (Ok one) (Err refusal) e = absurd (number_nonzero refusal _ refl (sym e))
refusal_number-apart (Err refusal) (Ok other) e = absurd (number_nonzero refusal _ refl e)
refusal_number-apart (Err refusal) (Err other) e = ap Err (number_apart refusal other e)

pub verdict_in-apart : (one other : Result Unit Refusal) → verdict_in one ≡ verdict_in other → one ≡ other
verdict_in-apart one other e =
    refusal_number-apart one other (verdict-number-apart (refusal_number one) (refusal_number other) (sym (verdict_by_number one) ∙ (e ∙ verdict_by_number other)))

-- an answer with the verdict of a number has that number
pub number_answered : {A : Type 0} (answer : Result A Refusal) (number : ℕ) → verdict_in answer ≡ verdict_of number → refusal_number answer ≡ number
number_answered answer number e = verdict-number-apart (refusal_number answer) number (sym (verdict_by_number answer) ∙ e)

-- an accepted answer is `Ok`
pub accepted_ok : {A : Type 0} (answer : Result A Refusal) → verdict_in answer ≡ verdict_accepted → IsOk answer
accepted_ok (Ok value) e = refl
accepted_ok (Err refusal) e = absurd (accepted_or_refused _ (sym e))
