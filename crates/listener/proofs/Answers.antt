-- What an answer tells is the whole answer: no two of them tell the same (C-12).
use Prim.Native.Nat.{ℕ}
use mathlib.Core.Path.{◌≡◌, refl, sym, ap, ◌∙◌}
use native.Mathlib.Omega.{arith}
use Rattle.listener.specs.Answers.{Outcome, a_refusal, a_repeat, a_part, a_table, Told, Hearing, refused_as, as_repeat, as_held, taken_as, told_of, hearing_of}
use Rattle.listener.specs.declared.Answer.{Answer}
use Rattle.listener.specs.declared.Answer.TheVariants.{Refused, Repeat, Held, Taken}
use Rattle.listener.specs.declared.Heard.{Heard}

-- the answer that is told so
abbrev answer_by : Outcome → Told → Answer
answer_by a_refusal told = Refused told.number
answer_by a_repeat told = Repeat
answer_by a_part told = Held
answer_by a_table told = Taken told.step told.conditions told.gap

abbrev answer_of : Told → Answer
answer_of told = answer_by told.outcome told

-- what an answer tells gives it back
told_back : (answer : Answer) → answer_of (told_of answer) ≡ answer
told_back (Refused number) = refl
told_back Repeat = refl
told_back Held = refl
told_back (Taken step count gap) = refl

-- C-12: two answers that tell the same are the same
pub told-apart : (a b : Answer) → told_of a ≡ told_of b → a ≡ b
told-apart a b e = sym (told_back a) ∙ (ap answer_of e ∙ told_back b)

-- and so with the listener beside them
pub hearing_apart : (a b : Heard) → hearing_of a ≡ hearing_of b → a ≡ b
hearing_apart a b e = λ i. record { answer = told-apart a.answer b.answer (ap (λ (h : Hearing). h.told) e) i; listener = (e i).listener }

-- ---- what is no refusal

pub repeat_or_refused : (number : ℕ) → as_repeat ≡ refused_as number → ⊥
repeat_or_refused number e =
    let outcome : a_repeat ≡ a_refusal = ap (λ (told : Told). told.outcome) e in
    let z : ◌≡◌ {A = ℕ} 0 1 = cc in omega arith

pub held_or_refused : (number : ℕ) → as_held ≡ refused_as number → ⊥
held_or_refused number e =
    let outcome : a_part ≡ a_refusal = ap (λ (told : Told). told.outcome) e in
    let z : ◌≡◌ {A = ℕ} 0 1 = cc in omega arith

pub taken_or_refused : (step conditions gap number : ℕ) → taken_as step conditions gap ≡ refused_as number → ⊥
taken_or_refused step conditions gap number e =
    let outcome : a_table ≡ a_refusal = ap (λ (told : Told). told.outcome) e in
    let z : ◌≡◌ {A = ℕ} 0 1 = cc in omega arith
