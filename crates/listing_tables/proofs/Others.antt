-- What `let else` leaves: the arm for every answer but one is told only that the answer has the tag of one of the others.
use mathlib.Core.Path.{◌≡◌, refl}
use mathlib.Core.Bool.{Bool}
use mathlib.Core.Logic.{inl, inr}
use mathlib.Core.List.{List, [], ◌∷◌}
use native.Mathlib.Omega.{arith}
use denote.Enum.Declared.{tag_of}
use types.Run.{OneOf}
use Rattle.condition.specs.declared.slots.Slot.{Slot}
use Rattle.listener.specs.Answers.{told_of}
use Rattle.listener.specs.declared.Answer.{Answer}
use Rattle.listener.specs.declared.Answer.TheVariants.{Refused, Repeat, Held, Taken}
use Rattle.listener.specs.contracts.Answer as answer
use Rattle.listing_tables.specs.Tables.{refusal_lines, answer_lines, tables_of}

-- any answer but a table taken
pub untaken : (a : Answer) → OneOf (0 ∷ 1 ∷ 2 ∷ []) (tag_of answer.the_type a)
    → (0 ≡ tables_of (told_of a)) × ((picture : List Slot) (marks : List Bool) → answer_lines (told_of a) picture marks ≡ refusal_lines (told_of a))
untaken (Refused number) k = (refl, λ picture marks. refl)
untaken Repeat k = (refl, λ picture marks. refl)
untaken Held k = (refl, λ picture marks. refl)
untaken (Taken step count gap) (inl e) = absurd (omega arith)
untaken (Taken step count gap) (inr (inl e)) = absurd (omega arith)
untaken (Taken step count gap) (inr (inr e)) = absurd (omega arith)

-- any answer but a refusal
pub unrefused : (a : Answer) → OneOf (1 ∷ 2 ∷ 3 ∷ []) (tag_of answer.the_type a) → refusal_lines (told_of a) ≡ []
unrefused (Refused number) (inl e) = absurd (omega arith)
unrefused (Refused number) (inr (inl e)) = absurd (omega arith)
unrefused (Refused number) (inr (inr e)) = absurd (omega arith)
unrefused Repeat k = refl
unrefused Held k = refl
unrefused (Taken step count gap) k = refl
