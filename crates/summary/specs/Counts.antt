-- What a summary counts, over what a listener told of all telegrams of a recording, the oldest first.
use Rattle.std.specs.Prelude.{ℕ, ◌+◌, min, Bool, true, false, cond, ◌&&◌, List, [], ◌∷◌, eqb, length}
use Rattle.kit.specs.Each.{each}
use Rattle.listener.specs.Answers.{Outcome, a_refusal, a_repeat, a_part, a_table, Told}
use Rattle.listener.specs.declared.Listener.{Listener}
use Rattle.lister.specs.Hearings.{heard_by}
use Rattle.lister.specs.Pieces.{most_tables}
use Rattle.summary.specs.declared.Refusals.{Refusals}
use Rattle.summary.specs.declared.Tally.{Tally}

-- W-04: what a listener tells of telegrams, the oldest first
unfoldable pub told_through : Listener → List (List ℕ) → List Told
told_through listener [] = []
told_through listener (telegram ∷ more) = (heard_by listener telegram).told ∷ told_through (heard_by listener telegram).listener more

-- C-12: which of the four is meant
abbrev pub is_table : Outcome → Bool
is_table a_refusal = false
is_table a_repeat = false
is_table a_part = false
is_table a_table = true

abbrev pub is_repeat : Outcome → Bool
is_repeat a_refusal = false
is_repeat a_repeat = true
is_repeat a_part = false
is_repeat a_table = false

abbrev pub is_refusal : Outcome → Bool
is_refusal a_refusal = true
is_refusal a_repeat = false
is_refusal a_part = false
is_refusal a_table = false

-- a table was taken; the telegram was a repeat; it was refused; it was refused under this number
abbrev pub took_table : Told → Bool
took_table told = is_table told.outcome

abbrev pub was_repeat : Told → Bool
was_repeat told = is_repeat told.outcome

abbrev pub was_refused : Told → Bool
was_refused told = is_refusal told.outcome

abbrev pub refused_under : ℕ → Told → Bool
refused_under number told = was_refused told && eqb told.number number

-- how many of them are such
unfoldable pub how_many_told : (Told → Bool) → List Told → ℕ
how_many_told such [] = 0
how_many_told such (told ∷ more) = cond (such told) 1 0 + how_many_told such more

-- where the first such stands, where the first of all stands at `place`; 0 where none is such
unfoldable pub first_from : ℕ → (Told → Bool) → List Told → ℕ
first_from place such [] = 0
first_from place such (told ∷ more) = cond (such told) place (first_from (place + 1) such more)

-- telegrams are counted from 1
abbrev pub first_told : (Told → Bool) → List Told → ℕ
first_told such told = first_from 1 such told

-- Q-104: a count stays at the greatest number that it can hold
abbrev pub up_to_most : ℕ → ℕ
up_to_most count = min count most_tables

-- R-20: refusals of a listener have numbers up to 15: one for each of the sixteen from 0 on
abbrev pub refusal_numbers : ℕ
refusal_numbers = 16

unfoldable pub for_each_number : {A : Type 0} → (ℕ → A) → List A
for_each_number of = each (λ number. of number ∷ []) 0 refusal_numbers

-- nothing was refused under a number
abbrev pub none_refused : Refusals
none_refused = record { count = 0; first = 0 }

-- how many were refused under it, and where the first of them stands
abbrev pub refusals_told : List Told → ℕ → Refusals
refusals_told told number =
    record {
      count = up_to_most (how_many_told (refused_under number) told);
      first = up_to_most (first_told (refused_under number) told);
    }

-- the counts of what was told
unfoldable pub tally_of : List Told → Tally
tally_of told =
    record {
      telegrams = up_to_most (length told);
      tables = up_to_most (how_many_told took_table told);
      repeats = up_to_most (how_many_told was_repeat told);
      refused = for_each_number (refusals_told told);
    }
