-- The numbers that rest: document 01, "The list and the step", its fourth point.
--
-- `rest` is the figure of that point: for how many steps an ended number is not permitted, the one in which it ended among them. The
-- base's is 8.
use Rattle.std.specs.Prelude.{ℕ, Bool, ◌&&◌, List, eqb, ltb, length, get_or}
use Rattle.kit.specs.Loops.{any}
use Rattle.wire.specs.Steps.{gap_of}
use Rattle.resting.specs.declared.AtRest.{AtRest}
use Rattle.resting.specs.declared.Ended.{Ended}

-- A-40: an entry of the ended numbers that says nothing
abbrev pub none_ended : Ended
none_ended = record { number = 0; step = 0 }

-- D-12: entry i of the ended numbers
abbrev pub ended_at : List Ended → ℕ → Ended
ended_at ended i = get_or ended i none_ended

-- D-12: an order that had the number ended in this step or in one of the rest - 1 before
unfoldable pub rests_by : ℕ → ℕ → ℕ → Ended → Bool
rests_by rest step number entry = eqb entry.number number && ltb (gap_of step entry.step) rest

-- D-12: the same of one of the ended numbers that are kept
unfoldable pub is_resting : ℕ → ℕ → List Ended → ℕ → Bool
is_resting rest step ended number = any (λ i. rests_by rest step number (ended_at ended i)) 0 (length ended)

-- D-12: the same, with the ended numbers, the figure and the step handed over together
abbrev pub rests_in : AtRest → ℕ → Bool
rests_in at_rest = is_resting at_rest.rest at_rest.step at_rest.ended
