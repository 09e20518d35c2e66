-- How a reading ended, and what is written then.
use Rattle.std.specs.Prelude.{ℕ, Bool, true, false, cond, List, []}
use Rattle.outcomes.specs.Outcomes.{is_ended}
use Rattle.outcomes.specs.declared.outcomes.State.{State}
use Rattle.outcomes.specs.declared.outcomes.State.TheVariants.{More, Again, Ended, Failed}
use Rattle.outcomes.specs.declared.ends.End.{End}
use Rattle.outcomes.specs.declared.ends.End.TheVariants.{Whole, Short, Failed as FailedEnd}

-- what stands at the end of a listing is written where the input has ended, and nothing of it after a read that failed
abbrev pub at_the_end : State → List ℕ → List ℕ
at_the_end state text = cond (is_ended state) text []

-- an input of lists or calls has ended inside one where some of its bytes had come. A reading that is not over has no end; it is called
-- failed, so that nothing is written
abbrev pub end_by : State → Bool → End
end_by More some = FailedEnd
end_by Again some = FailedEnd
end_by Ended some = cond some Short Whole
end_by Failed some = FailedEnd

-- it has ended inside one
abbrev pub ends_inside : End → Bool
ends_inside Whole = false
ends_inside Short = true
ends_inside FailedEnd = false

-- the line on a list or call that is not whole is written where the input has ended inside it, and not after a read that failed
abbrev pub where_short : End → List ℕ → List ℕ
where_short end line = cond (ends_inside end) line []
