-- What is written at the end is never longer than what is written where the input has ended.
use Prim.Native.Nat.{ℕ, ◌≤◌}
use mathlib.Core.List.{List}
use native.Mathlib.Omega.{arith}
use lib.ListN.{length}
use Rattle.outcomes.specs.Ends.{at_the_end, where_short}
use Rattle.outcomes.specs.declared.outcomes.State.{State}
use Rattle.outcomes.specs.declared.outcomes.State.TheVariants.{More, Again, Ended, Failed}
use Rattle.outcomes.specs.declared.ends.End.{End}
use Rattle.outcomes.specs.declared.ends.End.TheVariants.{Whole, Short, Failed as FailedEnd}

pub at_the_end-short : (state : State) (text : List ℕ) (most : ℕ) → length text ≤ most → length (at_the_end state text) ≤ most
at_the_end-short More text most p = omega arith
at_the_end-short Again text most p = omega arith
at_the_end-short Ended text most p = p
at_the_end-short Failed text most p = omega arith

pub where_short-short : (end : End) (line : List ℕ) (most : ℕ) → length line ≤ most → length (where_short end line) ≤ most
where_short-short Whole line most p = omega arith
where_short-short Short line most p = p
where_short-short FailedEnd line most p = omega arith
