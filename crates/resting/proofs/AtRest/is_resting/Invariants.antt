-- `AtRest::is_resting`: whether the number rests by one of the entries that were looked at.
use Rattle.std.proofs.Common.{◌≡◌, ℕ, Bool, List}
use Rattle.kit.specs.Loops.{any}
use Rattle.resting.specs.Rests.{rests_by, ended_at}
use Rattle.resting.specs.declared.Ended.{Ended}
use Rattle.resting.proofs.AtRest.is_resting.Given as goal

abbrev pub by : ℕ → ℕ → ℕ → List Ended → ℕ → Bool
by rest step number ended i = rests_by rest step number (ended_at ended i)

abbrev pub invariant-loop-entry : goal.invariant-loop-entry
invariant-loop-entry l = l.rests ≡ any (by l.self.rest l.self.step l.number l.entry-items) 0 l.entry-index
