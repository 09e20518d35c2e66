-- `next_number`: no number before the one in hand is permitted.
use Rattle.std.proofs.Common.{◌≡◌, ℕ, ◌<◌, false}
use Rattle.resting.specs.Rests.{rests_in}
use Rattle.numbers.specs.Numbers.{is_permitted, number_after}
use Rattle.numbers.proofs.next_number.Given as goal

abbrev pub invariant-loop-others : goal.invariant-loop-others
invariant-loop-others l = (j : ℕ) → j < l.others → is_permitted (rests_in l.at_rest) l.places (number_after l.last j) ≡ false
