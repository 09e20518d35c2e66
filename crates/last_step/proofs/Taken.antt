-- What the step last taken says of another step, by whether there is one.
use Prim.Native.Nat.{ℕ, ◌+◌, ◌-◌, ◌%◌, ◌<◌, ◌≤◌}
use mathlib.Core.Bool.{true, false}
use mathlib.Core.Path.{◌≡◌, refl}
use borrow.Author.Tests.{eq-eqb, ne_eqb}
use Rattle.wire.specs.Steps.{steps}
use Rattle.wire.proofs.Round.{gap-true}
use Rattle.last_step.specs.LastSteps.{is_last, gap_from}
use Rattle.std.specs.Prelude.{None, Some}

-- A-20, L-08: none is taken yet
pub never_last : (step : ℕ) → is_last None step ≡ false
never_last step = refl

pub never_gap : (step : ℕ) → gap_from None step ≡ 0
never_gap step = refl

-- L-01: the same step number, and another
pub same-last : (step : ℕ) → is_last (Some step) step ≡ true
same-last step = eq-eqb step step refl

pub other_last : (last step : ℕ) → (last ≡ step → ⊥) → is_last (Some last) step ≡ false
other_last last step = ne_eqb last step

-- L-05: the gap of two steps less than 8,192 apart is the true distance
pub step-gap : (earlier later : ℕ) → earlier ≤ later → later < earlier + steps → gap_from (Some (earlier % steps)) (later % steps) ≡ later - earlier
step-gap earlier later = gap-true earlier later
