-- `find_or_begin`: the step number of the set decides.
use mathlib.Core.Bool.{true, false}
use mathlib.Core.Path.{◌≡◌, sym, ap, ◌∙◌}
use lib.Dec.{eqb}
use borrow.Author.Tests.{eq-eqb, ne_eqb}
use Rattle.hand.specs.Lent.{hand_in}
use Rattle.hand.specs.Sets.{is_held}
use Rattle.listener.proofs.Lent.{same_set, same_memory, new-memory, none-held}
use Rattle.listener.proofs.find_or_begin.Goals as goal

pub returns-then-step_of-step : goal.returns-then-step_of-step
returns-then-step_of-step c =
    let a = c.args in
    let same : eqb (hand_in a.memory.now).step a.step ≡ true = eq-eqb _ _ (sym c.step_of.ensures ∙ c.if-step_of-step.true) in
    (c.is_held.ensures ∙ ap (λ h. is_held h a.packet) (same_set a.memory.now a.step same), same_memory a.memory.now a.step same)

pub returns-else-step_of-step : goal.returns-else-step_of-step
returns-else-step_of-step c =
    let a = c.args in
    let other : eqb (hand_in a.memory.now).step a.step ≡ false = ne_eqb _ _ (λ z. c.if-step_of-step.false (c.step_of.ensures ∙ z)) in
    (sym (none-held a.memory.now a.step other a.packet), c.begin.ensures ∙ new-memory a.memory.now a.step other)
