-- `marks_of`: no gap, one past the reach, or the slots decide.
use Prim.Native.Nat.{◌<◌, ◌≤◌}
use mathlib.Core.Logic.{◌⊎◌}
use mathlib.Core.Path.{◌≡◌, ◌∙◌}
use borrow.Author.Rules.{rules}
use Rattle.marks.proofs.Lent.{marks-none, marks-there}
use Rattle.marks.proofs.marks_of.Goals as goal

pub returns-then-contains : goal.returns-then-contains
returns-then-contains c =
    let a = c.args in
    let within : (1 ≤ a.gap) × (a.gap ≤ a.reach) = search rules in
    c.all_there.ensures ∙ marks-there a.reach a.gap a.memory.now within.0 within.1

pub returns-else-contains : goal.returns-else-contains
returns-else-contains c =
    let a = c.args in
    let out : (a.gap ≡ 0) ⊎ (a.reach < a.gap) = search rules in
    marks-none a.reach a.gap a.memory.now out
