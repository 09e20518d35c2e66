-- `add`: whether five are held decides.
use mathlib.Core.Path.{sym, ◌∙◌}
use Rattle.listener.proofs.Lent.{added_whole, added_part}
use Rattle.listener.proofs.add.Goals as goal

pub returns-then-is_whole : goal.returns-then-is_whole
returns-then-is_whole c =
    let a = c.args in
    added_whole a.memory.now a.telegram.now _ c.join.ensures _ (sym c.is_whole.ensures ∙ c.if-is_whole.true) c.judge.ensures

pub returns-else-is_whole : goal.returns-else-is_whole
returns-else-is_whole c =
    let a = c.args in
    added_part a.memory.now a.telegram.now _ c.join.ensures (sym c.is_whole.ensures ∙ c.if-is_whole.false)
