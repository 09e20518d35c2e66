-- `sort_out`: each turn sorts one slot more.
use mathlib.Core.Bool.{Bool, true, false, cond}
use mathlib.Core.Path.{◌≡◌, refl, ap, ◌∙◌}
use mir.Val.{bool_byte}
use Rattle.memory.specs.Memory.{is_set}
use Rattle.marks.proofs.Heads.{slots_alike}
use Rattle.marks.proofs.Sorting.{sorted_more}
use Rattle.marks.proofs.sort_out.Goals as goal

-- a flag is counted as one or as nothing
flag_counted : (flag : Bool) → bool_byte flag ≡ cond flag 1 0
flag_counted true = refl
flag_counted false = refl

pub loop-i-preserved : goal.loop-i-preserved
loop-i-preserved c =
    let l = c.loop-i in
    let memory = c.args.memory.now in
    sorted_more memory l.i l.count l.others l.marks c.loop-i-test.true l.invariant _ _ _ _ _
    (slots_alike memory l.i _ _ c.head_at-head.ensures c.head_at-before.ensures)
    (ap is_set c.head_at-head.ensures.1) refl (c.from-count.ensures ∙ flag_counted _) refl
