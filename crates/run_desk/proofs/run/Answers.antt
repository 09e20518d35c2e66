-- A fresh desk was made, and so is one that took a list more.
use mathlib.Core.Path.{subst⁻¹}
use Rattle.desk.specs.Desks.{Made, made_fresh, called}
use Rattle.run_desk.proofs.run.Goals as goal

pub loop-lists-init : goal.loop-lists-init
loop-lists-init c = subst⁻¹ Made c.fresh-desk.ensures made_fresh

pub loop-lists-preserved : goal.loop-lists-preserved
loop-lists-preserved c = subst⁻¹ Made c.take.ensures (called c.loop-lists.invariant _)
