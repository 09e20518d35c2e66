-- `Place::is_taken`: the loop leaves at the first place that has the number.
use Rattle.std.proofs.Common.{sym, ◌∙◌, eq-eqb, ne_eqb, rules}
use native.Mathlib.Nat.{sub-zero}
use Rattle.kit.proofs.Loops.{scan-go, scan_hit, scan-end}
use Rattle.telegram.specs.Telegrams.{taken_before}
use Rattle.telegram_reader.proofs.Place.is_taken.Goals as goal

pub loop-j-init : goal.loop-j-init
unfolding taken_before
loop-j-init c = (search rules, simp sub-zero)

pub returns-then-self-j : goal.returns-then-self-j
returns-then-self-j c = let l = c.loop-j in sym (l.invariant.1 ∙ scan_hit _ _ _ _ l.j (search rules) (eq-eqb _ _ c.if-self-j.true))

pub loop-j-preserved : goal.loop-j-preserved
loop-j-preserved c = let l = c.loop-j in (search rules, l.invariant.1 ∙ scan-go _ _ _ _ l.j (search rules) (ne_eqb _ _ c.if-self-j.false))

pub returns : goal.returns
returns c = let l = c.loop-j in sym (l.invariant.1 ∙ scan-end _ _ _ _ l.j (search rules))
