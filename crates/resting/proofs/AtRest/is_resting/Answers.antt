-- `AtRest::is_resting`: whether the number rests by one of the entries that were looked at.
use Rattle.std.proofs.Common.{◌≡◌, length, refl, sym, rules}
use Rattle.kit.specs.Loops.{scan}
use Rattle.kit.proofs.Loops.{any-more}
use Rattle.resting.specs.Rests.{is_resting}
use Rattle.resting.proofs.AtRest.is_resting.Invariants.{by}
use Rattle.resting.proofs.AtRest.is_resting.Goals as goal

pub loop-entry-init : goal.loop-entry-init
unfolding scan
loop-entry-init c = refl

pub loop-entry-preserved : goal.loop-entry-preserved
loop-entry-preserved c =
    let a = c.args in
    let l = c.loop-entry in
    simp (l.invariant, c.rests_by-rests.ensures) (sym (any-more (by a.self.now.rest a.self.now.step a.number a.self.now.ended) l.entry-index))

pub returns : goal.returns
unfolding is_resting
returns c =
    let a = c.args in
    let all : length a.self.now.ended ≡ c.loop-entry.entry-index = search rules in
    rw all c.loop-entry.invariant
