-- `put_four`: each turn puts one slot.
use Prim.Native.Nat.{◌+◌}
use mathlib.Core.Path.{refl, ap, ◌∙◌}
use Rattle.kit.specs.Loops.{fold}
use Rattle.kit.proofs.Loops.{fold-turn}
use Rattle.memory.specs.Memory.{with_slot}
use Rattle.telegram_reader.specs.Places.{place_slot}
use Rattle.hand.specs.Lent.{four_in}
use Rattle.hand.proofs.put_four.Goals as goal

pub loop-k-init : goal.loop-k-init
unfolding four_in fold
loop-k-init c = refl

pub loop-k-preserved : goal.loop-k-preserved
unfolding four_in
loop-k-preserved c =
    let l = c.loop-k in
    let a = c.args in
    fold-turn (λ k so_far. with_slot so_far (a.i + k) (place_slot a.telegram.now k)) a.memory.now l.memory _ l.k l.invariant
    (c.put_slot.ensures ∙ ap (with_slot l.memory (a.i + l.k)) c.place_slot.ensures)
