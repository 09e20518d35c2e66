-- `is_there`: whether the number was seen decides, or the slots of the picture.
use mathlib.Core.Bool.{false}
use mathlib.Core.Path.{refl, sym, ◌∙◌}
use Rattle.marks.proofs.Lent.{there-known}
use Rattle.marks.proofs.Seeing.{unseen}
use Rattle.marks.proofs.is_there.Goals as goal

pub returns-then-contains : goal.returns-then-contains
returns-then-contains c = there-known c.args.memory.now c.args.i c.requires.1 _ c.kind_of.ensures _ c.is_known.ensures

pub returns-else-contains : goal.returns-else-contains
returns-else-contains c =
    let memory = c.args.memory.now in
    let off = c.if-contains.false in
    off ∙ there-known memory c.args.i c.requires.1 _ refl false (sym (unseen memory c.args.seen.now.flags _ _ c.requires.2 (sym c.contains.ensures ∙ off)))
