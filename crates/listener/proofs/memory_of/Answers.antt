-- `memory_of`: the parts, one after another.
use mathlib.Core.Path.{ap, ◌∙◌}
use lib.Seq.{sets}
use Rattle.memory.specs.Memory.{last_from, step_from, with_marks}
use Rattle.last_step.specs.Lent.{last_bytes}
use Rattle.hand.specs.Lent.{hand_bytes}
use Rattle.listener.proofs.Back.{Sized, built}
use borrow.Author.Rules.{rules}
use Rattle.listener.proofs.memory_of.Goals as goal

pub returns : goal.returns
returns c =
    let listener = c.args.listener in
    let sized : Sized listener =
    record {
      picture = search rules;
      marks = search rules;
      held = search rules;
      set = search rules;
    } in
    c.put_hand.ensures
    ∙ (ap (λ m. sets m step_from (hand_bytes listener.hand))
    (c.put_last.ensures ∙ ap (λ m. sets m last_from (last_bytes listener.last)) (c.put_marks.ensures ∙ ap (λ m. with_marks m listener.marks) c.put_picture.ensures))
    ∙ built listener sized)
