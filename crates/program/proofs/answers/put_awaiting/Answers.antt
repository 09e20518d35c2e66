-- `put_awaiting`: the name and what is awaited.
use Rattle.std.proofs.Common.{ap, ◌∙◌}
use Rattle.text.specs.Putting.{put_on}
use Rattle.text.proofs.Putting.{put_next}
use Rattle.program.specs.Answers.{awaiting_line}
use Rattle.program.proofs.answers.put_awaiting.Goals as goal

pub returns : goal.returns
unfolding awaiting_line
returns c =
    rw (← c.awaited.ensures)
    (c.put_words-3.ensures
    ∙ (ap (put_on _) c.put_words-2.ensures
    ∙ (put_next _ _ _ ∙ (ap (put_on _) c.put_words.ensures ∙ (put_next _ _ _ ∙ (ap (put_on _) c.put_name.ensures ∙ put_next _ _ _))))))
