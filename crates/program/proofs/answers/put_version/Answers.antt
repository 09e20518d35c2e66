-- `put_version`: the name and the version.
use Rattle.std.proofs.Common.{ap, ◌∙◌}
use Rattle.text.specs.Putting.{put_on}
use Rattle.text.proofs.Putting.{put_next}
use Rattle.program.specs.Answers.{version_line}
use Rattle.program.proofs.answers.put_version.Goals as goal

pub returns : goal.returns
unfolding version_line
returns c = c.put_words.ensures ∙ (ap (put_on _) c.put_name.ensures ∙ put_next _ _ _)
