-- `put_summary`: where the input has ended all of it is put, else nothing.
use mathlib.Core.Path.{sym, ap, ◌∙◌}
use Rattle.std.proofs.Common.{rules, cond, []}
use Rattle.kit.proofs.Put.{put_as}
use Rattle.text.proofs.Putting.{sheet_back}
use Rattle.summary.specs.Summaries.{summary_of}
use Rattle.summary.proofs.Room.{summary-put}
use Rattle.list_conditions.proofs.put_summary.Goals as goal

pub returns-then-ended : goal.returns-then-ended
returns-then-ended c =
    put_as
    (ap (λ b. cond b (summary_of c.args.tally c.args.lister) []) (sym c.is_ended-ended.ensures ∙ c.if-ended.true))
    (summary-put c.args.tally c.requires.1 c.requires.0 (search rules)
    (sheet_back c.args.out c.put.new.sheet c.on-sheet.ensures.0 c.on-sheet.ensures.1 c.put.ensures (search rules)))
