-- `run`: what the two sheets hold at the end stands in the two buffers.
use Rattle.std.proofs.Common.{rules}
use Rattle.text.proofs.Putting.{sheet_back}
use Rattle.desk_runs.proofs.run.Goals as goal

pub returns : goal.returns
returns c = (
  sheet_back c.args.tables c.hand_over.new.tables c.on-table_sheet.ensures.0 c.on-table_sheet.ensures.1 c.hand_over.ensures.1 (search rules),
  sheet_back c.args.lines c.hand_over.new.lines c.on-line_sheet.ensures.0 c.on-line_sheet.ensures.1 c.hand_over.ensures.2 (search rules),
)
