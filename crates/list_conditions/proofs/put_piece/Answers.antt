-- `put_piece`: what was put on the sheet stands in the buffer that it was made of.
use Rattle.std.proofs.Common.{rules}
use Rattle.text.proofs.Putting.{sheet_back}
use Rattle.list_conditions.proofs.put_piece.Goals as goal

pub returns : goal.returns
returns c = (c.take.ensures.0, sheet_back c.args.out c.take.new.listing c.on-sheet.ensures.0 c.on-sheet.ensures.1 c.take.ensures.1 (search rules))
