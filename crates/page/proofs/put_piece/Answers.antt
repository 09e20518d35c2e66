-- `put_piece`: eight bytes are stored, and the first ones of them put.
use Rattle.page.proofs.Sheets.{laid_eight}
use Rattle.page.proofs.put_piece.Goals as goal

pub returns-then-has_room : goal.returns-then-has_room
returns-then-has_room c = laid_eight c.args.piece c.args.count c.args.page.now c.if-has_room.ensures c.requires c.put_eight.ensures
