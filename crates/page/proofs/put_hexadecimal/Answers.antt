-- `put_hexadecimal`: eight digits are stored, and all of them are put.
use Rattle.page.proofs.Sheets.{laid_digits}
use Rattle.page.proofs.put_hexadecimal.Goals as goal

pub returns-then-has_room : goal.returns-then-has_room
returns-then-has_room c = laid_digits c.args.number c.args.page.now c.if-has_room.ensures c.put_all_digits.ensures
