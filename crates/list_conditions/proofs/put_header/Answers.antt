-- `put_header`: the header has room in a buffer of this size, so that all of it is put.
use Rattle.std.proofs.Common.{arith, rules}
use Rattle.kit.proofs.Put.{poured-put}
use Rattle.text.proofs.Putting.{sheet_back}
use Rattle.listing_room.proofs.Room.{header_room_lem}
use Rattle.list_conditions.proofs.put_header.Goals as goal

pub returns : goal.returns
returns c =
    poured-put (omega (arith, header_room_lem, c.requires))
    (sheet_back c.args.out c.put_header.new.listing c.on-sheet.ensures.0 c.on-sheet.ensures.1 c.put_header.ensures (search rules))
