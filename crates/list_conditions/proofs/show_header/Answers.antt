-- `show_header`: the header has room, so that the place past it counts bytes of the buffer.
use Rattle.std.proofs.Common.{arith}
use Rattle.listing_room.proofs.Room.{header_room_lem, put_counts_lem}
use Rattle.list_conditions.proofs.show_header.Goals as goal

pub slice_bounds-out-end : goal.slice_bounds-out-end
slice_bounds-out-end c = omega (arith, header_room_lem, c.put_header-n.ensures.past)

pub slice_bounds-write-end : goal.slice_bounds-write-end
slice_bounds-write-end c = put_counts_lem header_room_lem c.put_header-n.ensures
