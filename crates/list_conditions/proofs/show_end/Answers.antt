-- `show_end`: the end has room, so that the place past it counts bytes of the buffer.
use Rattle.std.proofs.Common.{arith}
use Rattle.listing.specs.Listings.{end_of}
use Rattle.listing_room.specs.Rooms.{end_room}
use Rattle.outcomes.proofs.Lengths.{at_the_end-short}
use Rattle.listing_room.proofs.Room.{end_room_lem, put_counts_lem}
use Rattle.list_conditions.proofs.show_end.Goals as goal

pub slice_bounds-out-end : goal.slice_bounds-out-end
slice_bounds-out-end c =
    omega (arith, at_the_end-short c.args.state (end_of c.args.lister) end_room (end_room_lem c.requires), c.put_end-n.ensures.past)

pub slice_bounds-write-end : goal.slice_bounds-write-end
slice_bounds-write-end c =
    put_counts_lem (at_the_end-short c.args.state (end_of c.args.lister) end_room (end_room_lem c.requires)) c.put_end-n.ensures
