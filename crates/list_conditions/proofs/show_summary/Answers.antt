-- `show_summary`: the summary has room, so that the place past it counts bytes of the buffer.
use Rattle.std.proofs.Common.{arith, ◌≤◌, length}
use Rattle.outcomes.proofs.Lengths.{at_the_end-short}
use Rattle.lister.specs.Pieces.{MadeByPieces}
use Rattle.lister.specs.declared.Lister.{Lister}
use Rattle.summary.specs.Rooms.{summary_room, Countable}
use Rattle.summary.specs.Summaries.{summary_of}
use Rattle.summary.specs.declared.Tally.{Tally}
use Rattle.summary.proofs.Room.{summary-short}
use Rattle.listing_room.proofs.Room.{put_counts_lem}
use Rattle.list_conditions.proofs.show_summary.Goals as goal

has_room : (tally : Tally) (lister : Lister) → MadeByPieces lister × Countable tally → length (summary_of tally lister) ≤ summary_room
has_room tally lister (made, fits) = omega (arith, summary-short tally fits made)

pub slice_bounds-out-end : goal.slice_bounds-out-end
slice_bounds-out-end c =
    omega
    (arith, at_the_end-short c.args.state (summary_of c.args.tally c.args.lister) summary_room (has_room c.args.tally c.args.lister c.requires), c.put_summary-n.ensures.past)

pub slice_bounds-write-end : goal.slice_bounds-write-end
slice_bounds-write-end c =
    put_counts_lem
    (at_the_end-short c.args.state (summary_of c.args.tally c.args.lister) summary_room (has_room c.args.tally c.args.lister c.requires))
    c.put_summary-n.ensures
