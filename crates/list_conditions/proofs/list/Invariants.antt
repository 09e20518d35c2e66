-- Every piece goes to a state that was made, every count can be held, and the buffer keeps its size.
use Rattle.std.proofs.Common.{◌≡◌, length, IfSome}
use Rattle.lister.specs.Pieces.{MadeByPieces}
use Rattle.listing_room.specs.Rooms.{lines_room}
use Rattle.summary.specs.Rooms.{Countable}
use Rattle.list_conditions.proofs.list.Given as goal

abbrev pub invariant-loop : goal.invariant-loop
invariant-loop l = record {
  made : MadeByPieces l.lister;
  counted : IfSome l.tally Countable;
  size : length l.out ≡ lines_room;
}
