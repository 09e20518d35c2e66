-- `length_of`: before each turn the bytes of the recording so far are counted.
use mathlib.Core.Path.{◌≡◌}
use lib.ListN.{length}
use Rattle.listing_length.specs.Lengths.{piece_size, piece_lines_room}
use Rattle.listing_length.proofs.Counting.{SoFar}
use Rattle.listing_length.proofs.length_of.Given as goal

abbrev pub invariant-loop-piece : goal.invariant-loop-piece
invariant-loop-piece l = record {
  size : l.piece-iterator.size ≡ piece_size;
  room : length l.sheet.buffer.now ≡ piece_lines_room;
  counted : SoFar l.recording l.lister l.bytes l.piece-iterator.rest.now;
}
