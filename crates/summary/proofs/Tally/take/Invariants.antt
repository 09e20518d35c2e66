-- `Tally::take`: what is counted so far and what is still to be heard make the whole, turn by turn.
use mathlib.Core.Path.{◌≡◌}
use Rattle.listener.specs.Lent.{listener_in}
use Rattle.summary.specs.Tallies.{counted_piece}
use Rattle.summary.proofs.Filling.{to_count}
use Rattle.summary.proofs.Tally.take.Given as goal

abbrev pub invariant-loop-telegram : goal.invariant-loop-telegram
invariant-loop-telegram l = record {
  size : l.telegram-iterator.size ≡ 26;
  goes : to_count l.tally (listener_in l.memory) l.telegram-iterator.rest.now ≡ counted_piece l.fn.self l.fn.lister l.fn.piece;
}
