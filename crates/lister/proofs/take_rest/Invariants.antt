-- `take_rest`: after each turn the state, and what is put, go on from what is left as from the start.
use mathlib.Core.Path.{◌≡◌}
use Rattle.listener.specs.Lent.{listener_in}
use Rattle.lister.proofs.Kept.{state}
use Rattle.lister.proofs.Phases.{Left}
use Rattle.lister.proofs.take_rest.Given as goal

abbrev pub invariant-loop-telegram : goal.invariant-loop-telegram
invariant-loop-telegram l = record {
  size : l.telegram-iterator.size ≡ 26;
  left : Left l.lister l.piece l.initial.listing (state (listener_in l.memory) l.tables l.lister.tail l.lister.kept) l.telegram-iterator.rest.now l.listing;
}
