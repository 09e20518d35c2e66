-- A state that was made and took a piece is made, and what it counts can be held.
use mathlib.Core.Path.{subst⁻¹}
use Rattle.std.proofs.Common.{rules, ℕ, List, Option, Some, None, IfSome}
use Rattle.std.specs.Option.{option_map}
use Rattle.lister.specs.Pieces.{MadeByPieces, made_begun, taken_piece}
use Rattle.lister.specs.declared.Lister.{Lister}
use Rattle.summary.specs.Rooms.{Countable}
use Rattle.summary.specs.Tallies.{counted_piece}
use Rattle.summary.specs.declared.Tally.{Tally}
use Rattle.summary.proofs.Room.{piece_fits}
use Rattle.list_conditions.proofs.list.Goals as goal

piece-fits : (counted : Option Tally) → IfSome counted Countable → (lister : Lister) (piece : List ℕ) → IfSome (option_map (λ tally. counted_piece tally lister piece) counted) Countable
piece-fits None fits lister piece = tt
piece-fits (Some tally) fits lister piece = piece_fits tally fits lister piece

pub loop-init : goal.loop-init
loop-init c = record {
  made = subst⁻¹ MadeByPieces c.begun-lister.ensures made_begun;
  counted = c.requires;
  size = search rules;
}

pub loop-preserved : goal.loop-preserved
loop-preserved c = record {
  made = subst⁻¹ MadeByPieces c.show_piece.ensures (taken_piece c.loop.invariant.made _);
  counted = subst⁻¹ (λ tally. IfSome tally Countable) c.count_piece-tally.ensures (piece-fits c.loop.tally c.loop.invariant.counted c.loop.lister _);
  size = search rules;
}
