-- The ladder of a train telegram.
use mathlib.Core.List.{List}
use Prim.Native.Nat.{ℕ}
use native.Mathlib.Omega.{arith}
use Rattle.kit.specs.Ladder.{Numbered}
use Rattle.train_codes.specs.Refusals.{train_rows}

-- every answer of the ladder is a number of document 01, and so not 0
pub train-numbered : (t : List ℕ) → Numbered (train_rows t)
unfolding train_rows
train-numbered t = (omega arith, (omega arith, (omega arith, tt)))
