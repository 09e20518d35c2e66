-- `piece_of`: from the last byte on, what is packed is all that stands from the place on.
use Prim.Native.Nat.{ℕ, ◌+◌, ◌-◌, ◌≤◌, min}
use mathlib.Core.Path.{◌≡◌}
use mathlib.Core.List.{List}
use lib.ListN.{length, take, drop}
use Rattle.page.specs.Packed.{Small, number_made}
use Rattle.page.proofs.piece_of.Given as goal

-- what stands from place i on
abbrev pub left : List ℕ → ℕ → ℕ → List ℕ
left words from i = drop (i - from) (take 8 (drop from words))

abbrev pub invariant-loop-i : goal.invariant-loop-i
invariant-loop-i l = (l.i ≤ min (length l.words) (l.from + 8)) × (l.piece ≡ number_made (left l.words l.from l.i)) × Small (left l.words l.from l.i)
