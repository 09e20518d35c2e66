-- The step last taken: document 01, "The listener", its sentences on repeats of that step and on the gap.
use Rattle.std.specs.Prelude.{ℕ, Bool, false, Option, None, Some, eqb}
use Rattle.wire.specs.Steps.{gap_of}

-- L-01: whether a step number is that of the step last taken
abbrev pub is_last : Option ℕ → ℕ → Bool
is_last None step = false
is_last (Some last) step = eqb last step

-- L-05: the gap is the new step number less the last taken one, around 8,192; L-08: that of the first table is reported as 0
abbrev pub gap_from : Option ℕ → ℕ → ℕ
gap_from None step = 0
gap_from (Some last) step = gap_of step last
