-- Step numbers (D-03, L-05).
use Rattle.std.specs.Prelude.{ℕ, ◌+◌, ◌-◌, ◌*◌, ◌%◌}

-- D-03: 8,191 is followed by 0
abbrev pub steps : ℕ
steps = 8192

-- L-05: the new step number less the last, around 8,192. The eight rounds that are added keep the difference of any two words
-- of 16 bits from falling below 0, and change no remainder.
unfoldable pub gap_of : ℕ → ℕ → ℕ
gap_of new last = (new + 8 * steps - last) % steps
