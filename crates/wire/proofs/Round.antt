-- The gap is the new step number less the last, around 8,192.
--
-- `gap-round` and `gap-only` say it without the formula: of the numbers below 8,192 the gap is the one, and the only one, that leads
-- from the last step number to the new one. The code subtracts around 65,536, the width of the word; that agrees because 65,536 is
-- eight times 8,192, so that a difference which is off by 65,536 has the same remainder by 8,192. Around a width that 8,192 did not
-- divide, it would not.
use Rattle.std.proofs.Common.{◌≡◌, ℕ, ◌+◌, ◌-◌, ◌*◌, ◌%◌, ◌<◌, ◌≤◌, arith}
use Rattle.wire.specs.Steps.{steps, gap_of}

pub gap-round : (new last : ℕ) → last ≤ 8 * steps → (gap_of new last < steps) × ((last + gap_of new last) % steps ≡ new % steps)
unfolding gap_of
gap-round new last h = (omega arith, omega arith)

pub gap-only : (new last other : ℕ) → last ≤ 8 * steps → other < steps → (last + other) % steps ≡ new % steps → other ≡ gap_of new last
unfolding gap_of
gap-only new last other h p e = omega arith

-- the gap of two step numbers is the true distance of the steps, wherever they lie less than 8,192 apart
pub gap-true : (earlier later : ℕ) → earlier ≤ later → later < earlier + steps → gap_of (later % steps) (earlier % steps) ≡ later - earlier
unfolding gap_of
gap-true earlier later p q = omega arith
