-- `Place::is_taken`: the loop leaves at the first place that has the number.
use Rattle.std.proofs.Common.{◌≡◌, ◌-◌, ◌≤◌, eqb, get_or}
use Rattle.kit.specs.Loops.{any}
use Rattle.telegram.specs.Telegrams.{taken_before, place_start}
use Rattle.telegram_reader.proofs.Place.is_taken.Given as goal

abbrev pub invariant-loop-j : goal.invariant-loop-j
invariant-loop-j l = (l.j ≤ l.self.k) × (taken_before l.self.telegram.now l.self.k l.number ≡ any (λ i. eqb (get_or l.self.telegram.now (place_start i) 0) l.number) l.j (l.self.k - l.j))
