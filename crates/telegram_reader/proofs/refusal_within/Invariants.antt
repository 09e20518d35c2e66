-- `refusal_within`: the packet by the tests that led there; then the loop leaves at the first place whose ladder answers.
use Rattle.std.proofs.Common.{ℕ, ◌-◌, ◌≤◌, ◌≡◌, List}
use Rattle.kit.specs.Ladder.{ladder}
use Rattle.kit.specs.Loops.{first_nonzero}
use Rattle.telegram.specs.Telegrams.{place_rows, read_rows}
use Rattle.telegram_reader.proofs.refusal_within.Given as goal

abbrev pub judged : List ℕ → ℕ → ℕ
judged bytes k = ladder 0 (place_rows bytes k)

abbrev pub invariant-loop-k : goal.invariant-loop-k
invariant-loop-k l = (l.k ≤ 4) × (ladder 0 (read_rows l.telegram) ≡ first_nonzero (judged l.telegram) l.k (4 - l.k))
