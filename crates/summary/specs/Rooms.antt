-- The size of a buffer that has room for every summary; proofs/Room.antt proves it.
use Rattle.std.specs.Prelude.{ℕ, ◌≤◌, get_or}
use Rattle.lister.specs.Pieces.{most_tables}
use Rattle.summary.specs.Counts.{none_refused}
use Rattle.summary.specs.declared.Tally.{Tally}

abbrev pub summary_room : ℕ
summary_room = 1536

-- Q-104: counts that can be held, as all are that were counted
pub record Countable (tally : Tally) : Type 0 where
  pub telegrams : tally.telegrams ≤ most_tables
  pub tables : tally.tables ≤ most_tables
  pub repeats : tally.repeats ≤ most_tables
  pub refused : (number : ℕ) → (get_or tally.refused number none_refused).count ≤ most_tables
  pub first : (number : ℕ) → (get_or tally.refused number none_refused).first ≤ most_tables
