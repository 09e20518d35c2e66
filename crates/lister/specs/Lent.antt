-- One telegram heard in lent memory.
use Rattle.std.specs.Prelude.{ℕ, ◌+◌, min, ◌≡◌}
use Rattle.listener.specs.Answers.{Hearing}
use Rattle.listener.specs.declared.Listener.{Listener}
use Rattle.listing_tables.specs.Tables.{tables_of}
use Rattle.lister.specs.Pieces.{most_tables}

-- the memory then means this listener, and so many tables were taken, after so many before
pub record HeardNext (heard : Hearing) (before : ℕ) (listener : Listener) (tables : ℕ) : Type 0 where
  pub means : listener ≡ heard.listener
  pub counts : tables ≡ min (before + tables_of heard.told) most_tables
