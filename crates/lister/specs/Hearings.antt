-- Recorded telegrams heard one after another: document 01, "Listing program", what is printed on them and how many tables were taken.
use Rattle.std.specs.Prelude.{ℕ, zero, suc, ◌+◌, ◌*◌, ◌/◌, List, [], ◌∷◌, ◌++◌, length, take, drop}
use Rattle.telegram.specs.Telegrams.{read_of}
use Rattle.listener.specs.Answers.{Hearing}
use Rattle.listener.specs.Listeners.{carries, hear_of}
use Rattle.listener.specs.declared.Listener.{Listener}
use Rattle.listing_tables.specs.Tables.{heard_lines, tables_of}

-- W-03: a telegram has 26 bytes
abbrev pub telegram_length : ℕ
telegram_length = 26

-- G-01: so many telegrams, one after another
unfoldable pub cut : ℕ → List ℕ → List (List ℕ)
cut zero bytes = []
cut (suc count) bytes = take telegram_length bytes ∷ cut count (drop telegram_length bytes)

-- G-01: how many telegrams stand there whole, which they are, and the bytes that are left behind them, the tail
abbrev pub whole_count : List ℕ → ℕ
whole_count bytes = length bytes / telegram_length

unfoldable pub telegrams_in : List ℕ → List (List ℕ)
telegrams_in bytes = cut (whole_count bytes) bytes

unfoldable pub tail_of : List ℕ → List ℕ
tail_of bytes = drop (whole_count bytes * telegram_length) bytes

-- W-04: what a listener tells of one telegram, and the listener after it
abbrev pub heard_by : Listener → List ℕ → Hearing
heard_by listener telegram = hear_of carries listener (read_of telegram)

-- W-04: the listener after telegrams, the oldest first
unfoldable pub listener_through : Listener → List (List ℕ) → Listener
listener_through listener [] = listener
listener_through listener (telegram ∷ more) = listener_through (heard_by listener telegram).listener more

-- G-03, G-07: what is printed on them
unfoldable pub lines_for : Listener → List (List ℕ) → List ℕ
lines_for listener [] = []
lines_for listener (telegram ∷ more) = heard_lines (heard_by listener telegram) ++ lines_for (heard_by listener telegram).listener more

-- G-09, C-09: how many tables were taken
unfoldable pub tables_taken : Listener → List (List ℕ) → ℕ
tables_taken listener [] = 0
tables_taken listener (telegram ∷ more) = tables_of (heard_by listener telegram).told + tables_taken (heard_by listener telegram).listener more
