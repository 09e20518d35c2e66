-- A listing made piece by piece (W-06, Q-92): what is kept from one piece to the next, and what each piece prints.
use Rattle.std.specs.Prelude.{ℕ, ◌+◌, ◌-◌, min, List, [], ◌++◌, length, take, replicate}
use Rattle.listener.specs.Listeners.{fresh_listener}
use Rattle.lister.specs.Hearings.{telegram_length, telegrams_in, tail_of, listener_through, lines_for, tables_taken}
use Rattle.lister.specs.declared.Lister.{Lister}

-- Q-104: the greatest number of tables that is counted; the count stays there
abbrev pub most_tables : ℕ
most_tables = 0xFFFFFFFFFFFFFFFF

-- A-40: bytes of a telegram that is not yet whole, as they are kept: zeros follow them
abbrev pub padded : List ℕ → List ℕ
padded bytes = bytes ++ replicate (telegram_length - length bytes) 0

-- A-20: before any piece: a fresh listener, no table, nothing kept
unfoldable pub begun_lister : Lister
begun_lister = record { listener = fresh_listener; tables = 0; tail = padded []; kept = 0 }

-- G-01: the bytes that were kept, and the piece after them
abbrev pub after_kept : Lister → List ℕ → List ℕ
after_kept lister piece = take lister.kept lister.tail ++ piece

-- G-09: the state after these telegrams, with these bytes left
unfoldable pub keeping : Lister → List (List ℕ) → List ℕ → Lister
keeping lister heard left =
    record {
      listener = listener_through lister.listener heard;
      tables = min (lister.tables + tables_taken lister.listener heard) most_tables;
      tail = padded left;
      kept = length left;
    }

-- G-01: the state after a piece: the telegrams that are whole now are heard, and what is left is kept
unfoldable pub take_of : Lister → List ℕ → Lister
take_of lister piece = keeping lister (telegrams_in (after_kept lister piece)) (tail_of (after_kept lister piece))

-- G-03, G-07: what a piece prints
unfoldable pub piece_lines : Lister → List ℕ → List ℕ
piece_lines lister piece = lines_for lister.listener (telegrams_in (after_kept lister piece))

-- R-26: a state that came from `begun` and earlier pieces
pub data MadeByPieces : Lister → Type 0 where
  made_begun : MadeByPieces begun_lister
  taken_piece : {lister : Lister} → MadeByPieces lister → (piece : List ℕ) → MadeByPieces (take_of lister piece)
