-- Counts that go on: with one answer more, with those of a piece, and with those of several pieces. proofs/Whole.antt proves that they come
-- to the counts of Counts.antt, whatever the pieces.
use Rattle.std.specs.Prelude.{ℕ, ◌+◌, Bool, cond, List, [], ◌∷◌, eqb, get_or, set}
use Rattle.listener.specs.Answers.{Told}
use Rattle.lister.specs.Hearings.{telegrams_in}
use Rattle.lister.specs.Pieces.{after_kept, take_of}
use Rattle.lister.specs.declared.Lister.{Lister}
use Rattle.summary.specs.Counts.{told_through, took_table, was_repeat, was_refused, up_to_most, none_refused}
use Rattle.summary.specs.declared.Refusals.{Refusals}
use Rattle.summary.specs.declared.Tally.{Tally}

-- Q-104: one more
abbrev pub one_more : ℕ → ℕ
one_more count = up_to_most (count + 1)

-- the position that is known, or where none is this one
abbrev pub known_or : ℕ → ℕ → ℕ
known_or first place = cond (eqb first 0) place first

-- one refused more, whose place is this one
abbrev pub refused_more : Refusals → ℕ → Refusals
refused_more refused place = record { count = one_more refused.count; first = known_or refused.first place }

-- one more, and a value stored in a row, where this is so; past the end of a row nothing is stored
abbrev pub more_if : Bool → ℕ → ℕ
more_if so count = cond so (one_more count) count

abbrev pub store_if : {A : Type 0} → Bool → List A → ℕ → A → List A
store_if so row at value = cond so (set row at value) row

-- C-12: one telegram more, and one more of what it was: a table, a repeat, or refused under its number, with its place where none is known
unfoldable pub counted : Tally → Told → Tally
counted tally told =
    record {
      telegrams = one_more tally.telegrams;
      tables = more_if (took_table told) tally.tables;
      repeats = more_if (was_repeat told) tally.repeats;
      refused =
          store_if (was_refused told) tally.refused told.number
          (refused_more (get_or tally.refused told.number none_refused) (one_more tally.telegrams));
    }

-- one after another
unfoldable pub counted_all : Tally → List Told → Tally
counted_all tally [] = tally
counted_all tally (told ∷ more) = counted_all (counted tally told) more

-- G-01: with the telegrams that become whole with a piece, where `lister` is the state before it
unfoldable pub counted_piece : Tally → Lister → List ℕ → Tally
counted_piece tally lister piece = counted_all tally (told_through lister.listener (telegrams_in (after_kept lister piece)))

-- W-06: with pieces, one after another
unfoldable pub counted_pieces : Tally → Lister → List (List ℕ) → Tally
counted_pieces tally lister [] = tally
counted_pieces tally lister (piece ∷ more) = counted_pieces (counted_piece tally lister piece) (take_of lister piece) more
