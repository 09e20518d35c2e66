-- The whole listing of a whole recording: document 01, "Listing program".
use Rattle.std.specs.Prelude.{ℕ, cond, List, [], ◌∷◌, ◌++◌, eqb, length}
use Rattle.listener.specs.Listeners.{fresh_listener}
use Rattle.listing_lines.specs.Lines.{header_line, refused_line, end_line}
use Rattle.lister.specs.Hearings.{telegrams_in, tail_of, lines_for, tables_taken}
use Rattle.lister.specs.Pieces.{take_of, piece_lines}
use Rattle.lister.specs.declared.Lister.{Lister}

-- G-08: a short tail prints `refused 10`; A-35: no tail prints nothing
unfoldable pub tail_line : ℕ → List ℕ
tail_line kept = cond (eqb kept 0) [] (refused_line 10)

-- G-02 to G-09: the first line, the lines of the telegrams, that of a short tail, the last line
unfoldable pub listing : List ℕ → List ℕ
listing recording =
    header_line
    ++ (lines_for fresh_listener (telegrams_in recording)
    ++ (tail_line (length (tail_of recording)) ++ end_line (tables_taken fresh_listener (telegrams_in recording))))

-- ---- piece by piece

-- G-08, G-09: what is printed at the end
unfoldable pub end_of : Lister → List ℕ
end_of lister = tail_line lister.kept ++ end_line lister.tables

-- W-06: a recording in pieces, put together
unfoldable pub together : List (List ℕ) → List ℕ
together [] = []
together (piece ∷ more) = piece ++ together more

-- G-01 to G-09 without the first line: what is printed for the pieces, one after another, and at the end
unfoldable pub printed : Lister → List (List ℕ) → List ℕ
printed lister [] = end_of lister
printed lister (piece ∷ more) = piece_lines lister piece ++ printed (take_of lister piece) more
