-- The lines of a listing: document 01, "Listing program". Words have single blanks between them, and a line ends with a line feed (A-35).
use Rattle.std.specs.Prelude.{ℕ, List, ◌++◌}
use Rattle.kit.specs.Text.{ascii}
use Rattle.text.specs.Words.{blank, refused_word}
use Rattle.listing_words.specs.Words.{line_feed, number_then}

-- G-02: the first line, `conditions 1`
unfoldable pub header_line : List ℕ
header_line = ascii "conditions 1\n"

-- G-03
abbrev pub table_word : List ℕ
table_word = ascii "table "

-- G-03: `table S K G`: step, conditions, gap
unfoldable pub table_line : ℕ → ℕ → ℕ → List ℕ
table_line step count gap = table_word ++ (number_then step blank ++ (number_then count blank ++ number_then gap line_feed))

-- G-07: `refused N`
unfoldable pub refused_line : ℕ → List ℕ
refused_line number = refused_word ++ number_then number line_feed

-- G-09
abbrev pub end_word : List ℕ
end_word = ascii "end "

-- G-09: the last line, `end T`: T tables taken
unfoldable pub end_line : ℕ → List ℕ
end_line tables = end_word ++ number_then tables line_feed
