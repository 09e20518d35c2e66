-- The fixed byte strings of a listing, compared: which of them a text is (F-08, A-37).
use Rattle.std.specs.Prelude.{ℕ, List, [], ◌∷◌}
use Rattle.kit.specs.Ladder.{ladder}
use Rattle.same_text.specs.Same.{is_same_text}
use Rattle.text.specs.Words.{refused_word}
use Rattle.listing_words.specs.Words.{new_word, carried_word}
use Rattle.listing_lines.specs.Lines.{header_line}
use Rattle.listing_reader.specs.declared.Word.{Word}
use Rattle.listing_reader.specs.declared.Word.TheVariants.{Header, New, Carried, Refused, Other}

-- F-08: the header, `new`, `carried`, `refused` with its blank, or none of them
unfoldable pub word_of : List ℕ → Word
word_of text =
    ladder Other
    ((is_same_text text header_line, Header)
    ∷ (is_same_text text new_word, New)
    ∷ (is_same_text text carried_word, Carried)
    ∷ (is_same_text text refused_word, Refused)
    ∷ [])

-- C-12: the number that other languages know a word by
abbrev pub code_of : Word → ℕ
code_of Other = 0
code_of Header = 1
code_of New = 2
code_of Carried = 3
code_of Refused = 4
