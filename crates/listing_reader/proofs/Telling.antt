-- Each of the fixed byte strings is told from the others.
use Prim.Native.Nat.{ℕ}
use mathlib.Core.Path.{◌≡◌, refl, sym, ap, ◌∙◌}
use mathlib.Core.List.{[], ◌∷◌}
use lib.Dec.{eqb}
use Rattle.kit.specs.Ladder.{ladder}
use Rattle.kit.specs.Loops.{scan}
use Rattle.same_text.specs.Same.{is_same_text}
use Rattle.text.specs.Words.{refused_word}
use Rattle.listing_words.specs.Words.{new_word, carried_word}
use Rattle.listing_lines.specs.Lines.{header_line}
use Rattle.listing_reader.specs.Fixed.{word_of, code_of}
use Rattle.listing_reader.specs.declared.Word.{Word}
use Rattle.listing_reader.specs.declared.Word.TheVariants.{Header, New, Carried, Refused, Other}

-- F-08: what is written is read as itself
pub told : (word_of header_line ≡ Header) × (word_of new_word ≡ New) × (word_of carried_word ≡ Carried) × (word_of refused_word ≡ Refused)
unfolding word_of is_same_text header_line ladder scan
told = (refl, refl, refl, refl)

-- C-12: no two words have the same code
word_by : ℕ → Word
word_by code = ladder Other ((eqb code 1, Header) ∷ (eqb code 2, New) ∷ (eqb code 3, Carried) ∷ (eqb code 4, Refused) ∷ [])

code-back : (word : Word) → word_by (code_of word) ≡ word
unfolding word_by ladder
code-back Other = refl
code-back Header = refl
code-back New = refl
code-back Carried = refl
code-back Refused = refl

pub code_apart : (one other : Word) → code_of one ≡ code_of other → one ≡ other
code_apart one other e = sym (code-back one) ∙ (ap word_by e ∙ code-back other)
