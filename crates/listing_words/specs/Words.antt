-- The words of a listing: document 01, "Listing program", the third and the fourth sentence.
use Rattle.std.specs.Prelude.{ℕ, Bool, cond, List, [], ◌∷◌, ◌++◌}
use Prim.Native.Char.{code}
use Rattle.kit.specs.Text.{ascii}
use Rattle.text.specs.Decimals.{decimal}
use Rattle.wire.specs.Distances.{distance_of}
use Rattle.wire.specs.declared.distances.Distance.{Distance}
use Rattle.wire.specs.declared.distances.Distance.TheVariants.{Missing, Metres, Below}

abbrev pub line_feed : ℕ
line_feed = code "\n"

-- A-35: a number in decimal, and one byte after it: a blank or a line feed
abbrev pub number_then : ℕ → ℕ → List ℕ
number_then number after = decimal number ++ (after ∷ [])

-- the sign of a number below zero, and the word for a missing distance (G-05)
abbrev pub minus : ℕ
minus = code "-"

-- G-05, K-06, K-07: metres in decimal, below zero with a minus sign; a missing distance is `-`
abbrev pub metres_word : Distance → List ℕ
metres_word Missing = minus ∷ []
metres_word (Metres metres) = decimal metres
metres_word (Below metres) = minus ∷ decimal metres

-- the same, of the word that codes the distance
unfoldable pub distance_text : ℕ → List ℕ
distance_text word = metres_word (distance_of word)

-- G-04
abbrev pub new_word : List ℕ
new_word = ascii "new"

abbrev pub carried_word : List ℕ
carried_word = ascii "carried"

-- G-04: `new` or `carried`
abbrev pub mark_word : Bool → List ℕ
mark_word carried = cond carried carried_word new_word
