-- The line of a condition in a listing: document 01, "Listing program", the third sentence. Words have single blanks between them, and a
-- line ends with a line feed (A-35).
use Rattle.std.specs.Prelude.{ℕ, Bool, cond, List, [], ◌∷◌, ◌++◌}
use Rattle.condition.specs.Slots.{is_occupied, kind_of, coded_of}
use Rattle.condition.specs.declared.slots.Slot.{Slot}
use Rattle.text.specs.Words.{blank}
use Rattle.listing_words.specs.Words.{line_feed, number_then, distance_text, mark_word}
use Rattle.listing_seconds.specs.Seconds.{second_word}

-- G-04: slot, number, type
unfoldable pub entry_numbers : ℕ → Slot → List ℕ
entry_numbers place slot = number_then place blank ++ (number_then slot.number blank ++ number_then (kind_of slot) blank)

-- G-04 to G-06: first and second
unfoldable pub entry_words : Slot → List ℕ
entry_words slot = distance_text (coded_of slot).first ++ ((blank ∷ []) ++ (second_word slot.body ++ (blank ∷ [])))

-- G-04: a line for an occupied slot: slot, number, type, first, second, `new` or `carried`; an empty one has none
unfoldable pub entry_line : ℕ → Slot → Bool → List ℕ
entry_line place slot carried =
    cond (is_occupied slot) (entry_numbers place slot ++ (entry_words slot ++ (mark_word carried ++ (line_feed ∷ [])))) []
