-- An empty slot has no line, an occupied one has its words.
use Prim.Native.Nat.{ℕ}
use mathlib.Core.Path.{◌≡◌, refl}
use mathlib.Core.Bool.{Bool, true, false}
use mathlib.Core.List.{[], ◌∷◌, ◌++◌}
use Rattle.condition.specs.Slots.{is_occupied}
use Rattle.condition.specs.declared.slots.Slot.{Slot}
use Rattle.listing_words.specs.Words.{line_feed, mark_word}
use Rattle.listing_entries.specs.Entries.{entry_numbers, entry_words, entry_line}

pub entry-empty : (place : ℕ) (slot : Slot) (carried : Bool) → is_occupied slot ≡ false → entry_line place slot carried ≡ []
unfolding entry_line
entry-empty place slot carried e = rw e refl

pub entry_occupied : (place : ℕ) (slot : Slot) (carried : Bool) → is_occupied slot ≡ true
    → entry_line place slot carried ≡ entry_numbers place slot ++ (entry_words slot ++ (mark_word carried ++ (line_feed ∷ [])))
unfolding entry_line
entry_occupied place slot carried e = rw e refl
