-- How long the lines are at most.
use Prim.Native.Nat.{ℕ, ◌^◌, ◌<◌, ◌≤◌}
use mathlib.Core.Path.{◌≡◌, refl, sym, subst}
use mathlib.Core.Bool.{Bool}
use mathlib.Core.List.{[], ◌∷◌, ◌++◌}
use lib.Dec.{leb}
use lib.ListN.{length, length-append}
use native.Mathlib.Omega.{arith}
use borrow.Author.Tests.{leb-true}
use Rattle.kit.proofs.Cases.{on, and_both}
use Rattle.text.specs.Words.{blank, refused_word}
use Rattle.condition.specs.Slots.{is_occupied, coding, kind_of, coded_of, HeldBody, MayHold}
use Rattle.condition.specs.declared.slots.Body.{Body}
use Rattle.condition.specs.declared.slots.Body.TheVariants.{Empty, Area, Traction, Current}
use Rattle.condition.specs.declared.slots.Slot.{Slot}
use Rattle.listing_words.specs.Words.{line_feed, number_then, distance_text, mark_word}
use Rattle.listing_seconds.specs.Seconds.{second_word}
use Rattle.listing_room.proofs.Words.{number_short, distance_short, second_short, mark_short}
use Rattle.listing_lines.specs.Lines.{header_line, table_word, table_line, refused_line, end_word, end_line}
use Rattle.listing_entries.specs.Entries.{entry_numbers, entry_words, entry_line}
use Rattle.listing_entries.proofs.Entries.{entry-empty, entry_occupied}

-- G-02
pub header_long : length header_line ≡ 13
unfolding header_line
header_long = refl

-- G-03: step and gap of four digits, twenty conditions
pub table-short : (step count gap : ℕ) → step < 10000 → count < 100 → gap < 10000 → length (table_line step count gap) ≤ 19
unfolding table_line
table-short step count gap s c g =
    omega (
      arith,
      length-append table_word (number_then step blank ++ (number_then count blank ++ number_then gap line_feed)),
      length-append (number_then step blank) (number_then count blank ++ number_then gap line_feed),
      length-append (number_then count blank) (number_then gap line_feed),
      number_short 4 step blank s (omega arith),
      number_short 2 count blank c (omega arith),
      number_short 4 gap line_feed g (omega arith),
    )

-- K-02: a type has one digit
kind-small : (number : ℕ) (body : Body) → HeldBody number body → (coding number body).kind < 10
kind-small number Empty h = omega arith
kind-small number (Area kind entry exit) h = omega (arith, leb-true kind 9 (and_both (leb 1 kind) (leb kind 9) h.1).1)
kind-small number (Traction change country voltage) h = omega arith
kind-small number (Current change limit) h = omega arith

module _ (place : ℕ) (slot : Slot) (inside : place < 100) (held : MayHold slot) (byte : slot.number < 256) where
  numbers-short : length (entry_numbers place slot) ≤ 9
  unfolding entry_numbers coded_of
  numbers-short =
      omega (
        arith,
        length-append (number_then place blank) (number_then slot.number blank ++ number_then (kind_of slot) blank),
        length-append (number_then slot.number blank) (number_then (kind_of slot) blank),
        number_short 2 place blank inside (omega arith),
        number_short 3 slot.number blank (omega arith) (omega arith),
        number_short 1 (kind_of slot) blank (kind-small slot.number slot.body held) (omega arith),
      )

  words-short : length (entry_words slot) ≤ 14
  unfolding entry_words
  words-short =
      let first = (coded_of slot).first in
      omega (
        arith,
        length-append (distance_text first) ((blank ∷ []) ++ (second_word slot.body ++ (blank ∷ []))),
        length-append (blank ∷ []) (second_word slot.body ++ (blank ∷ [])),
        length-append (second_word slot.body) (blank ∷ []),
        distance_short first,
        second_short slot.number slot.body held,
      )

  -- G-04: the line of a slot that a reader can hold, with a byte for its number
  pub entry-short : (carried : Bool) → length (entry_line place slot carried) ≤ 31
  entry-short carried =
      on (is_occupied slot)
      (λ e.
      subst (λ l. length l ≤ 31) (sym (entry_occupied place slot carried e))
      (omega (
        arith,
        length-append (entry_numbers place slot) (entry_words slot ++ (mark_word carried ++ (line_feed ∷ []))),
        length-append (entry_words slot) (mark_word carried ++ (line_feed ∷ [])),
        length-append (mark_word carried) (line_feed ∷ []),
        numbers-short,
        words-short,
        mark_short carried,
      )))
      (λ e. subst (λ l. length l ≤ 31) (sym (entry-empty place slot carried e)) (omega arith))

-- G-07: a refusal has a number of two digits
pub refused-short : (number : ℕ) → number < 100 → length (refused_line number) ≤ 11
unfolding refused_line
refused-short number p = omega (arith, length-append refused_word (number_then number line_feed), number_short 2 number line_feed p (omega arith))

-- G-09: and the count of tables one of twenty
pub end_short : (tables : ℕ) → tables < 10 ^ 20 → length (end_line tables) ≤ 25
unfolding end_line
end_short tables p = omega (arith, length-append end_word (number_then tables line_feed), number_short 20 tables line_feed p (omega arith))
