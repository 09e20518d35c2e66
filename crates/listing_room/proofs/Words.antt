-- How long the words are at most: six bytes for each word of a condition that a reader can hold, seven for its mark.
use Prim.Native.Nat.{ℕ, ◌+◌, ◌-◌, ◌^◌, ◌<◌, ◌≤◌}
use mathlib.Core.Path.{◌≡◌}
use mathlib.Core.Bool.{Bool, true, false}
use mathlib.Core.List.{[], ◌∷◌}
use lib.Dec.{eqb, ltb, leb}
use lib.ListN.{length, length-append}
use native.Mathlib.Omega.{arith}
use borrow.Author.Tests.{eqb-true, ltb-true, ltb-false, leb-true}
use Rattle.kit.proofs.Cases.{on}
use Rattle.text.specs.Decimals.{decimal}
use Rattle.text.proofs.Numerals.{decimal-short}
use Rattle.wire.specs.Distances.{no_value, distance_of}
use Rattle.kinds.specs.Words.{is_current_word}
use Rattle.condition.specs.Slots.{HeldBody}
use Rattle.condition.specs.declared.slots.Body.{Body}
use Rattle.condition.specs.declared.slots.Body.TheVariants.{Empty, Area, Traction, Current}
use Rattle.listing_words.specs.Words.{number_then, distance_text, mark_word}
use Rattle.listing_seconds.specs.Seconds.{stroke, system_word, limit_word, second_word}

-- a number and the byte after it
pub number_short : (k number after : ℕ) → number < 10 ^ k → 1 ≤ k → length (number_then number after) ≤ k + 1
number_short k number after small some = omega (arith, length-append (decimal number) (after ∷ []), decimal-short k number small some)

-- G-05: a sign and five digits
pub distance_short : (word : ℕ) → length (distance_text word) ≤ 6
unfolding distance_text distance_of
distance_short word =
    on (eqb word no_value)
    (λ e. rw e (omega arith))
    (λ e.
    on (ltb word no_value)
    (λ f. rw (e, f) (omega (arith, decimal-short 5 word (omega (arith, ltb-true word no_value f)) (omega arith))))
    (λ f. rw (e, f) (omega (arith, decimal-short 5 (0x10000 - word) (omega (arith, ltb-false word no_value f)) (omega arith)))))

-- G-06: a voltage of one digit, a stroke and a country of four
system_short : (change country voltage : ℕ) → country < 1024 → voltage ≤ 5 → length (system_word change country voltage) ≤ 6
unfolding system_word
system_short change country voltage c v =
    on (eqb change no_value)
    (λ e. rw e (omega arith))
    (λ e. rw e (omega (arith, length-append (number_then voltage stroke) (decimal country), number_short 1 voltage stroke (omega arith) (omega arith), decimal-short 4 country (omega arith) (omega arith))))

-- G-06: a limit of four digits
limit_short : (change limit : ℕ) → limit ≤ 1023 → length (limit_word change limit) ≤ 4
unfolding limit_word
limit_short change limit p = on (eqb change no_value) (λ e. rw e (omega arith)) (λ e. rw e (decimal-short 4 limit (omega arith) (omega arith)))

limit_most : (limit : ℕ) → is_current_word limit ≡ true → limit ≤ 1023
limit_most limit allowed = on (leb limit 1000) (λ low. omega (arith, leb-true limit 1000 low)) (λ high. omega (arith, eqb-true limit 1023 (rw high at allowed)))

pub second_short : (number : ℕ) (body : Body) → HeldBody number body → length (second_word body) ≤ 6
second_short number Empty h = omega arith
second_short number (Area kind entry exit) h = distance_short exit
second_short number (Traction change country voltage) h = system_short change country voltage h.1 (leb-true voltage _ h.2)
second_short number (Current change limit) h = omega (arith, limit_short change limit (limit_most limit h.1))

pub mark_short : (carried : Bool) → length (mark_word carried) ≤ 7
mark_short true = omega arith
mark_short false = omega arith
