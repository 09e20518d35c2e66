-- Words with the byte after them, as the code puts them.
use Prim.Native.Nat.{ℕ, ◌-◌}
use mathlib.Core.Path.{◌≡◌, refl, sym, ap}
use mathlib.Core.Bool.{cond}
use mathlib.Core.Logic.{◌⊎◌, inl, inr}
use mathlib.Core.List.{[], ◌∷◌, ◌++◌, append_assoc}
use lib.Dec.{ltb, leb}
use borrow.Author.Tests.{eq-eqb, ne_eqb, le-leb, lt-leb, ltb-true, ltb-false}
use Rattle.kit.proofs.Cases.{on}
use Rattle.wire.specs.Distances.{no_value, distance_of}
use Rattle.condition.specs.Slots.{coded_of}
use Rattle.condition.specs.declared.slots.Slot.{Slot}
use Rattle.condition.specs.declared.slots.Coded.{Coded}
use Rattle.text.specs.Words.{blank}
use Rattle.listing_words.specs.Words.{minus, number_then, distance_text}
use Rattle.listing_seconds.specs.Seconds.{stroke, system_word, limit_word, second_word}
use Rattle.condition.specs.declared.slots.Body.{Body}
use Rattle.condition.specs.declared.slots.Body.TheVariants.{Traction, Current}
use Rattle.listing_entries.specs.Entries.{entry_numbers}

pub distance_none : (word : ℕ) → word ≡ no_value → distance_text word ++ (blank ∷ []) ≡ minus ∷ blank ∷ []
unfolding distance_text distance_of
distance_none word e = rw (eq-eqb word no_value e) refl

pub distance_signed : (word : ℕ) → (word ≡ no_value → ⊥)
    → distance_text word ++ (blank ∷ []) ≡ cond (leb no_value word) (minus ∷ []) [] ++ number_then (cond (ltb word no_value) word (0x10000 - word)) blank
unfolding distance_text distance_of
distance_signed word other =
    on (ltb word no_value)
    (λ e. rw (ne_eqb word no_value other, e, lt-leb no_value word (ltb-true word no_value e)) refl)
    (λ e. rw (ne_eqb word no_value other, e, le-leb no_value word (ltb-false word no_value e)) refl)

-- a body with this change distance
abbrev Changes : Body → ℕ → Type 0
Changes body change = ((country : ℕ) × (voltage : ℕ) × (body ≡ Traction change country voltage)) ⊎ ((limit : ℕ) × (body ≡ Current change limit))

pub second_none : (body : Body) (change : ℕ) → change ≡ no_value → Changes body change → second_word body ++ (blank ∷ []) ≡ minus ∷ blank ∷ []
unfolding system_word limit_word
second_none body change e (inl (country, voltage, is)) = rw (is, eq-eqb change no_value e) refl
second_none body change e (inr (limit, is)) = rw (is, eq-eqb change no_value e) refl

module _ (body : Body) (change : ℕ) (other : change ≡ no_value → ⊥) where
  pub second_system : (own country voltage : ℕ) → Changes body change → body ≡ Traction own country voltage
      → second_word body ++ (blank ∷ []) ≡ number_then voltage stroke ++ number_then country blank
  unfolding system_word
  second_system own country voltage (inl (c, v, is)) e = let same : own ≡ change = cc in rw (e, same, ne_eqb change no_value other) (simp append_assoc)
  second_system own country voltage (inr (l, is)) e = cc

  pub second_limit : (own limit : ℕ) → Changes body change → body ≡ Current own limit → second_word body ++ (blank ∷ []) ≡ number_then limit blank
  unfolding limit_word
  second_limit own limit (inl (c, v, is)) e = cc
  second_limit own limit (inr (l, is)) e = let same : own ≡ change = cc in rw (e, same, ne_eqb change no_value other) refl

pub numbers-then : (place : ℕ) (slot : Slot) (coded : Coded) → coded ≡ coded_of slot
    → entry_numbers place slot ≡ number_then place blank ++ (number_then slot.number blank ++ number_then coded.kind blank)
unfolding entry_numbers
numbers-then place slot coded e = ap (λ (c : Coded). number_then place blank ++ (number_then slot.number blank ++ number_then c.kind blank)) (sym e)

-- ---- laws that docs/changes/CR-13.md names: the code's loops went, the laws hold as they did

pub system_none : (change country voltage : ℕ) → change ≡ no_value → system_word change country voltage ++ (blank ∷ []) ≡ minus ∷ blank ∷ []
unfolding system_word
system_none change country voltage e = rw (eq-eqb change no_value e) refl

pub system_some : (change country voltage : ℕ) → (change ≡ no_value → ⊥) → system_word change country voltage ++ (blank ∷ []) ≡ number_then voltage stroke ++ number_then country blank
unfolding system_word
system_some change country voltage other = rw (ne_eqb change no_value other) (simp append_assoc)

pub limit_none : (change limit : ℕ) → change ≡ no_value → limit_word change limit ++ (blank ∷ []) ≡ minus ∷ blank ∷ []
unfolding limit_word
limit_none change limit e = rw (eq-eqb change no_value e) refl

pub limit_some : (change limit : ℕ) → (change ≡ no_value → ⊥) → limit_word change limit ++ (blank ∷ []) ≡ number_then limit blank
unfolding limit_word
limit_some change limit other = rw (ne_eqb change no_value other) refl
