-- The rule of carried entries on the bytes of a listener's memory is the rule on its slots.
use Prim.Native.Nat.{ℕ, ◌<◌, ◌≤◌}
use mathlib.Core.Path.{◌≡◌, refl, sym, ap, ap₂, ◌∙◌}
use mathlib.Core.Logic.{◌⊎◌, inl, inr}
use mathlib.Core.Bool.{Bool, true, false, ◌&&◌}
use mathlib.Core.List.{List}
use lib.Dec.{eqb, leb}
use lib.ListN.{length, get_or, replicate, length-map, length-replicate}
use lib.Seq.{ext_get_or}
use native.Mathlib.Omega.{arith}
use borrow.Author.Tests.{eqb-true, eq-eqb, le-leb, lt-leb}
use Rattle.kit.specs.Loops.{any}
use Rattle.kit.proofs.Cases.{on, given, and_both}
use Rattle.kit.proofs.Each.{length-one-each, one-each_at}
use Rattle.kit.proofs.Loops.{any_same, any_when}
use Rattle.kit.proofs.Maps.{replicate-at}
use Rattle.condition.specs.Slots.{is_occupied, slot_count}
use Rattle.condition.specs.declared.slots.Slot.{Slot}
use Rattle.telegram.specs.Tables.{table_slot}
use Rattle.memory.specs.Memory.{set_from, slot_place, stored_slot, kind_from, picture_in, set_in}
use Rattle.memory.proofs.Slots.{slot_in_lem, length-table, slot-number, slot_occupied, slot-kind}
use Rattle.marks.specs.Marks.{is_same, is_known, is_carried, marks_of}
use Rattle.marks.specs.Lent.{kind_at, has_both, is_alike, is_there, all_there, set_holds}
use Rattle.marks.proofs.Carrying.{mark_at_lem, none-carried}

-- the slot whose bytes begin at `at`, occupied or not, is known when a slot of the picture has its number with its type
module _ (memory : List ℕ) (at : ℕ) where
  same_bytes : (j : ℕ) → j < slot_count → is_same (table_slot (picture_in memory) j) (stored_slot memory at) ≡ has_both memory (get_or memory at 0) (kind_at memory at) j
  unfolding is_same
  same_bytes j p =
      ap (λ before. is_same before (stored_slot memory at)) (slot_in_lem memory 0 j p)
      ∙ ap₂ ◌&&◌ (ap₂ eqb (slot-number memory (slot_place 0 j)) (slot-number memory at)) (ap₂ eqb (slot-kind memory (slot_place 0 j)) (slot-kind memory at))

  known_bytes : is_known (picture_in memory) (stored_slot memory at) ≡ any (has_both memory (get_or memory at 0) (kind_at memory at)) 0 slot_count
  unfolding is_known
  known_bytes =
      any_same (λ j. is_same (table_slot (picture_in memory) j) (stored_slot memory at)) (has_both memory (get_or memory at 0) (kind_at memory at)) 0 slot_count
      (λ j low p. same_bytes j (omega arith))

-- slot i of the set is occupied and known
there-slot : (memory : List ℕ) (i : ℕ)
    → is_there memory i ≡ is_occupied (stored_slot memory (slot_place set_from i)) && is_known (picture_in memory) (stored_slot memory (slot_place set_from i))
unfolding is_there
there-slot memory i = sym (ap₂ ◌&&◌ (slot_occupied memory (slot_place set_from i)) (known_bytes memory (slot_place set_from i)))

-- ---- what decides whether it is there

module _ (memory : List ℕ) (i : ℕ) where
  abbrev number : ℕ
  number = get_or memory (slot_place set_from i) 0

  pub there-empty : set_holds memory i ≡ false → false ≡ is_there memory i
  unfolding is_there
  there-empty e = sym (rw e refl)

  pub there-known : set_holds memory i ≡ true → (kind : ℕ) → kind ≡ kind_at memory (slot_place set_from i)
      → (known : Bool) → known ≡ any (has_both memory number kind) 0 slot_count → known ≡ is_there memory i
  unfolding is_there
  there-known occupied kind same known e = e ∙ (ap (λ (k : ℕ). any (has_both memory number k) 0 slot_count) same ∙ sym (rw occupied refl))

  -- slots that begin alike have one number and one type
  alike_both : is_alike memory i ≡ true → has_both memory number (kind_at memory (slot_place set_from i)) i ≡ true
  unfolding is_alike
  alike_both h =
      given (and_both _ _ h)
      (λ (first, rest).
      given (and_both _ _ rest)
      (λ (second, third).
      ap₂ ◌&&◌ (eq-eqb (get_or memory (slot_place 0 i) 0) number (sym (eqb-true _ _ first)))
      (eq-eqb (kind_at memory (slot_place 0 i)) (kind_at memory (slot_place set_from i)) (sym (ap₂ kind_from (eqb-true _ _ second) (eqb-true _ _ third))))))

  -- so an occupied slot that begins as the picture's does is there
  pub there-alike : set_holds memory i ≡ true → i < slot_count → is_alike memory i ≡ true → true ≡ is_there memory i
  there-alike occupied p alike =
      there-known occupied (kind_at memory (slot_place set_from i)) refl true
      (sym (any_when (has_both memory number (kind_at memory (slot_place set_from i))) 0 slot_count i (omega arith) (omega arith) (alike_both alike)))

-- ---- marks

module _ (memory : List ℕ) where
  pub length-there : length (all_there memory) ≡ slot_count
  unfolding all_there
  length-there = length-one-each (is_there memory) slot_count

  pub there-at : (i : ℕ) → i < slot_count → get_or (all_there memory) i false ≡ is_there memory i
  unfolding all_there
  there-at i p = one-each_at (is_there memory) slot_count false i p

module _ (reach gap : ℕ) (before : List Slot) (slot : Slot) where
  -- within the reach, what is known is carried; over no gap, and over one past the reach, nothing is
  carried-within : 1 ≤ gap → gap ≤ reach → is_carried reach gap before slot ≡ is_occupied slot && is_known before slot
  unfolding is_carried
  carried-within low high = rw (le-leb 1 gap low, le-leb gap reach high) refl

  carried-beyond : (gap ≡ 0) ⊎ (reach < gap) → is_carried reach gap before slot ≡ false
  unfolding is_carried
  carried-beyond (inl e) = ap (λ (n : ℕ). is_carried reach n before slot) e ∙ none-carried reach before slot
  carried-beyond (inr e) = on (is_occupied slot) (λ o. on (leb 1 gap) (λ l. rw (o, l, lt-leb gap reach e) refl) (λ l. rw (o, l) refl)) (λ o. rw o refl)

module _ (reach gap : ℕ) (memory : List ℕ) where
  abbrev marks : List Bool
  marks = marks_of reach gap (picture_in memory) (set_in memory)

  carried-at : (i : ℕ) → i < slot_count → get_or marks i false ≡ is_carried reach gap (picture_in memory) (stored_slot memory (slot_place set_from i))
  carried-at i p = mark_at_lem reach gap (picture_in memory) (set_in memory) i ∙ ap (is_carried reach gap (picture_in memory)) (slot_in_lem memory set_from i p)

  length-marks : length marks ≡ slot_count
  unfolding marks_of
  length-marks = length-map (set_in memory) (is_carried reach gap (picture_in memory)) ∙ length-table memory set_from

  pub marks-there : 1 ≤ gap → gap ≤ reach → all_there memory ≡ marks
  marks-there low high =
      ext_get_or false (all_there memory) marks (length-there memory ∙ sym length-marks)
      (λ i p.
      let q : i < slot_count = omega (arith, length-there memory) in
      there-at memory i q ∙ (there-slot memory i ∙ sym (carried-at i q ∙ carried-within reach gap (picture_in memory) (stored_slot memory (slot_place set_from i)) low high)))

  pub marks-none : (gap ≡ 0) ⊎ (reach < gap) → replicate slot_count false ≡ marks
  marks-none out =
      ext_get_or false (replicate slot_count false) marks (length-replicate slot_count false ∙ sym length-marks)
      (λ i p.
      let q : i < slot_count = omega (arith, length-replicate slot_count false) in
      replicate-at slot_count i false ∙ sym (carried-at i q ∙ carried-beyond reach gap (picture_in memory) (stored_slot memory (slot_place set_from i)) out))
