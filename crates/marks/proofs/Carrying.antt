-- When an entry is carried.
use Prim.Native.Nat.{ℕ, ◌<◌, ◌≤◌}
use mathlib.Core.Path.{◌≡◌, refl}
use mathlib.Core.Logic.{◌↔◌}
use mathlib.Core.Bool.{true, false}
use mathlib.Core.List.{List}
use lib.ListN.{get_or, get_or-map}
use native.Mathlib.Omega.{arith}
use borrow.Author.Tests.{eqb-true, eq-eqb, leb-true, le-leb}
use Rattle.kit.proofs.Cases.{on, given, and_both}
use Rattle.kit.proofs.Loops.{any_some, any_when}
use Rattle.condition.specs.Slots.{empty_slot, is_occupied, kind_of, slot_count}
use Rattle.condition.specs.declared.slots.Slot.{Slot}
use Rattle.telegram.specs.Tables.{table_slot}
use Rattle.marks.specs.Marks.{is_same, is_known, is_carried, marks_of}

-- L-06: the picture has the slot's number with its type
abbrev pub InPicture : List Slot → Slot → Type 0
InPicture before slot = (j : ℕ) × (j < slot_count) × ((table_slot before j).number ≡ slot.number) × (kind_of (table_slot before j) ≡ kind_of slot)

module _ (before : List Slot) (slot : Slot) where
  known-there : is_known before slot ≡ true → InPicture before slot
  unfolding is_known is_same
  known-there h =
      given (any_some _ 0 slot_count h)
      (λ (j, from, below, t). given (and_both _ _ t) (λ (number, kind). (j, below, eqb-true _ _ number, eqb-true _ _ kind)))

  there-known : InPicture before slot → is_known before slot ≡ true
  unfolding is_known is_same
  there-known (j, below, number, kind) =
      any_when _ 0 slot_count j (omega arith) (omega arith) (rw (eq-eqb (table_slot before j).number slot.number number, eq-eqb (kind_of (table_slot before j)) (kind_of slot) kind) refl)

  -- L-06, both ways
  pub carried-exactly : (reach gap : ℕ)
      → (is_carried reach gap before slot ≡ true) ↔ ((is_occupied slot ≡ true) × (1 ≤ gap) × (gap ≤ reach) × InPicture before slot)
  unfolding is_carried
  carried-exactly reach gap = (
    λ h.
        given (and_both _ _ h)
        (λ (occupied, h1).
        given (and_both _ _ h1)
        (λ (low, h2). given (and_both _ _ h2) (λ (high, known). (occupied, leb-true 1 gap low, leb-true gap reach high, known-there known)))),
    λ (occupied, low, high, there). rw (occupied, le-leb 1 gap low, le-leb gap reach high, there-known there) refl,
  )

-- the mark of slot i is that of its entry; past the table's end there is none
pub mark_at_lem : (reach gap : ℕ) (before table : List Slot) (i : ℕ) → get_or (marks_of reach gap before table) i false ≡ is_carried reach gap before (table_slot table i)
unfolding marks_of is_carried
mark_at_lem reach gap before table i = get_or-map (is_carried reach gap before) table i empty_slot

-- L-07: over no gap nothing is carried
pub none-carried : (reach : ℕ) (before : List Slot) (slot : Slot) → is_carried reach 0 before slot ≡ false
unfolding is_carried
none-carried reach before slot = on (is_occupied slot) (λ e. rw e refl) (λ e. rw e refl)
