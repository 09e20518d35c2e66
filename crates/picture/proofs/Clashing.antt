-- When no number stands in a table twice.
use Prim.Native.Nat.{ℕ, ◌<◌}
use mathlib.Core.Path.{◌≡◌, refl}
use mathlib.Core.Bool.{true, false, ◌&&◌}
use mathlib.Core.List.{List}
use lib.Dec.{eqb}
use native.Mathlib.Omega.{arith}
use borrow.Author.Tests.{eqb-true}
use Rattle.kit.proofs.Cases.{on, given, and_both}
use Rattle.kit.proofs.Loops.{scan-none}
use Rattle.condition.specs.Slots.{is_occupied, slot_count}
use Rattle.condition.specs.declared.slots.Slot.{Slot}
use Rattle.telegram.specs.Tables.{table_slot}
use Rattle.picture.specs.Pictures.{bears_number, is_twice, clashes}

-- no two occupied slots have the same number
abbrev pub Apart : List Slot → Type 0
Apart table =
    (i j : ℕ) → i < j → is_occupied (table_slot table i) ≡ true → is_occupied (table_slot table j) ≡ true
    → (table_slot table i).number ≡ (table_slot table j).number → ⊥

-- then nothing clashes
pub no_clash : (table : List Slot) → Apart table → clashes table ≡ false
unfolding clashes is_twice bears_number
no_clash table apart =
    scan-none _ _ false 0 slot_count
    (λ i low below.
    on (is_occupied (table_slot table i))
    (λ e.
    rw e
    (scan-none _ _ false 0 i
    (λ j from below-i.
    on (is_occupied (table_slot table j) && eqb (table_slot table j).number (table_slot table i).number)
    (λ t.
    given (and_both _ _ t)
    (λ (occupied, same). absurd (apart j i (omega arith) occupied e (eqb-true (table_slot table j).number (table_slot table i).number same))))
    (λ t. t))))
    (λ e. rw e refl))
