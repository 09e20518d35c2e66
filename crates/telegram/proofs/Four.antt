-- Four slots in a row, place by place.
use Prim.Native.Nat.{ℕ, zero, suc, ◌<◌, ◌≤◌}
use mathlib.Core.Path.{◌≡◌, refl}
use mathlib.Core.List.{List, [], ◌∷◌}
use lib.ListN.{length, get_or}
use native.Mathlib.Omega.{arith}
use Rattle.condition.specs.Slots.{empty_slot}
use Rattle.condition.specs.declared.slots.Slot.{Slot}

-- what holds of each of four slots, and of the empty slot past them, holds of every place
pub four-each : (P : ℕ → Slot → Type 0) (slot : ℕ → Slot) → ((n : ℕ) → n < 4 → P n (slot n)) → ((n : ℕ) → 4 ≤ n → P n empty_slot)
    → (k : ℕ) → P k (get_or (slot 0 ∷ slot 1 ∷ slot 2 ∷ slot 3 ∷ []) k empty_slot)
four-each P slot each rest zero = each 0 (omega arith)
four-each P slot each rest (suc zero) = each 1 (omega arith)
four-each P slot each rest (suc (suc zero)) = each 2 (omega arith)
four-each P slot each rest (suc (suc (suc zero))) = each 3 (omega arith)
four-each P slot each rest (suc (suc (suc (suc k)))) = rest (suc (suc (suc (suc k)))) (omega arith)

-- a list of four is its four places
pub four-list : (l : List Slot) → length l ≡ 4 → get_or l 0 empty_slot ∷ get_or l 1 empty_slot ∷ get_or l 2 empty_slot ∷ get_or l 3 empty_slot ∷ [] ≡ l
four-list [] h = absurd (omega arith)
four-list (a ∷ []) h = absurd (omega arith)
four-list (a ∷ b ∷ []) h = absurd (omega arith)
four-list (a ∷ b ∷ c ∷ []) h = absurd (omega arith)
four-list (a ∷ b ∷ c ∷ d ∷ []) h = refl
four-list (a ∷ b ∷ c ∷ d ∷ e ∷ l) h = absurd (omega arith)
