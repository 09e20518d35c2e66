-- What the heads of two slots say of their first three bytes, and what products of flags are.
use Prim.Native.Nat.{ℕ, ◌+◌, ◌*◌, ◌/◌, ◌%◌, ◌≤◌}
use mathlib.Core.Path.{◌≡◌, refl}
use mathlib.Core.Bool.{Bool, true, false, cond, not, ◌&&◌}
use mathlib.Core.List.{List}
use lib.Dec.{eqb}
use lib.ListN.{get_or}
use mir.Val.{bool_byte}
use native.Mathlib.Omega.{arith}
use Rattle.std.proofs.lemmas.Grind.{common_steps}
use Rattle.memory.specs.Memory.{set_from, slot_place}
use Rattle.marks.specs.Lent.{IsHead, is_alike}

abbrev pub HeadAt : List ℕ → ℕ → ℕ → Type 0
HeadAt memory at head = IsHead (get_or memory at 0) (get_or memory (at + 1) 0) (get_or memory (at + 2) 0) head

-- two heads agree in them exactly where the slots do
pub slots_alike : (memory : List ℕ) (i head before : ℕ) → HeadAt memory (slot_place set_from i) head → HeadAt memory (slot_place 0 i) before
    → eqb (head % 0x1000000) (before % 0x1000000) ≡ is_alike memory i
unfolding is_alike
slots_alike memory i head before h b = grind (arith, common_steps)

-- ---- laws that docs/changes/CR-13.md names: the code's loops went, the laws hold as they did

-- the lower three bytes of a number
lower_three : (head : ℕ) → head % 0x1000000 ≡ head % 256 + (head / 256 % 256) * 256 + (head / 0x10000 % 256) * 0x10000
lower_three head = omega arith

head_three : (head number shape own : ℕ) → IsHead number shape own head → head % 0x1000000 ≡ number + shape * 256 + own * 0x10000
head_three head number shape own bytes = omega (arith, lower_three head, bytes.0, bytes.1, bytes.2)

module _ (head number shape own : ℕ) (bytes : IsHead number shape own head) (other number' shape' own' : ℕ) (bytes' : IsHead number' shape' own' other) where
  -- two heads agree in them exactly where the slots do
  pub heads_alike : eqb (head % 0x1000000) (other % 0x1000000) ≡ eqb number number' && (eqb shape shape' && eqb own own')
  heads_alike = grind (arith, common_steps)

-- products of flags
pub flags_fit : (a b : Bool) → bool_byte a * bool_byte b ≤ 1
flags_fit true true = omega arith
flags_fit true false = omega arith
flags_fit false b = omega arith

pub flags_both : (a b : Bool) → not (eqb (bool_byte a * bool_byte b) 0) ≡ a && b
flags_both true true = refl
flags_both true false = refl
flags_both false true = refl
flags_both false false = refl

pub flags_second : (a b : Bool) → bool_byte (not a) * bool_byte b ≡ cond (not a && b) 1 0
flags_second true true = refl
flags_second true false = refl
flags_second false true = refl
flags_second false false = refl
