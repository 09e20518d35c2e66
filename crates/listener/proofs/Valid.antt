-- Demand 2 of the listener: whatever bytes it has heard, no slot of its picture has a code that document 01 does not allow.
use Prim.Native.Nat.{ℕ}
use mathlib.Core.Path.{refl}
use mathlib.Core.List.{List}
use Rattle.condition.specs.Slots.{MayHold}
use Rattle.telegram.specs.Tables.{table_slot}
use Rattle.telegram.proofs.Valid.{never_invalid}
use Rattle.listener.specs.Listeners.{heard_all}
use Rattle.listener.proofs.Every.{all_every}

-- M-2e: whatever was heard
pub picture-valid : (reach : ℕ) (telegrams : List (List ℕ)) (i : ℕ) → MayHold (table_slot (heard_all reach telegrams).picture i)
picture-valid reach telegrams = (all_every MayHold refl reach never_invalid telegrams).picture
