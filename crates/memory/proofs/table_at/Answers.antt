-- `table_at`: a call of the closure gives the slot that stands there.
use Prim.Native.Nat.{ℕ}
use Rattle.condition.specs.Slots.{empty_slot, slot_count}
use Rattle.memory.specs.Memory.{slot_place, stored_slot, table_at}
use Rattle.kit.proofs.Arrays.{made_each}
use borrow.Author.Rules.{rules}
use Rattle.memory.proofs.table_at.Goals as goal

pub returns : goal.returns
unfolding table_at
returns c =
    let a = c.args in
    made_each _ _ (λ (i : ℕ). stored_slot a.memory.now (slot_place a.from i)) slot_count (λ i y q p k. search rules) _ empty_slot c.from_fn.ensures.items
