-- `put_slot`: one of the twenty; past them lies the end of the memory.
use mathlib.Core.Path.{◌≡◌, sym}
use lib.ListN.{length}
use native.Mathlib.Omega.{arith}
use Rattle.kit.proofs.Stores.{sets-past}
use Rattle.memory.specs.Memory.{memory_size, set_from, slot_place, slot_bytes, with_slot}
use borrow.Author.Rules.{rules}
use Rattle.memory.proofs.put_slot.Goals as goal

pub returns-else-i-lt-SLOTS : goal.returns-else-i-lt-SLOTS
unfolding with_slot
returns-else-i-lt-SLOTS c =
    let a = c.args in
    let long : length a.memory.now ≡ memory_size = search rules in
    sym (sets-past (slot_bytes a.slot) a.memory.now (slot_place set_from a.i) (omega (arith, c.if-i-lt-SLOTS.false, long)))
