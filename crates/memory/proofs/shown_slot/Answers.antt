-- `shown_slot`: one of the twenty, or past them an empty one.
use mathlib.Core.Path.{sym, ◌∙◌}
use lib.ListN.{get_or-eq_default}
use native.Mathlib.Omega.{arith}
use Rattle.condition.specs.Slots.{empty_slot}
use Rattle.memory.specs.Memory.{table_at}
use Rattle.memory.proofs.Slots.{slot_in_lem, length-table}
use borrow.Author.Rules.{rules}
use Rattle.memory.proofs.shown_slot.Goals as goal

pub returns-then-i-lt-SLOTS : goal.returns-then-i-lt-SLOTS
returns-then-i-lt-SLOTS c = let a = c.args in c.slot_at.ensures ∙ sym (slot_in_lem a.memory.now 0 a.i (search rules))

pub returns-else-i-lt-SLOTS : goal.returns-else-i-lt-SLOTS
returns-else-i-lt-SLOTS c =
    let a = c.args in
    c.empty.ensures ∙ sym (get_or-eq_default (table_at a.memory.now 0) empty_slot {n = a.i} (omega (arith, length-table a.memory.now 0, c.if-i-lt-SLOTS.false)))
