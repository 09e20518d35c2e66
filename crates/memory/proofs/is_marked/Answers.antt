use mathlib.Core.Path.{sym, ◌∙◌}
use mathlib.Core.Bool.{false}
use lib.ListN.{get_or-eq_default}
use native.Mathlib.Omega.{arith}
use Rattle.condition.specs.Slots.{slot_count}
use Rattle.memory.specs.Memory.{marks_from, marks_in}
use Rattle.memory.proofs.Slots.{flag_in, length_flags}
use borrow.Author.Tests.{le-ltb}
use borrow.Author.Rules.{rules}
use Rattle.memory.proofs.is_marked.Goals as goal

pub returns-then-i-lt-SLOTS : goal.returns-then-i-lt-SLOTS
returns-then-i-lt-SLOTS c = let a = c.args in sym (flag_in a.memory.now marks_from slot_count a.i (search rules))

pub returns-else-i-lt-SLOTS : goal.returns-else-i-lt-SLOTS
returns-else-i-lt-SLOTS c =
    let a = c.args in
    le-ltb _ _ c.if-i-lt-SLOTS.false
    ∙ sym (get_or-eq_default (marks_in a.memory.now) false {n = a.i} (omega (arith, length_flags a.memory.now marks_from slot_count, c.if-i-lt-SLOTS.false)))
