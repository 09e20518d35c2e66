-- `is_held`: the byte of the packet, or past the five none.
use Prim.Native.Nat.{ℕ}
use mathlib.Core.Bool.{false}
use mathlib.Core.Path.{sym, ap, ◌∙◌}
use lib.ListN.{get_or, get_or-eq_default}
use native.Mathlib.Omega.{arith}
use Rattle.telegram.specs.Tables.{packets}
use Rattle.memory.specs.Memory.{held_from, flags_at}
use Rattle.memory.proofs.Slots.{flag_in, length_flags}
use Rattle.hand.specs.Sets.{is_held}
use Rattle.hand.specs.Lent.{hand_in}
use borrow.Author.Tests.{le-ltb}
use borrow.Author.Rules.{rules}
use Rattle.hand.proofs.is_held.Goals as goal

pub returns-then-k-lt-PACKETS : goal.returns-then-k-lt-PACKETS
unfolding is_held hand_in
returns-then-k-lt-PACKETS c =
    let memory = c.args.memory.now in
    sym (flag_in memory held_from packets c.place_of-k.result (search rules)) ∙ ap (λ (k : ℕ). get_or (flags_at memory held_from packets) k false) c.place_of-k.ensures

pub returns-else-k-lt-PACKETS : goal.returns-else-k-lt-PACKETS
unfolding is_held hand_in
returns-else-k-lt-PACKETS c =
    let memory = c.args.memory.now in
    le-ltb _ _ c.if-k-lt-PACKETS.false
    ∙ sym
    (ap (λ (k : ℕ). get_or (flags_at memory held_from packets) k false) (sym c.place_of-k.ensures)
    ∙ get_or-eq_default (flags_at memory held_from packets) false {n = c.place_of-k.result} (omega (arith, length_flags memory held_from packets, c.if-k-lt-PACKETS.false)))
