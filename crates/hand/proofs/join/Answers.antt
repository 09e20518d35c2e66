-- `join`: the packet is held, and then its four slots are put.
use Prim.Native.Nat.{ℕ, ◌+◌, ◌-◌}
use mathlib.Core.List.{List}
use mathlib.Core.Path.{◌≡◌, ap, ap₂, ◌∙◌}
use lib.ListN.{set}
use Rattle.telegram.specs.Tables.{first_packet, first_slot}
use Rattle.telegram.specs.Telegrams.{packet_in}
use Rattle.memory.specs.Memory.{held_from}
use Rattle.hand.specs.Lent.{four_in, joined_in}
use Rattle.hand.proofs.join.Goals as goal

-- with the numbers that the code has
joined_by : (memory telegram : List ℕ) (packet place first : ℕ) → packet ≡ packet_in telegram → place ≡ packet - first_packet → first ≡ first_slot packet
    → four_in telegram first (set memory (held_from + place) 1) 4 ≡ joined_in memory telegram
unfolding joined_in
joined_by memory telegram packet place first p k f =
    ap₂ (λ i so_far. four_in telegram i so_far 4) (f ∙ ap first_slot p) (ap (λ n. set memory (held_from + n) 1) (k ∙ ap (λ n. n - first_packet) p))

pub returns : goal.returns
returns c =
    let a = c.args in
    c.put_four.ensures ∙ joined_by a.memory.now a.telegram.now _ _ _ c.packet_in-packet.ensures.0 c.place_of.ensures c.first_slot.ensures
