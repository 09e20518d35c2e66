-- `put_hand`: what stands before the slots, and then the slots.
use mathlib.Core.Bool.{false}
use mathlib.Core.List.{◌++◌, map}
use mathlib.Core.Path.{◌≡◌, ap, ◌∙◌}
use lib.ListN.{length, length-map}
use lib.Seq.{sets}
use native.Mathlib.Omega.{arith}
use Rattle.kit.specs.Bytes.{word_bytes}
use Rattle.telegram.specs.Tables.{packets}
use Rattle.memory.specs.Memory.{memory_size, step_from, set_from, flag_byte, table_bytes}
use Rattle.kit.proofs.Arrays.{mapped-all}
use Rattle.kit.proofs.Parts.{two_parts}
use Rattle.hand.proofs.Lent.{hand_parts}
use borrow.Author.Rules.{rules}
use Rattle.hand.proofs.put_hand.Goals as goal

pub returns : goal.returns
returns c =
    let a = c.args in
    let long : length a.memory.now ≡ memory_size = search rules in
    let five : length a.hand.held ≡ packets = search rules in
    let word : c.copy_from_slice.new.self ≡ word_bytes a.hand.step = search rules in
    let held : c.copy_from_slice-2.new.self ≡ map flag_byte a.hand.held = c.copy_from_slice-2.ensures.after ∙ mapped-all _ _ flag_byte (λ x y q k. search rules) a.hand.held _ false 0 packets five c.map.ensures.items in
    let front = two_parts a.memory.now step_from c.copy_from_slice.new.self c.copy_from_slice-2.new.self 2 packets (ap length word) (ap length held ∙ (length-map a.hand.held flag_byte ∙ five)) (omega (arith, long)) in
    c.put_set.ensures
    ∙ (ap (λ l. sets l set_from (table_bytes a.hand.slots)) (front ∙ (λ t. sets a.memory.now step_from (word t ++ held t))) ∙ hand_parts a.hand five a.memory.now)
