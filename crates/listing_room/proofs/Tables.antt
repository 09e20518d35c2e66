-- How many bytes are printed for one telegram at most: 639, which are 19 for a table and 31 for each of its twenty slots.
use Prim.Native.Nat.{◌<◌, ◌≤◌}
use mathlib.Core.Bool.{Bool}
use mathlib.Core.List.{List}
use lib.ListN.{length, length-append}
use native.Mathlib.Omega.{arith}
use Rattle.kit.proofs.Each.{length-each-within}
use Rattle.condition.specs.Slots.{slot_count, MayHold as HeldSlot}
use Rattle.condition.specs.declared.slots.Slot.{Slot}
use Rattle.telegram.specs.Tables.{table_slot}
use Rattle.listener.specs.Answers.{Outcome, a_refusal, a_repeat, a_part, a_table, Told, Hearing}
use Rattle.listener.specs.Listeners.{mark_at}
use Rattle.listener.proofs.Every.{AllOf}
use Rattle.listing_room.proofs.Sizes.{Small}
use Rattle.listing_lines.specs.Lines.{table_line}
use Rattle.listing_room.proofs.Lines.{table-short, entry-short, refused-short}
use Rattle.listing_tables.specs.Tables.{entry_at, picture_lines, refusal_by, lines_by, heard_lines}

-- a slot that a reader can hold, with a byte for its number
abbrev pub Narrow : Slot → Type 0
Narrow slot = HeldSlot slot × (slot.number < 256)

picture-short : (picture : List Slot) (marks : List Bool) → AllOf Narrow picture → length (picture_lines picture marks) ≤ 620
unfolding picture_lines
picture-short picture marks all =
    length-each-within (entry_at picture marks) 31 0 slot_count
    (λ i below. entry-short i (table_slot picture i) (omega arith) (all i).0 (all i).1 (mark_at marks i))

refusal-short : (outcome : Outcome) (told : Told) → Small told → length (refusal_by outcome told) ≤ 11
refusal-short a_refusal told small = refused-short told.number (omega (arith, small.number))
refusal-short a_repeat told small = omega arith
refusal-short a_part told small = omega arith
refusal-short a_table told small = omega arith

lines-short : (outcome : Outcome) (told : Told) (picture : List Slot) (marks : List Bool) → Small told → AllOf Narrow picture → length (lines_by outcome told picture marks) ≤ 639
lines-short a_refusal told picture marks small all = omega (arith, refusal-short told.outcome told small)
lines-short a_repeat told picture marks small all = omega (arith, refusal-short told.outcome told small)
lines-short a_part told picture marks small all = omega (arith, refusal-short told.outcome told small)
lines-short a_table told picture marks small all =
    omega (
      arith,
      length-append (table_line told.step told.conditions told.gap) (picture_lines picture marks),
      table-short told.step told.conditions told.gap (omega (arith, small.step)) (omega (arith, small.conditions)) (omega (arith, small.gap)),
      picture-short picture marks all,
    )

pub heard-short : (heard : Hearing) → Small heard.told → AllOf Narrow heard.listener.picture → length (heard_lines heard) ≤ 639
unfolding heard_lines
heard-short heard = lines-short heard.told.outcome heard.told heard.listener.picture heard.listener.marks
