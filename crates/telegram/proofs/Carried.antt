-- T-04: the five packets carry a table's twenty slots, each one once; and a packet of a held table can be sent.
use Prim.Native.Nat.{ℕ, ◌+◌, ◌/◌, ◌%◌, ◌<◌, ◌≤◌}
use mathlib.Core.Path.{◌≡◌, refl, sym, ap, ◌∙◌, subst}
use mathlib.Core.List.{List}
use lib.ListN.{length, get_or}
use native.Mathlib.Omega.{arith}
use Rattle.condition.specs.Slots.{empty_slot, MayHold}
use Rattle.wire.specs.Steps.{steps}
use Rattle.condition.specs.declared.slots.Slot.{Slot}
use Rattle.telegram.specs.Sendable.{Sendable}
use Rattle.telegram.specs.Tables.{first_slot, carried_slot, four_of}
use Rattle.telegram.proofs.Four.{four-each}

-- place k of a packet is slot 4(p-3)+k of the table
pub four-at : (table : List Slot) (packet k : ℕ) → k < 4 → get_or (four_of table packet) k empty_slot ≡ carried_slot table packet k
unfolding four_of
four-at table packet k p =
    four-each (λ n x. n < 4 → x ≡ carried_slot table packet n) (carried_slot table packet) (λ n below q. refl) (λ n past q. absurd (omega arith)) k p

pub four-long : (table : List Slot) (packet : ℕ) → length (four_of table packet) ≡ 4
unfolding four_of
four-long table packet = refl

-- slot i is place i % 4 of packet 3 + i / 4, which is one of 3 to 7
pub slot-carried : (table : List Slot) (i : ℕ) → i < 20 → (3 + i / 4 ≤ 7) × (get_or (four_of table (3 + i / 4)) (i % 4) empty_slot ≡ get_or table i empty_slot)
slot-carried table i p =
    let same : first_slot (3 + i / 4) + i % 4 ≡ i = omega arith in
    (omega arith, four-at table (3 + i / 4) (i % 4) (omega arith) ∙ ap (λ n. get_or table n empty_slot) same)

-- and no other place of the packets 3 to 7 carries it
pub carried_once : (packet k i : ℕ) → 3 ≤ packet → k < 4 → first_slot packet + k ≡ i → (packet ≡ 3 + i / 4) × (k ≡ i % 4)
carried_once packet k i low small e = (omega arith, omega arith)

-- a table whose slots are held and whose numbers differ gives packets that can be sent, and so (`read_again`) are read back
module _ (table : List Slot) (held : (i : ℕ) → MayHold (get_or table i empty_slot))
    (distinct : (i j : ℕ) → i < j → 0 < (get_or table i empty_slot).number → (get_or table i empty_slot).number ≡ (get_or table j empty_slot).number → ⊥) where
  pub table_sendable : (packet step : ℕ) → 3 ≤ packet → packet ≤ 7 → step < steps → Sendable (record { packet = packet; step = step; slots = four_of table packet })
  unfolding four_of
  table_sendable packet step low high small =
      record {
        packet_from = low;
        packet_to = high;
        step_below = small;
        four = refl;
        held = four-each (λ n x. MayHold x) (carried_slot table packet) (λ n below. held (first_slot packet + n)) (λ n past. refl);
        distinct = λ i j p q positive same.
            let a = four-at table packet i (omega arith) in
            let b = four-at table packet j q in
            distinct (first_slot packet + i) (first_slot packet + j) (omega arith)
            (subst (λ x. 0 < x.number) a positive) (ap (λ x. x.number) (sym a) ∙ (same ∙ ap (λ x. x.number) b));
      }
