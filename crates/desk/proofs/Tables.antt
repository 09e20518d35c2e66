-- M-2d: what a sound desk writes is read back. Its slots are held and their numbers differ, so each of its five packets can be sent.
use Prim.Native.Nat.{ℕ, ◌+◌, ◌/◌, ◌%◌, ◌<◌, ◌≤◌}
use mathlib.Core.Path.{◌≡◌, refl, sym, ap, ◌∙◌, subst}
use mathlib.Core.List.{List}
use lib.ListN.{length, get_or, length-map, get_or-map}
use native.Mathlib.Omega.{arith}
use Rattle.condition.specs.Slots.{empty_slot, MayHold, slot_count}
use Rattle.condition.specs.declared.slots.Slot.{Slot}
use Rattle.wire.specs.Verdicts.{verdict_accepted}
use Rattle.telegram.specs.Sendable.{Sendable}
use Rattle.telegram.specs.Tables.{four_of}
use Rattle.telegram.specs.Telegrams.{read_of, bytes_of, written}
use Rattle.telegram.proofs.Refusals.{packet_fills}
use Rattle.telegram.proofs.Carried.{table_sendable, slot-carried}
use Rattle.telegram.proofs.ReadAgain.{read_again}
use Rattle.places.specs.Places.{free_place, place_at}
use Rattle.places.specs.declared.Place.{Place}
use Rattle.desk.specs.Desks.{table_of, packet_of}
use Rattle.desk.specs.declared.Desk.{Desk}
use Rattle.desk.proofs.Stepping.{Sound}

-- slot i of the table is that of place i
pub table_at : (desk : Desk) (i : ℕ) → get_or (table_of desk) i empty_slot ≡ (place_at desk.places i).slot
unfolding table_of
table_at desk i = get_or-map (λ (place : Place). place.slot) desk.places i free_place

-- a packet has the desk's step number and four slots of its table
pub telegram-is : (desk : Desk) (packet : ℕ) → packet_of desk packet ≡ record { packet = packet; step = desk.step; slots = four_of (table_of desk) packet }
unfolding packet_of
telegram-is desk packet = refl

module _ {rows : ℕ} {desk : Desk} (sound : Sound rows desk) where
  pub table-long : length (table_of desk) ≡ slot_count
  unfolding table_of
  table-long = length-map desk.places (λ (place : Place). place.slot) ∙ sound.orderly.twenty

  pub table-held : (i : ℕ) → MayHold (get_or (table_of desk) i empty_slot)
  table-held i = subst MayHold (sym (table_at desk i)) (sound.orderly.held i)

  pub table-distinct : (i j : ℕ) → i < j → 0 < (get_or (table_of desk) i empty_slot).number
      → (get_or (table_of desk) i empty_slot).number ≡ (get_or (table_of desk) j empty_slot).number → ⊥
  table-distinct i j p positive same =
      let e : i ≡ j = sound.orderly.apart i j (subst (λ (x : Slot). 0 < x.number) (table_at desk i) positive)
      (ap (λ (x : Slot). x.number) (sym (table_at desk i)) ∙ (same ∙ ap (λ (x : Slot). x.number) (table_at desk j))) in
      omega arith

  pub packet_sendable : (packet : ℕ) → 3 ≤ packet → packet ≤ 7 → Sendable (packet_of desk packet)
  unfolding packet_of
  packet_sendable packet low high = table_sendable (table_of desk) table-held table-distinct packet desk.step low high sound.below

  -- each of the five packets is accepted and read as it was meant
  pub packet-read : (packet : ℕ) → 3 ≤ packet → packet ≤ 7 → read_of (bytes_of (packet_of desk packet)) ≡ record { verdict = verdict_accepted; telegram = packet_of desk packet }
  packet-read packet low high = read_again (packet_of desk packet) (packet_sendable packet low high)

  -- so every slot of the table is read back, at its place of its packet
  pub slot_read : (i : ℕ) → i < 20
      → get_or (read_of (bytes_of (packet_of desk (3 + i / 4)))).telegram.slots (i % 4) empty_slot ≡ (place_at desk.places i).slot
  unfolding packet_of
  slot_read i p =
      ap (λ r. get_or r.telegram.slots (i % 4) empty_slot) (packet-read (3 + i / 4) (omega arith) (slot-carried (table_of desk) i p).0)
      ∙ ((slot-carried (table_of desk) i p).1 ∙ table_at desk i)

-- M-2a: whatever a buffer of 26 bytes held, a packet that is asked for by its number fills it
pub packet-written : (desk : Desk) (packet : ℕ) (buffer : List ℕ) → 3 ≤ packet → packet ≤ 7 → length buffer ≡ 26
    → written (packet_of desk packet) buffer ≡ bytes_of (packet_of desk packet)
unfolding packet_of
packet-written desk packet buffer = packet_fills (packet_of desk packet) buffer
