-- What stands where in the 26 bytes that a telegram is written as.
use Prim.Native.Nat.{ℕ, suc, ◌+◌, ◌*◌, ◌/◌, ◌%◌, ◌<◌, ◌≤◌}
use mathlib.Core.Path.{◌≡◌, refl, ap, ◌∙◌}
use mathlib.Core.List.{List}
use lib.ListN.{length, get_or}
use native.Mathlib.Nat.{zero-add}
use native.Mathlib.Omega.{arith}
use Rattle.kit.specs.Bytes.{word_of_two}
use Rattle.kit.proofs.Bytes.{word_back}
use Rattle.kit.proofs.Each.{length-each, each_at}
use Rattle.condition.specs.Slots.{coded_of, six_of}
use Rattle.wire.specs.Steps.{steps}
use Rattle.condition.specs.declared.slots.Coded.{Coded}
use Rattle.condition.specs.declared.slots.Slot.{Slot}
use Rattle.telegram.specs.Telegrams.{packet_in, step_in, place_start, coded_at, six_at, bytes_of}
use Rattle.telegram.specs.Sendable.{slot_on}
use Rattle.telegram.specs.declared.Telegram.{Telegram}

six_size : (slots : List Slot) (k : ℕ) → length (six_at slots k) ≡ 6
unfolding six_of
six_size slots k = refl

module _ (t : Telegram) where
  pub length-bytes : length (bytes_of t) ≡ 26
  unfolding bytes_of
  length-bytes = omega (arith, length-each (six_at t.slots) 6 (six_size t.slots) 0 4)

  -- byte r of place k stands at 2 + 6 k + r
  pub byte_at : (k r i : ℕ) → k < 4 → r < 6 → i ≡ 2 + (k * 6 + r) → get_or (bytes_of t) i 0 ≡ get_or (six_at t.slots k) r 0
  unfolding bytes_of
  byte_at k r i p q e =
      let f : i ≡ suc (suc (k * 6 + r)) = omega arith in
      ap (λ (x : ℕ). get_or (bytes_of t) x 0) f
      ∙ (each_at (six_at t.slots) 6 (six_size t.slots) 0 0 4 k r p q ∙ ap (λ (x : ℕ). get_or (six_at t.slots x) r 0) (zero-add k))

  pub coded-on : (k : ℕ) → k < 4 → coded_at (bytes_of t) k ≡ coded_of (slot_on t k)
  unfolding six_of coded_at
  coded-on k p =
      let c : Coded = coded_of (slot_on t k) in
      let b0 : get_or (bytes_of t) (place_start k) 0 ≡ c.number = byte_at k 0 (place_start k) p (omega arith) (omega arith) in
      let b1 : get_or (bytes_of t) (place_start k + 1) 0 ≡ c.kind = byte_at k 1 (place_start k + 1) p (omega arith) (omega arith) in
      let b2 : get_or (bytes_of t) (place_start k + 2) 0 ≡ c.first / 256 = byte_at k 2 (place_start k + 2) p (omega arith) (omega arith) in
      let b3 : get_or (bytes_of t) (place_start k + 3) 0 ≡ c.first % 256 = byte_at k 3 (place_start k + 3) p (omega arith) (omega arith) in
      let b4 : get_or (bytes_of t) (place_start k + 4) 0 ≡ c.second / 256 = byte_at k 4 (place_start k + 4) p (omega arith) (omega arith) in
      let b5 : get_or (bytes_of t) (place_start k + 5) 0 ≡ c.second % 256 = byte_at k 5 (place_start k + 5) p (omega arith) (omega arith) in
      let w : word_of_two (get_or (bytes_of t) (place_start k + 2) 0) (get_or (bytes_of t) (place_start k + 3) 0) ≡ c.first = rw (b2, b3) (word_back c.first) in
      let v : word_of_two (get_or (bytes_of t) (place_start k + 4) 0) (get_or (bytes_of t) (place_start k + 5) 0) ≡ c.second = rw (b4, b5) (word_back c.second) in
      λ i. record { number = b0 i; kind = b1 i; first = w i; second = v i }

  pub packet-on : t.packet ≤ 7 → packet_in (bytes_of t) ≡ t.packet
  unfolding bytes_of
  packet-on p = omega arith

  pub step-on : t.step < steps → step_in (bytes_of t) ≡ t.step
  unfolding bytes_of
  step-on p = omega arith
