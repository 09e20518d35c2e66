-- The memory of a listener means that listener.
use Prim.Native.Nat.{ℕ, ◌+◌, ◌*◌}
use mathlib.Core.Path.{◌≡◌, refl, sym, ap, ◌∙◌}
use mathlib.Core.Logic.{inl}
use mathlib.Core.List.{List, ◌++◌, map}
use lib.ListN.{length, replicate, length-map, length-append, length-replicate}
use lib.Seq.{sets, length-sets}
use native.Mathlib.Omega.{arith}
use Rattle.kit.specs.Put.{Put}
use Rattle.kit.proofs.Put.{put_then, put_whole}
use Rattle.condition.specs.Slots.{slot_count}
use Rattle.telegram.specs.Tables.{packets}
use Rattle.memory.specs.Memory.{memory_size, slot_room, marks_from, last_from, step_from, flag_byte, table_bytes, picture_in, marks_in, with_marks}
use Rattle.memory.proofs.Slots.{table_same, flags_same, same_out}
use Rattle.memory.proofs.Back.{table-length, table-back}
use Rattle.hand.specs.Lent.{hand_in, hand_bytes}
use Rattle.hand.proofs.Lent.{Below, hand-length, hand-back}
use Rattle.last_step.specs.Lent.{last_in, last_bytes}
use Rattle.last_step.proofs.Lent.{last-length, last-back}
use Rattle.listener.specs.Lent.{listener_in, listener_bytes}
use Rattle.listener.specs.declared.Listener.{Listener}
use Rattle.listener.proofs.Shifted.{picture-below, marks-below, last-below, own-marks, marked-long}

-- ---- the memory of a listener

-- as many slots, marks and packets as there are: of a listener by value its type says so
pub record Sized (listener : Listener) : Type 0 where
  pub picture : length listener.picture ≡ slot_count
  pub marks : length listener.marks ≡ slot_count
  pub held : length listener.hand.held ≡ packets
  pub set : length listener.hand.slots ≡ slot_count

module _ (listener : Listener) (sized : Sized listener) where
  abbrev blank_memory : List ℕ
  blank_memory = replicate memory_size 0

  abbrev picture_put : List ℕ
  picture_put = sets blank_memory 0 (table_bytes listener.picture)

  abbrev marks_put : List ℕ
  marks_put = with_marks picture_put listener.marks

  abbrev last_put : List ℕ
  last_put = sets marks_put last_from (last_bytes listener.last)

  abbrev with_hand : List ℕ
  with_hand = sets last_put step_from (hand_bytes listener.hand)

  picture-size : length (table_bytes listener.picture) ≡ 140
  picture-size = table-length listener.picture

  marks-size : length (map flag_byte listener.marks) ≡ 20
  marks-size = length-map listener.marks flag_byte ∙ sized.marks

  last-size : length (last_bytes listener.last) ≡ 3
  last-size = last-length listener.last

  hand-size : length (hand_bytes listener.hand) ≡ 147
  hand-size = hand-length listener.hand sized.held

  long-blank : length blank_memory ≡ memory_size
  long-blank = length-replicate {A = ℕ} memory_size 0

  long-picture : length picture_put ≡ memory_size
  long-picture = length-sets blank_memory 0 (table_bytes listener.picture) ∙ long-blank

  long-marks : length marks_put ≡ memory_size
  long-marks = marked-long picture_put long-picture listener.marks

  long-last : length last_put ≡ memory_size
  long-last = length-sets marks_put last_from (last_bytes listener.last) ∙ long-marks

  -- its parts one after another are its bytes
  pub built : with_hand ≡ listener_bytes listener
  unfolding with_marks listener_bytes
  built =
      let bytes : length (listener_bytes listener) ≡ memory_size =
      omega (
        arith,
        picture-size,
        marks-size,
        last-size,
        hand-size,
        length-append (table_bytes listener.picture) (map flag_byte listener.marks ++ (last_bytes listener.last ++ hand_bytes listener.hand)),
        length-append (map flag_byte listener.marks) (last_bytes listener.last ++ hand_bytes listener.hand),
        length-append (last_bytes listener.last) (hand_bytes listener.hand),
      ) in
      let one : Put blank_memory 0 (table_bytes listener.picture) picture_put marks_from = record { stored = refl; past = omega (arith, picture-size) } in
      let two : Put picture_put marks_from (map flag_byte listener.marks) marks_put last_from = record { stored = refl; past = omega (arith, marks-size) } in
      let three : Put marks_put last_from (last_bytes listener.last) last_put step_from = record { stored = refl; past = omega (arith, last-size) } in
      let four : Put last_put step_from (hand_bytes listener.hand) with_hand (step_from + length (hand_bytes listener.hand)) = record { stored = refl; past = refl } in
      put_whole (long-blank ∙ sym bytes) (put_then one (put_then two (put_then three four)))

  parts_back : listener_in with_hand ≡ listener
  unfolding listener_in with_marks
  parts_back =
      let below : Below with_hand last_put = same_out (hand_bytes listener.hand) last_put step_from step_from 0 (inl (omega arith)) in
      let picture : picture_in with_hand ≡ listener.picture =
      picture-below with_hand last_put below
      ∙ (table_same last_put marks_put 0 0 (same_out (last_bytes listener.last) marks_put last_from (slot_room * slot_count) 0 (inl (omega arith)))
      ∙ (table_same marks_put picture_put 0 0 (same_out (map flag_byte listener.marks) picture_put marks_from (slot_room * slot_count) 0 (inl (omega arith)))
      ∙ table-back listener.picture blank_memory 0 sized.picture (omega (arith, long-blank)))) in
      let marks : marks_in with_hand ≡ listener.marks =
      marks-below with_hand last_put below
      ∙ (flags_same last_put marks_put marks_from marks_from slot_count (same_out (last_bytes listener.last) marks_put last_from slot_count marks_from (inl (omega arith)))
      ∙ own-marks picture_put long-picture listener.marks sized.marks) in
      let last : last_in with_hand ≡ listener.last = last-below with_hand last_put below ∙ last-back marks_put long-marks listener.last in
      let hand : hand_in with_hand ≡ listener.hand = hand-back listener.hand sized.held last_put long-last sized.set in
      λ t. record { picture = picture t; marks = marks t; last = last t; hand = hand t }

  -- and the memory that has them means the listener
  pub means-back : listener_in (listener_bytes listener) ≡ listener
  means-back = ap listener_in (sym built) ∙ parts_back
