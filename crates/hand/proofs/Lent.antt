-- Which set the memory means when one begins, when a telegram went into it and when a set was put in by value; and that the first two
-- touch nothing that stands below the set.
use Prim.Native.Nat.{ℕ, zero, suc, ◌+◌, ◌-◌, ◌*◌, ◌/◌, ◌%◌, ◌<◌, ◌≤◌}
use mathlib.Core.Path.{◌≡◌, refl, sym, ap, ◌∙◌}
use mathlib.Core.Logic.{inl, inr}
use mathlib.Core.Bool.{true, false}
use mathlib.Core.List.{List, [], ◌∷◌, ◌++◌, map}
use lib.Dec.{eqb}
use lib.ListN.{length, get_or, set, replicate, length-set, length-replicate, length-map, length-append}
use lib.Seq.{sets, length-sets, ext_get_or, get_or-set_same, get_or-set_other}
use native.Mathlib.Omega.{arith}
use native.Mathlib.Nat.{add-zero}
use borrow.Author.Tests.{eqb-true, eqb-false, eq-eqb, lt-ltb}
use Rattle.kit.specs.Bytes.{word_of_two, word_bytes}
use Rattle.kit.specs.Loops.{fold}
use Rattle.kit.specs.Put.{Put}
use Rattle.kit.proofs.Cases.{on}
use Rattle.kit.proofs.Maps.{replicate-at}
use Rattle.kit.proofs.Put.{put_then}
use Rattle.kit.proofs.Stores.{sets_in, sets-out, stored-sets}
use Rattle.condition.specs.Slots.{empty_slot, slot_count}
use Rattle.telegram.specs.Tables.{packets, first_packet, first_slot}
use Rattle.telegram.specs.Telegrams.{packet_in, slot_at, telegram_of}
use Rattle.telegram_reader.specs.Places.{place_slot}
use Rattle.memory.specs.Memory.{memory_size, slot_room, step_from, held_from, set_from, slot_place, is_set, flag_byte, flags_at, set_in, with_slot, slot_bytes, table_bytes}
use Rattle.memory.proofs.Back.{table-length, table-back, flags_back}
use Rattle.memory.proofs.Slots.{slot_in_lem, length-table, flag_in, length_flags, Same, same_out, table_same, flags_same, slot-zero, word_back, length-with, set-with}
use Rattle.hand.specs.Sets.{begun, joined}
use Rattle.hand.specs.Lent.{hand_in, hand_bytes, begun_in, four_in, joined_in}
use Rattle.hand.specs.declared.Hand.{Hand}

-- all that lies below the set: the picture, its marks and the step last taken
abbrev pub Below : List ℕ → List ℕ → Type 0
Below a b = Same step_from a 0 b 0

-- ---- a set that begins

module _ (memory : List ℕ) (step : ℕ) where
  abbrev run : List ℕ
  run = word_bytes step ++ replicate 145 0

  run_length : length run ≡ 147
  run_length = omega (arith, length-replicate {A = ℕ} 145 0)

  pub begun-length : length (begun_in memory step) ≡ length memory
  unfolding begun_in
  begun-length = length-sets memory step_from run

  pub begun-below : Below (begun_in memory step) memory
  unfolding begun_in
  begun-below = same_out run memory step_from step_from 0 (inl (omega arith))

  module _ (long : length memory ≡ memory_size) where
    zeros : (k : ℕ) → k < 145 → get_or (begun_in memory step) (held_from + k) 0 ≡ 0
    unfolding begun_in
    zeros k p =
        let e : held_from + k ≡ step_from + (2 + k) = omega arith in
        ap (λ (n : ℕ). get_or (sets memory step_from run) n 0) e
        ∙ (sets_in 0 run memory step_from (2 + k) (omega (arith, run_length)) (omega (arith, run_length, long)) ∙ (after_two k ∙ replicate-at 145 k 0))
      where
        after_two : (k : ℕ) → get_or run (2 + k) 0 ≡ get_or (replicate 145 0) k 0
        after_two k = let e : 2 + k ≡ suc (suc k) = omega arith in ap (λ (n : ℕ). get_or run n 0) e

    begun-step : word_of_two (get_or (begun_in memory step) step_from 0) (get_or (begun_in memory step) (step_from + 1) 0) ≡ step
    unfolding begun_in
    begun-step =
        let fits : step_from + length run ≤ length memory = omega (arith, run_length, long) in
        let high : get_or (sets memory step_from run) step_from 0 ≡ step / 256 = sets_in 0 run memory step_from 0 (omega (arith, run_length)) fits in
        let low : get_or (sets memory step_from run) (step_from + 1) 0 ≡ step % 256 = sets_in 0 run memory step_from 1 (omega (arith, run_length)) fits in
        (λ t. word_of_two (high t) (low t)) ∙ word_back step

    none-held : flags_at (begun_in memory step) held_from packets ≡ replicate packets false
    none-held =
        ext_get_or false (flags_at (begun_in memory step) held_from packets) (replicate packets false) (length_flags (begun_in memory step) held_from packets)
        (λ k p.
        let q : k < packets = omega (arith, length_flags (begun_in memory step) held_from packets) in
        flag_in (begun_in memory step) held_from packets k q ∙ (ap is_set (zeros k (omega arith)) ∙ sym (replicate-at packets k false)))

    none_in : set_in (begun_in memory step) ≡ replicate slot_count empty_slot
    none_in =
        ext_get_or empty_slot (set_in (begun_in memory step)) (replicate slot_count empty_slot) (length-table (begun_in memory step) set_from)
        (λ i p.
        let q : i < slot_count = omega (arith, length-table (begun_in memory step) set_from) in
        slot_in_lem (begun_in memory step) set_from i q
        ∙ (slot-zero (begun_in memory step) (slot_place set_from i)
        (λ r s.
        let e : slot_place set_from i + r ≡ held_from + (5 + slot_room * i + r) = omega arith in
        ap (λ (n : ℕ). get_or (begun_in memory step) n 0) e ∙ zeros (5 + slot_room * i + r) (omega arith))
        ∙ sym (replicate-at slot_count i empty_slot)))

    pub begun-hand : hand_in (begun_in memory step) ≡ begun step
    unfolding hand_in begun
    begun-hand = λ t. record { step = begun-step t; held = none-held t; slots = none_in t }

-- ---- a telegram in the set

-- the first n of its slots
module _ (telegram : List ℕ) (i : ℕ) (memory : List ℕ) where
  pub four-length : (n : ℕ) → length (four_in telegram i memory n) ≡ length memory
  unfolding four_in fold
  four-length zero = refl
  four-length (suc n) = length-with (four_in telegram i memory n) (i + n) (place_slot telegram n) ∙ four-length n

  -- what lies before the slots stays
  four-front : (n j : ℕ) → j < set_from → get_or (four_in telegram i memory n) j 0 ≡ get_or memory j 0
  unfolding four_in fold with_slot
  four-front zero j p = refl
  four-front (suc n) j p =
      sets-out 0 (slot_bytes (place_slot telegram n)) (four_in telegram i memory n) (slot_place set_from (i + n)) j (inl (omega arith)) ∙ four-front n j p

  -- the slots after n of them
  module _ (long : length memory ≡ memory_size) (low : i ≤ 16) where
    four-set : (n : ℕ) → n < 4 → set_in (four_in telegram i memory (suc n)) ≡ set (set_in (four_in telegram i memory n)) (i + n) (place_slot telegram n)
    unfolding four_in fold
    four-set n p = set-with (four_in telegram i memory n) (four-length n ∙ long) (i + n) (place_slot telegram n) (omega arith)

    four-all : set_in (four_in telegram i memory 4) ≡ sets (set_in memory) i (place_slot telegram 0 ∷ place_slot telegram 1 ∷ place_slot telegram 2 ∷ place_slot telegram 3 ∷ [])
    unfolding four_in fold
    four-all =
        four-set 3 (omega arith)
        ∙ (ap (λ l. set l (i + 3) (place_slot telegram 3)) (four-set 2 (omega arith))
        ∙ (ap (λ l. set (set l (i + 2) (place_slot telegram 2)) (i + 3) (place_slot telegram 3)) (four-set 1 (omega arith))
        ∙ (ap (λ l. set (set (set l (i + 1) (place_slot telegram 1)) (i + 2) (place_slot telegram 2)) (i + 3) (place_slot telegram 3)) (four-set 0 (omega arith) ∙ ap (λ n. set (set_in memory) n (place_slot telegram 0)) (add-zero i))
        ∙ stored-sets (set_in memory) i (place_slot telegram 0) (place_slot telegram 1 ∷ place_slot telegram 2 ∷ place_slot telegram 3 ∷ []))))

module _ (memory telegram : List ℕ) where
  abbrev place : ℕ
  place = packet_in telegram - first_packet

  abbrev held_now : List ℕ
  held_now = sets memory (held_from + place) (1 ∷ [])

  pub joined_length : length (joined_in memory telegram) ≡ length memory
  unfolding joined_in
  joined_length = four-length telegram (first_slot (packet_in telegram)) held_now 4 ∙ length-sets memory (held_from + place) (1 ∷ [])

  pub joined-below : packet_in telegram ≤ 7 → Below (joined_in memory telegram) memory
  unfolding joined_in
  joined-below p r q =
      four-front telegram (first_slot (packet_in telegram)) held_now 4 (0 + r) (omega arith) ∙ sets-out 0 (1 ∷ []) memory (held_from + place) (0 + r) (inl (omega arith))

  module _ (long : length memory ≡ memory_size) (whole : length telegram ≡ 26) (packet : packet_in telegram ≤ 7) where
    held-long : length held_now ≡ memory_size
    held-long = length-sets memory (held_from + place) (1 ∷ []) ∙ long

    first-low : first_slot (packet_in telegram) ≤ 16
    first-low = omega arith

    -- a place of 26 bytes is the telegram's
    placed : (k : ℕ) → k < 4 → place_slot telegram k ≡ slot_at telegram k
    unfolding place_slot
    placed k p = rw (eq-eqb (length telegram) 26 whole, lt-ltb k 4 p) refl

    front : (j : ℕ) → j < set_from → get_or (joined_in memory telegram) j 0 ≡ get_or held_now j 0
    unfolding joined_in
    front j p = four-front telegram (first_slot (packet_in telegram)) held_now 4 j p

    own_step : (k : ℕ) → k < 2 → get_or (joined_in memory telegram) (step_from + k) 0 ≡ get_or memory (step_from + k) 0
    own_step k p = front (step_from + k) (omega arith) ∙ sets-out 0 (1 ∷ []) memory (held_from + place) (step_from + k) (inl (omega arith))

    own_held : flags_at (joined_in memory telegram) held_from packets ≡ set (flags_at memory held_from packets) place true
    own_held =
        ext_get_or false (flags_at (joined_in memory telegram) held_from packets) (set (flags_at memory held_from packets) place true)
        (length_flags (joined_in memory telegram) held_from packets ∙ sym (length-set (flags_at memory held_from packets) place true ∙ length_flags memory held_from packets))
        (λ k p.
        let q : k < packets = omega (arith, length_flags (joined_in memory telegram) held_from packets) in
        flag_in (joined_in memory telegram) held_from packets k q
        ∙ (ap is_set (front (held_from + k) (omega arith))
        ∙ on (eqb k place)
        (λ e.
        let same : k ≡ place = eqb-true k place e in
        ap (λ (n : ℕ). is_set (get_or held_now (held_from + n) 0)) same
        ∙ (ap is_set (get_or-set_same memory (held_from + place) 1 0 (omega (arith, long)))
        ∙ sym (ap (λ (n : ℕ). get_or (set (flags_at memory held_from packets) place true) n false) same
        ∙ get_or-set_same (flags_at memory held_from packets) place true false (omega (arith, length_flags memory held_from packets)))))
        (λ e.
        let other : (k ≡ place → ⊥) = eqb-false k place e in
        let apart : (held_from + k ≡ held_from + place → ⊥) = λ z. other (omega arith) in
        ap is_set (get_or-set_other memory (held_from + place) (held_from + k) 1 0 apart)
        ∙ (sym (flag_in memory held_from packets k q) ∙ sym (get_or-set_other (flags_at memory held_from packets) place k true false other)))))

    own-slots : set_in (joined_in memory telegram) ≡ sets (set_in memory) (first_slot (packet_in telegram)) (telegram_of telegram).slots
    unfolding joined_in telegram_of
    own-slots =
        four-all telegram (first_slot (packet_in telegram)) held_now held-long first-low
        ∙ ((λ t. sets (same_set t) (first_slot (packet_in telegram)) (placed 0 (omega arith) t ∷ placed 1 (omega arith) t ∷ placed 2 (omega arith) t ∷ placed 3 (omega arith) t ∷ [])))
      where
        same_set : set_in held_now ≡ set_in memory
        same_set = table_same held_now memory set_from set_from (same_out (1 ∷ []) memory (held_from + place) (slot_room * slot_count) set_from (inr (omega arith)))

    pub joined-hand : hand_in (joined_in memory telegram) ≡ joined (hand_in memory) (telegram_of telegram)
    unfolding hand_in joined telegram_of
    joined-hand =
        λ t. record {
          step = word_of_two (own_step 0 (omega arith) t) (own_step 1 (omega arith) t);
          held = own_held t;
          slots = own-slots t;
        }

-- ---- a set put in by value

-- what stands before its slots
abbrev pub front_bytes : Hand → List ℕ
front_bytes hand = word_bytes hand.step ++ map flag_byte hand.held

module _ (hand : Hand) (five : length hand.held ≡ packets) where
  front_length : length (front_bytes hand) ≡ 7
  front_length = omega (arith, length-map hand.held flag_byte, five)

  pub hand-length : length (hand_bytes hand) ≡ 147
  unfolding hand_bytes
  hand-length = omega (arith, length-append (map flag_byte hand.held) (table_bytes hand.slots), length-map hand.held flag_byte, five, table-length hand.slots)

  module _ (memory : List ℕ) where
    abbrev with_front : List ℕ
    with_front = sets memory step_from (front_bytes hand)

    -- first that, and then the slots
    pub hand_parts : sets (sets memory step_from (front_bytes hand)) set_from (table_bytes hand.slots) ≡ sets memory step_from (hand_bytes hand)
    unfolding hand_bytes
    hand_parts =
        let before : Put memory step_from (front_bytes hand) with_front set_from = record { stored = refl; past = omega (arith, front_length) } in
        let after : Put with_front set_from (table_bytes hand.slots) (sets with_front set_from (table_bytes hand.slots)) (set_from + length (table_bytes hand.slots)) =
        record { stored = refl; past = refl } in
        (put_then before after).stored

    module _ (long : length memory ≡ memory_size) where
      abbrev with_hand : List ℕ
      with_hand = sets memory step_from (hand_bytes hand)

      step_back : word_of_two (get_or with_hand step_from 0) (get_or with_hand (step_from + 1) 0) ≡ hand.step
      unfolding hand_bytes
      step_back =
          let fits : step_from + length (hand_bytes hand) ≤ length memory = omega (arith, hand-length, long) in
          let high : get_or with_hand step_from 0 ≡ hand.step / 256 = sets_in 0 (hand_bytes hand) memory step_from 0 (omega (arith, hand-length)) fits in
          let low : get_or with_hand (step_from + 1) 0 ≡ hand.step % 256 = sets_in 0 (hand_bytes hand) memory step_from 1 (omega (arith, hand-length)) fits in
          (λ t. word_of_two (high t) (low t)) ∙ word_back hand.step

      held_back : flags_at with_hand held_from packets ≡ hand.held
      held_back =
          let words = set (set memory step_from (hand.step / 256)) (step_from + 1) (hand.step % 256) in
          let words_long : length words ≡ length memory = length-set (set memory step_from (hand.step / 256)) (step_from + 1) (hand.step % 256) ∙ length-set memory step_from (hand.step / 256) in
          ap (λ l. flags_at l held_from packets) (sym hand_parts)
          ∙ (flags_same (sets with_front set_from (table_bytes hand.slots)) with_front held_from held_from packets (same_out (table_bytes hand.slots) with_front set_from packets held_from (inl (omega arith)))
          ∙ (ap (λ (n : ℕ). flags_at with_front held_from n) (sym five) ∙ flags_back hand.held words held_from (omega (arith, words_long, long, five))))

      pub hand-back : length hand.slots ≡ slot_count → hand_in with_hand ≡ hand
      unfolding hand_in
      hand-back twenty =
          let slots-back : set_in with_hand ≡ hand.slots =
          ap set_in (sym hand_parts) ∙ table-back hand.slots with_front set_from twenty (omega (arith, length-sets memory step_from (front_bytes hand), long)) in
          λ t. record { step = step_back t; held = held_back t; slots = slots-back t }
