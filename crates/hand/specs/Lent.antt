-- The set in hand in the lent memory of a listener: which set the bytes mean, and which bytes stand there when a set begins or a telegram
-- goes into it. The rules of sets are those of Sets.antt.
use Rattle.std.specs.Prelude.{ℕ, ◌+◌, ◌-◌, List, [], ◌∷◌, ◌++◌, map, get_or, replicate}
use Rattle.std.proofs.lemmas.List.Edits.{sets}
use Rattle.kit.specs.Bytes.{word_of_two, word_bytes}
use Rattle.kit.specs.Loops.{fold}
use Rattle.telegram.specs.Tables.{packets, first_packet, first_slot}
use Rattle.telegram.specs.Telegrams.{packet_in}
use Rattle.telegram_reader.specs.Places.{place_slot}
use Rattle.memory.specs.Memory.{step_from, held_from, flag_byte, flags_at, set_in, table_bytes, with_slot}
use Rattle.hand.specs.declared.Hand.{Hand}

-- the set that the memory means
unfoldable pub hand_in : List ℕ → Hand
hand_in memory =
    record {
      step = word_of_two (get_or memory step_from 0) (get_or memory (step_from + 1) 0);
      held = flags_at memory held_from packets;
      slots = set_in memory;
    }

-- its bytes
unfoldable pub hand_bytes : Hand → List ℕ
hand_bytes hand = word_bytes hand.step ++ (map flag_byte hand.held ++ table_bytes hand.slots)

-- the memory when a set of this step number begins: no packet held, and no byte left in its slots
unfoldable pub begun_in : List ℕ → ℕ → List ℕ
begun_in memory step = sets memory step_from (word_bytes step ++ replicate 145 0)

-- the memory with the first n slots of a telegram put in from slot i of the set on
unfoldable pub four_in : List ℕ → ℕ → List ℕ → ℕ → List ℕ
four_in telegram i memory n = fold (λ k so_far. with_slot so_far (i + k) (place_slot telegram k)) memory n

-- the memory with a telegram in the set: its packet is held, and its four slots stand in their places
unfoldable pub joined_in : List ℕ → List ℕ → List ℕ
joined_in memory telegram =
    four_in telegram (first_slot (packet_in telegram)) (sets memory (held_from + (packet_in telegram - first_packet)) (1 ∷ [])) 4
