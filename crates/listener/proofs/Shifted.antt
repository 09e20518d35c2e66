-- What lies below the set in the lent memory of a listener, and what the memory means once a set has become the picture.
use Prim.Native.Nat.{ℕ, ◌+◌, ◌*◌, ◌≤◌}
use mathlib.Core.Path.{◌≡◌, sym, ap, ◌∙◌}
use mathlib.Core.Logic.{inl, inr}
use mathlib.Core.Bool.{Bool, cond}
use mathlib.Core.List.{List, ◌∷◌, map}
use lib.Dec.{eqb}
use lib.ListN.{length, get_or, drop, length-map, length-drop}
use lib.Seq.{length-sets, get_or-drop}
use native.Mathlib.Omega.{arith}
use Rattle.kit.specs.Bytes.{word_of_two, word_bytes}
use Rattle.kit.proofs.Stores.{sets_in}
use Rattle.condition.specs.Slots.{slot_count}
use Rattle.memory.specs.Memory.{memory_size, slot_room, marks_from, last_from, step_from, set_from, flag_byte, flags_at, picture_in, marks_in, set_in, with_marks, with_picture}
use Rattle.memory.proofs.Slots.{Same, table_same, flags_same, same_out}
use Rattle.memory.proofs.Back.{flags_back}
use Rattle.hand.specs.Lent.{hand_in, begun_in}
use Rattle.hand.specs.Sets.{begun}
use Rattle.hand.proofs.Lent.{Below, begun-below, begun-hand}
use Rattle.last_step.specs.Lent.{last_in, with_last}
use Rattle.std.specs.Prelude.{None, Some}
use Rattle.last_step.proofs.Lent.{last-back}
use Rattle.listener.specs.Listeners.{holding}
use Rattle.listener.specs.Lent.{listener_in, shifted_in}

-- ---- what lies below the set decides picture, marks and last step

module _ (a b : List ℕ) (below : Below a b) where
  part : (x n : ℕ) → x + n ≤ step_from → Same n a x b x
  part x n fits r p =
      let e : x + r ≡ 0 + (x + r) = omega arith in
      ap (λ (i : ℕ). get_or a i 0) e ∙ (below (x + r) (omega arith) ∙ sym (ap (λ (i : ℕ). get_or b i 0) e))

  pub picture-below : picture_in a ≡ picture_in b
  picture-below = table_same a b 0 0 (part 0 (slot_room * slot_count) (omega arith))

  pub marks-below : marks_in a ≡ marks_in b
  marks-below = flags_same a b marks_from marks_from slot_count (part marks_from slot_count (omega arith))

  pub last-below : last_in a ≡ last_in b
  unfolding last_in
  last-below =
      λ t. cond (eqb (below last_from (omega arith) t) 0) None (Some (word_of_two (below (last_from + 1) (omega arith) t) (below (last_from + 2) (omega arith) t)))

  -- so only the set is another one
  pub keeps : listener_in a ≡ holding (listener_in b) (hand_in a)
  unfolding listener_in
  keeps = λ t. record { picture = picture-below t; marks = marks-below t; last = last-below t; hand = hand_in a }

pub both_below : (a b c : List ℕ) → Below a b → Below b c → Below a c
both_below a b c p q r s = p r s ∙ q r s

-- ---- a set that has become the picture

module _ (memory : List ℕ) (long : length memory ≡ memory_size) where
  module _ (marks : List Bool) (all : length marks ≡ slot_count) where
    pub own-marks : marks_in (with_marks memory marks) ≡ marks
    unfolding with_marks
    own-marks = ap (λ (n : ℕ). flags_at (with_marks memory marks) marks_from n) (sym all) ∙ flags_back marks memory marks_from (omega (arith, all, long))

    own-set : set_in (with_marks memory marks) ≡ set_in memory
    unfolding with_marks
    own-set =
        table_same (with_marks memory marks) memory set_from set_from
        (same_out (map flag_byte marks) memory marks_from (slot_room * slot_count) set_from (inr (omega (arith, length-map marks flag_byte, all))))

  pub marked-long : (marks : List Bool) → length (with_marks memory marks) ≡ memory_size
  unfolding with_marks
  marked-long marks = length-sets memory marks_from (map flag_byte marks) ∙ long

  own-picture : picture_in (with_picture memory) ≡ set_in memory
  unfolding with_picture
  own-picture =
      let many : length (drop set_from memory) ≡ 140 = omega (arith, length-drop set_from memory, long) in
      table_same (with_picture memory) memory 0 set_from
      (λ r p. sets_in 0 (drop set_from memory) memory 0 r (omega (arith, many)) (omega (arith, many, long)) ∙ get_or-drop set_from memory r 0)

  shown-marks : marks_in (with_picture memory) ≡ marks_in memory
  unfolding with_picture
  shown-marks =
      let many : length (drop set_from memory) ≡ 140 = omega (arith, length-drop set_from memory, long) in
      flags_same (with_picture memory) memory marks_from marks_from slot_count (same_out (drop set_from memory) memory 0 slot_count marks_from (inr (omega (arith, many))))

  shown-long : length (with_picture memory) ≡ memory_size
  unfolding with_picture
  shown-long = length-sets memory 0 (drop set_from memory) ∙ long

  module _ (step : ℕ) where
    abbrev run : List ℕ
    run = 1 ∷ word_bytes step

    last-picture : picture_in (with_last memory step) ≡ picture_in memory
    unfolding with_last
    last-picture = table_same (with_last memory step) memory 0 0 (same_out run memory last_from (slot_room * slot_count) 0 (inl (omega arith)))

    last-marks : marks_in (with_last memory step) ≡ marks_in memory
    unfolding with_last
    last-marks = flags_same (with_last memory step) memory marks_from marks_from slot_count (same_out run memory last_from slot_count marks_from (inl (omega arith)))

    last-long : length (with_last memory step) ≡ memory_size
    unfolding with_last
    last-long = length-sets memory last_from run ∙ long

    own-last : last_in (with_last memory step) ≡ Some step
    unfolding with_last
    own-last = last-back memory long (Some step)

pub shifted_means : (memory : List ℕ) (step : ℕ) (marks : List Bool) → length memory ≡ memory_size → length marks ≡ slot_count
    → listener_in (shifted_in memory step marks) ≡ record { picture = set_in memory; marks = marks; last = Some step; hand = begun 0 }
unfolding listener_in shifted_in
shifted_means memory step marks long all =
    let marked : List ℕ = with_marks memory marks in
    let marked-long' : length marked ≡ memory_size = marked-long memory long marks in
    let shown : List ℕ = with_picture marked in
    let shown-long' : length shown ≡ memory_size = shown-long marked marked-long' in
    let taken : List ℕ = with_last shown step in
    let taken-long : length taken ≡ memory_size = last-long shown shown-long' step in
    let below : Below (begun_in taken 0) taken = begun-below taken 0 in
    let picture : picture_in (begun_in taken 0) ≡ set_in memory =
    picture-below (begun_in taken 0) taken below ∙ (last-picture shown shown-long' step ∙ (own-picture marked marked-long' ∙ own-set memory long marks all)) in
    let own : marks_in (begun_in taken 0) ≡ marks =
    marks-below (begun_in taken 0) taken below ∙ (last-marks shown shown-long' step ∙ (shown-marks marked marked-long' ∙ own-marks memory long marks all)) in
    let last : last_in (begun_in taken 0) ≡ Some step = last-below (begun_in taken 0) taken below ∙ own-last shown shown-long' step in
    λ t. record { picture = picture t; marks = own t; last = last t; hand = begun-hand taken 0 taken-long t }
