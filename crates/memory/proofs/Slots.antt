-- Laws of what the memory means: a slot, a table and flags at an index; what depends on which bytes; and a slot that was put in.
use Prim.Native.Nat.{ℕ, ◌+◌, ◌*◌, ◌/◌, ◌%◌, ◌<◌, ◌≤◌}
use mathlib.Core.Path.{◌≡◌, refl, sym, ap, ◌∙◌}
use mathlib.Core.Logic.{◌⊎◌, inl, inr}
use mathlib.Core.Bool.{false}
use mathlib.Core.List.{List}
use lib.Dec.{eqb, ltb}
use lib.ListN.{length, get_or, set, length-set}
use lib.Seq.{sets, length-sets, ext_get_or, get_or-set_same, get_or-set_other}
use native.Mathlib.Omega.{arith}
use native.Mathlib.Nat.{add-zero}
use borrow.Author.Tests.{eqb-true, eqb-false, ltb-true, ltb-false}
use Rattle.kit.specs.Bytes.{word_of_two}
use Rattle.kit.proofs.Cases.{on}
use Rattle.kit.proofs.Each.{length-one-each, one-each_at}
use Rattle.kit.proofs.Stores.{sets_in, sets-out}
use Rattle.condition.specs.Slots.{empty_slot, slot_count, is_filled, is_occupied, coding, coded_of, kind_of}
use Rattle.condition.specs.declared.slots.Body.{Body}
use Rattle.condition.specs.declared.slots.Body.TheVariants.{Empty, Area, Traction, Current}
use Rattle.condition.specs.declared.slots.Slot.{Slot}
use Rattle.telegram.specs.Tables.{table_slot}
use Rattle.memory.specs.Memory.{memory_size, slot_room, set_from, slot_place, body_from, kind_from, stored_slot, table_at, body_bytes, slot_bytes, with_slot, is_set, flags_at, set_in}

-- ---- at an index

module _ (memory : List ℕ) (from : ℕ) where
  pub slot_in_lem : (i : ℕ) → i < slot_count → table_slot (table_at memory from) i ≡ stored_slot memory (slot_place from i)
  unfolding table_at
  slot_in_lem i p = one-each_at (λ i. stored_slot memory (slot_place from i)) slot_count empty_slot i p

  pub length-table : length (table_at memory from) ≡ slot_count
  unfolding table_at
  length-table = length-one-each (λ i. stored_slot memory (slot_place from i)) slot_count

  pub flag_in : (n k : ℕ) → k < n → get_or (flags_at memory from n) k false ≡ is_set (get_or memory (from + k) 0)
  unfolding flags_at
  flag_in n k p = one-each_at (λ k. is_set (get_or memory (from + k) 0)) n false k p

  pub length_flags : (n : ℕ) → length (flags_at memory from n) ≡ n
  unfolding flags_at
  length_flags n = length-one-each (λ k. is_set (get_or memory (from + k) 0)) n

-- ---- which bytes decide

-- n bytes of one memory are those of another
abbrev pub Same : ℕ → List ℕ → ℕ → List ℕ → ℕ → Type 0
Same n a x b y = (r : ℕ) → r < n → get_or a (x + r) 0 ≡ get_or b (y + r) 0

pub slot_same : (a b : List ℕ) (x y : ℕ) → Same slot_room a x b y → stored_slot a x ≡ stored_slot b y
unfolding stored_slot
slot_same a b x y same =
    let number : get_or a x 0 ≡ get_or b y 0 =
    sym (ap (λ (n : ℕ). get_or a n 0) (add-zero x)) ∙ (same 0 (omega arith) ∙ ap (λ (n : ℕ). get_or b n 0) (add-zero y)) in
    λ t. record {
      number = number t;
      body =
          body_from (same 1 (omega arith) t) (same 2 (omega arith) t)
          (word_of_two (same 3 (omega arith) t) (same 4 (omega arith) t))
          (word_of_two (same 5 (omega arith) t) (same 6 (omega arith) t));
    }

-- zeros are an empty slot
pub slot-zero : (memory : List ℕ) (at : ℕ) → ((r : ℕ) → r < slot_room → get_or memory (at + r) 0 ≡ 0) → stored_slot memory at ≡ empty_slot
unfolding stored_slot body_from
slot-zero memory at zeros =
    let number : get_or memory at 0 ≡ 0 = sym (ap (λ (n : ℕ). get_or memory n 0) (add-zero at)) ∙ zeros 0 (omega arith) in
    λ t. record {
      number = number t;
      body =
          body_from (zeros 1 (omega arith) t) (zeros 2 (omega arith) t)
          (word_of_two (zeros 3 (omega arith) t) (zeros 4 (omega arith) t))
          (word_of_two (zeros 5 (omega arith) t) (zeros 6 (omega arith) t));
    }

pub table_same : (a b : List ℕ) (x y : ℕ) → Same (slot_room * slot_count) a x b y → table_at a x ≡ table_at b y
table_same a b x y same =
    ext_get_or empty_slot (table_at a x) (table_at b y) (length-table a x ∙ sym (length-table b y))
    (λ i p.
    let q : i < slot_count = omega (arith, length-table a x) in
    slot_in_lem a x i q
    ∙ (slot_same a b (slot_place x i) (slot_place y i)
    (λ r s.
    let here : slot_place x i + r ≡ x + (slot_room * i + r) = omega arith in
    let there : slot_place y i + r ≡ y + (slot_room * i + r) = omega arith in
    ap (λ (n : ℕ). get_or a n 0) here ∙ (same (slot_room * i + r) (omega arith) ∙ sym (ap (λ (n : ℕ). get_or b n 0) there)))
    ∙ sym (slot_in_lem b y i q)))

pub flags_same : (a b : List ℕ) (x y n : ℕ) → Same n a x b y → flags_at a x n ≡ flags_at b y n
flags_same a b x y n same =
    ext_get_or false (flags_at a x n) (flags_at b y n) (length_flags a x n ∙ sym (length_flags b y n))
    (λ k p.
    let q : k < n = omega (arith, length_flags a x n) in
    flag_in a x n k q ∙ (ap is_set (same k q) ∙ sym (flag_in b y n k q)))

-- bytes outside a run that was stored are as they were
pub same_out : (stored memory : List ℕ) (at n x : ℕ) → (x + n ≤ at) ⊎ (at + length stored ≤ x) → Same n (sets memory at stored) x memory x
same_out stored memory at n x (inl p) r q = sets-out 0 stored memory at (x + r) (inl (omega arith))
same_out stored memory at n x (inr p) r q = sets-out 0 stored memory at (x + r) (inr (omega arith))

-- those inside it are the stored ones
pub same_in : (stored memory : List ℕ) (at k n : ℕ) → k + n ≤ length stored → at + length stored ≤ length memory → Same n (sets memory at stored) (at + k) stored k
same_in stored memory at k n p fits r q =
    let e : at + k + r ≡ at + (k + r) = omega arith in
    ap (λ (i : ℕ). get_or (sets memory at stored) i 0) e ∙ sets_in 0 stored memory at (k + r) (omega arith) fits

-- ---- a slot and its bytes

-- a word is put together again from its two bytes
pub word_back : (w : ℕ) → word_of_two (w / 256) (w % 256) ≡ w
word_back w = omega arith

body-length : (number : ℕ) (body : Body) → length (body_bytes number body) ≡ slot_room
body-length number Empty = refl
body-length number (Area kind entry exit) = refl
body-length number (Traction change country voltage) = refl
body-length number (Current change limit) = refl

pub slot-length : (slot : Slot) → length (slot_bytes slot) ≡ slot_room
unfolding slot_bytes
slot-length slot = body-length slot.number slot.body

-- any slot is read back from its bytes
body_back : (number : ℕ) (body : Body) → stored_slot (body_bytes number body) 0 ≡ record { number = number; body = body }
unfolding stored_slot body_from
body_back number Empty = refl
body_back number (Area kind entry exit) = λ t. record { number = number; body = Area kind (word_back entry t) (word_back exit t) }
body_back number (Traction change country voltage) = λ t. record { number = number; body = Traction (word_back change t) (word_back country t) voltage }
body_back number (Current change limit) = λ t. record { number = number; body = Current (word_back change t) (word_back limit t) }

pub slot-back : (slot : Slot) → stored_slot (slot_bytes slot) 0 ≡ slot
unfolding slot_bytes
slot-back slot = body_back slot.number slot.body

-- ---- what is judged of a slot

body-filled : (shape own first second : ℕ) → is_filled (body_from shape own first second) ≡ is_set shape
unfolding body_from
body-filled shape own first second =
    on (eqb shape 0)
    (λ e. rw e refl)
    (λ e. on (eqb shape 1) (λ f. rw (e, f) refl) (λ f. on (eqb shape 2) (λ g. rw (e, f, g) refl) (λ g. rw (e, f, g) refl)))

body-kind : (number shape own first second : ℕ) → (coding number (body_from shape own first second)).kind ≡ kind_from shape own
unfolding body_from kind_from
body-kind number shape own first second =
    on (eqb shape 0)
    (λ e. rw e refl)
    (λ e. on (eqb shape 1) (λ f. rw (e, f) refl) (λ f. on (eqb shape 2) (λ g. rw (e, f, g) refl) (λ g. rw (e, f, g) refl)))

module _ (memory : List ℕ) (at : ℕ) where
  pub slot-number : (stored_slot memory at).number ≡ get_or memory at 0
  unfolding stored_slot
  slot-number = refl

  pub slot_occupied : is_occupied (stored_slot memory at) ≡ is_set (get_or memory (at + 1) 0)
  unfolding stored_slot
  slot_occupied = body-filled (get_or memory (at + 1) 0) _ _ _

  pub slot-kind : kind_of (stored_slot memory at) ≡ kind_from (get_or memory (at + 1) 0) (get_or memory (at + 2) 0)
  unfolding stored_slot coded_of
  slot-kind = body-kind (get_or memory at 0) (get_or memory (at + 1) 0) (get_or memory (at + 2) 0) _ _

-- ---- a slot put into the set in hand

pub length-with : (memory : List ℕ) (i : ℕ) (slot : Slot) → length (with_slot memory i slot) ≡ length memory
unfolding with_slot
length-with memory i slot = length-sets memory (slot_place set_from i) (slot_bytes slot)

module _ (memory : List ℕ) (long : length memory ≡ memory_size) (i : ℕ) (slot : Slot) where
  -- the set has it
  pub set-with : i < slot_count → set_in (with_slot memory i slot) ≡ set (set_in memory) i slot
  unfolding with_slot
  set-with p =
      let fits : slot_place set_from i + length (slot_bytes slot) ≤ length memory = omega (arith, slot-length slot, long) in
      ext_get_or empty_slot (set_in (with_slot memory i slot)) (set (set_in memory) i slot)
      (length-table (with_slot memory i slot) set_from ∙ sym (length-set (set_in memory) i slot ∙ length-table memory set_from))
      (λ j q.
      let inside : j < slot_count = omega (arith, length-table (with_slot memory i slot) set_from) in
      slot_in_lem (with_slot memory i slot) set_from j inside
      ∙ on (eqb j i)
      (λ e.
      let same : j ≡ i = eqb-true j i e in
      ap (λ (k : ℕ). stored_slot (with_slot memory i slot) (slot_place set_from k)) same
      ∙ (slot_same (with_slot memory i slot) (slot_bytes slot) (slot_place set_from i) 0
      (λ r s.
      sets_in 0 (slot_bytes slot) memory (slot_place set_from i) r (omega (arith, slot-length slot)) fits ∙ ap (λ (n : ℕ). get_or (slot_bytes slot) n 0) (zero-before r))
      ∙ (slot-back slot
      ∙ sym (ap (λ (k : ℕ). get_or (set (set_in memory) i slot) k empty_slot) same ∙ get_or-set_same (set_in memory) i slot empty_slot (omega (arith, length-table memory set_from))))))
      (λ e.
      let other : (j ≡ i → ⊥) = eqb-false j i e in
      slot_same (with_slot memory i slot) memory (slot_place set_from j) (slot_place set_from j)
      (same_out (slot_bytes slot) memory (slot_place set_from i) slot_room (slot_place set_from j) (apart j other))
      ∙ (sym (slot_in_lem memory set_from j inside) ∙ sym (get_or-set_other (set_in memory) i j slot empty_slot other))))
    where
      zero-before : (r : ℕ) → r ≡ 0 + r
      zero-before r = omega arith

      apart : (j : ℕ) → (j ≡ i → ⊥) → (slot_place set_from j + slot_room ≤ slot_place set_from i) ⊎ (slot_place set_from i + length (slot_bytes slot) ≤ slot_place set_from j)
      apart j other =
          on (ltb j i)
          (λ e. inl (omega (arith, ltb-true j i e)))
          (λ e. inr (omega (arith, slot-length slot, ltb-false j i e, other)))
