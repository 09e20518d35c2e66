-- What is judged of the set in a listener's memory, said of its bytes: which slots are counted, and which numbers were seen.
use Prim.Native.Nat.{ℕ, ◌+◌, ◌<◌}
use mathlib.Core.Path.{◌≡◌, refl, sym, ap, ap₂, ◌∙◌}
use mathlib.Core.Bool.{Bool, true, false, cond, ◌&&◌, ◌||◌}
use mathlib.Core.List.{List}
use lib.Dec.{eqb}
use lib.ListN.{length, get_or, set, replicate, length-set, length-replicate}
use lib.Seq.{get_or-set_same, get_or-set_other}
use native.Mathlib.Omega.{arith}
use borrow.Author.Tests.{eqb-true, eqb-false}
use Rattle.kit.specs.Loops.{scan, any, how_many}
use Rattle.kit.proofs.Cases.{on}
use Rattle.kit.proofs.Loops.{count_same, any_same, any-more}
use Rattle.kit.proofs.Maps.{replicate-at}
use Rattle.condition.specs.Slots.{is_occupied, slot_count}
use Rattle.telegram.specs.Tables.{table_slot}
use Rattle.memory.specs.Memory.{set_from, slot_place, is_set, set_in}
use Rattle.memory.proofs.Slots.{slot_in_lem, slot-number, slot_occupied}
use Rattle.picture.specs.Pictures.{count_of, bears_number, is_twice}

-- the number of slot i of the set, and whether the slot is occupied
abbrev pub number_at : List ℕ → ℕ → ℕ
number_at memory i = get_or memory (slot_place set_from i) 0

abbrev pub holds : List ℕ → ℕ → Bool
holds memory i = is_set (get_or memory (slot_place set_from i + 1) 0)

module _ (memory : List ℕ) (i : ℕ) (p : i < slot_count) where
  number_byte : (table_slot (set_in memory) i).number ≡ number_at memory i
  number_byte = ap (λ slot. slot.number) (slot_in_lem memory set_from i p) ∙ slot-number memory (slot_place set_from i)

  occupied_byte : is_occupied (table_slot (set_in memory) i) ≡ holds memory i
  occupied_byte = ap is_occupied (slot_in_lem memory set_from i p) ∙ slot_occupied memory (slot_place set_from i)

-- ---- how many

pub count-bytes : (memory : List ℕ) → count_of (set_in memory) ≡ how_many (holds memory) slot_count
unfolding count_of
count-bytes memory = count_same (λ i. is_occupied (table_slot (set_in memory) i)) (holds memory) slot_count (occupied_byte memory)

-- ---- numbers twice

-- slot j is occupied and has the number
abbrev pub seen_by : List ℕ → ℕ → ℕ → Bool
seen_by memory number j = holds memory j && eqb (number_at memory j) number

twice-seen : (memory : List ℕ) (i : ℕ) → i < slot_count → is_twice (set_in memory) i ≡ holds memory i && any (seen_by memory (number_at memory i)) 0 i
unfolding is_twice bears_number
twice-seen memory i p =
    ap₂ ◌&&◌ (occupied_byte memory i p)
    (any_same
    (λ j. is_occupied (table_slot (set_in memory) j) && eqb (table_slot (set_in memory) j).number (table_slot (set_in memory) i).number)
    (seen_by memory (number_at memory i)) 0 i
    (λ j low q. ap₂ ◌&&◌ (occupied_byte memory j (omega arith)) (ap₂ eqb (number_byte memory j (omega arith)) (number_byte memory i p))))

-- the flags after i slots: one for each number, set where it was seen
pub record Seen (memory : List ℕ) (i : ℕ) (seen : List Bool) : Type 0 where
  pub long : length seen ≡ 256
  pub flag : (n : ℕ) → n < 256 → get_or seen n false ≡ any (seen_by memory n) 0 i

pub seen_none : (memory : List ℕ) (seen : List Bool) → seen ≡ replicate 256 false → Seen memory 0 seen
unfolding scan
seen_none memory seen e = record { long = ap length e ∙ length-replicate 256 false; flag = λ n p. ap (λ l. get_or l n false) e ∙ replicate-at 256 n false }

or_true : (a : Bool) → a || true ≡ true
or_true true = refl
or_true false = refl

or_false : (a : Bool) → a || false ≡ a
or_false true = refl
or_false false = refl

-- a flag after one slot more, by whether the slot is occupied and by its number
flag-more : (seen : List Bool) (occupied before : Bool) (number n : ℕ) → number < length seen → get_or seen n false ≡ before
    → get_or (cond occupied (set seen number true) seen) n false ≡ before || (occupied && eqb number n)
flag-more seen false before number n small e = e ∙ sym (or_false before)
flag-more seen true before number n small e =
    on (eqb number n)
    (λ same.
    rw same
    (ap (λ k. get_or (set seen number true) k false) (sym (eqb-true number n same)) ∙ (get_or-set_same seen number true false small ∙ sym (or_true before))))
    (λ other. rw other (get_or-set_other seen number n true false (λ z. eqb-false number n other (sym z)) ∙ (e ∙ sym (or_false before))))

length_more : (seen : List Bool) (occupied : Bool) (number : ℕ) → length (cond occupied (set seen number true) seen) ≡ length seen
length_more seen true number = length-set seen number true
length_more seen false number = refl

module _ (memory : List ℕ) (i : ℕ) (seen : List Bool) (small : number_at memory i < 256) (s : Seen memory i seen) where
  pub seen_more : (next : List Bool) → next ≡ cond (holds memory i) (set seen (number_at memory i) true) seen → Seen memory (i + 1) next
  seen_more next e =
      record {
        long = ap length e ∙ (length_more seen (holds memory i) (number_at memory i) ∙ s.long);
        flag = λ n p.
            ap (λ l. get_or l n false) e
            ∙ (flag-more seen (holds memory i) (any (seen_by memory n) 0 i) (number_at memory i) n (omega (arith, s.long)) (s.flag n p)
            ∙ sym (any-more (seen_by memory n) i));
      }

  -- the flag of slot i's number says whether the number stands there for the second time
  pub twice-flag : i < slot_count → is_twice (set_in memory) i ≡ holds memory i && get_or seen (number_at memory i) false
  twice-flag p = twice-seen memory i p ∙ ap (λ b. holds memory i && b) (sym (s.flag (number_at memory i) small))
