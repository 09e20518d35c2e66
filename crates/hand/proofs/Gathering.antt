-- The packets of one table, gathered in the set in hand: a set that begins has none of them, one more joins, and when five are held
-- the set is the table.
use Prim.Native.Nat.{ℕ, ◌+◌, ◌-◌, ◌*◌, ◌/◌, ◌%◌, ◌<◌, ◌≤◌}
use mathlib.Core.Path.{◌≡◌, refl, sym, ap, ◌∙◌, subst}
use mathlib.Core.Logic.{inl, inr}
use mathlib.Core.Bool.{Bool, true, false, ◌||◌}
use mathlib.Core.List.{List}
use lib.Dec.{eqb, ltb}
use lib.ListN.{length, get_or, length-set, get_or-replicate}
use lib.Seq.{get_or-set_same, get_or-set_other, ext_get_or, length-sets}
use native.Mathlib.Omega.{arith}
use borrow.Author.Tests.{eqb-true, eqb-false, eq-eqb, ne_eqb, ltb-true, ltb-false}
use Rattle.kit.specs.Loops.{how_many}
use Rattle.kit.proofs.Cases.{on, clash}
use Rattle.kit.proofs.Loops.{count_same, all-counted}
use Rattle.kit.proofs.Stores.{sets_in, sets-out}
use Rattle.condition.specs.Slots.{empty_slot, slot_count}
use Rattle.condition.specs.declared.slots.Slot.{Slot}
use Rattle.telegram.specs.Tables.{table_slot, packets, first_packet, first_slot, four_of}
use Rattle.telegram.proofs.Carried.{four-at, four-long}
use Rattle.hand.specs.Sets.{begun, set_for, is_held, joined, is_whole}
use Rattle.hand.specs.declared.Hand.{Hand}

-- packet k, 0 to 4 for 3 to 7, of the table is in the set exactly when `got k`
pub record Gathered (table : List Slot) (step : ℕ) (got : ℕ → Bool) (hand : Hand) : Type 0 where
  pub own_step : hand.step ≡ step
  pub five : length hand.held ≡ packets
  pub twenty : length hand.slots ≡ slot_count
  pub held : (k : ℕ) → k < packets → get_or hand.held k false ≡ got k
  pub part : (k i : ℕ) → k < packets → i < 4 → got k ≡ true → table_slot hand.slots (4 * k + i) ≡ table_slot table (4 * k + i)

-- a set that begins
pub gathered_none : (table : List Slot) (step : ℕ) (got : ℕ → Bool) → ((k : ℕ) → k < packets → got k ≡ false) → Gathered table step got (begun step)
unfolding begun
gathered_none table step got none =
    record {
      own_step = refl;
      five = refl;
      twenty = refl;
      held = λ k p. get_or-replicate packets k false false p ∙ sym (none k p);
      part = λ k i p q g. absurd (clash g (none k p));
    }

-- the same packets, counted otherwise
pub gathered_as : {table : List Slot} {step : ℕ} {got : ℕ → Bool} {hand : Hand} (got' : ℕ → Bool) → ((k : ℕ) → k < packets → got' k ≡ got k)
    → Gathered table step got hand → Gathered table step got' hand
gathered_as got' same g =
    record {
      own_step = g.own_step;
      five = g.five;
      twenty = g.twenty;
      held = λ k p. g.held k p ∙ sym (same k p);
      part = λ k i p q h. g.part k i p q (sym (same k p) ∙ h);
    }

module _ {table : List Slot} {step : ℕ} {got : ℕ → Bool} {hand : Hand} (g : Gathered table step got hand) where
  -- L-02: whether a packet is held
  pub gathered-held : (packet : ℕ) → 3 ≤ packet → packet ≤ 7 → is_held hand packet ≡ got (packet - first_packet)
  unfolding is_held
  gathered-held packet low high = g.held (packet - first_packet) (omega arith)

  -- L-03: a telegram of the table joins
  pub gathered-more : (packet : ℕ) → 3 ≤ packet → packet ≤ 7
      → Gathered table step (λ k. eqb k (packet - first_packet) || got k) (joined hand (record { packet = packet; step = step; slots = four_of table packet }))
  unfolding joined
  gathered-more packet low high =
      record {
        own_step = g.own_step;
        five = length-set hand.held (packet - first_packet) true ∙ g.five;
        twenty = length-sets hand.slots (first_slot packet) (four_of table packet) ∙ g.twenty;
        held = λ k p.
            on (eqb k (packet - first_packet))
            (λ e. rw (e, eqb-true k (packet - first_packet) e) (get_or-set_same hand.held (packet - first_packet) true false (omega (arith, g.five))))
            (λ e. rw e (get_or-set_other hand.held (packet - first_packet) k true false (eqb-false k (packet - first_packet) e) ∙ g.held k p));
        part = λ k i p q h.
            on (eqb k (packet - first_packet))
            (λ e.
            rw (eqb-true k (packet - first_packet) e)
            (sets_in empty_slot (four_of table packet) hand.slots (first_slot packet) i (omega (arith, four-long table packet)) (omega (arith, four-long table packet, g.twenty))
            ∙ four-at table packet i q))
            (λ e.
            sets-out empty_slot (four_of table packet) hand.slots (first_slot packet) (4 * k + i)
            (on (ltb k (packet - first_packet))
            (λ z. inl (omega (arith, ltb-true k (packet - first_packet) z)))
            (λ z. inr (omega (arith, ltb-false k (packet - first_packet) z, eqb-false k (packet - first_packet) e, four-long table packet))))
            ∙ g.part k i p q (rw e at h));
      }

  -- L-04: five are held exactly when all five are in it
  pub gathered-whole : is_whole hand ≡ eqb (how_many got packets) packets
  unfolding is_whole
  gathered-whole = ap (λ n. eqb n packets) (count_same (λ k. get_or hand.held k false) got packets g.held)

  -- and then it is the table
  pub gathered-table : length table ≡ slot_count → is_whole hand ≡ true → hand.slots ≡ table
  gathered-table twenty whole =
      let all : (k : ℕ) → k < packets → got k ≡ true = all-counted got packets (eqb-true (how_many got packets) packets (sym gathered-whole ∙ whole)) in
      ext_get_or empty_slot hand.slots table (g.twenty ∙ sym twenty)
      (λ i below. subst (λ n. table_slot hand.slots n ≡ table_slot table n) (omega arith)
      (g.part (i / 4) (i % 4) (omega (arith, g.twenty)) (omega arith) (all (i / 4) (omega (arith, g.twenty)))))

-- L-03: the set of its own step is the one in hand, and any other step number begins one
pub set_same : (hand : Hand) (step : ℕ) → hand.step ≡ step → set_for hand step ≡ hand
unfolding set_for
set_same hand step e = rw (eq-eqb hand.step step e) refl

pub set_other : (hand : Hand) (step : ℕ) → (hand.step ≡ step → ⊥) → set_for hand step ≡ begun step
unfolding set_for
set_other hand step n = rw (ne_eqb hand.step step n) refl

-- no set in hand: whatever the step number, one begins
pub set_first : (step : ℕ) → set_for (begun 0) step ≡ begun step
unfolding set_for begun
set_first step = on (eqb 0 step) (λ e. rw e (ap begun (eqb-true 0 step e))) (λ e. rw e refl)
