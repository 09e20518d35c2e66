-- The listener follows what is heard: under the premises it shows the tables heard whole, and the set in hand holds the packets heard
-- of the newest step that is not whole. Where the bound of 8,191 steps is used, it is so that two steps are not taken
-- for one (`steps_apart`) and that the gap is the true distance (`gap-true`).
use Prim.Native.Nat.{ℕ, ◌+◌, ◌-◌, ◌%◌, ◌<◌, ◌≤◌}
use mathlib.Core.Path.{◌≡◌, refl, sym, ap, ◌∙◌, subst}
use mathlib.Core.Bool.{Bool, true, false, ◌||◌}
use mathlib.Core.List.{List, [], ◌∷◌}
use lib.Dec.{eqb}
use lib.ListN.{length}
use native.Mathlib.Omega.{arith}
use borrow.Author.Tests.{eqb-true, eqb-false, eq-eqb, ne_eqb}
use Rattle.kit.proofs.Cases.{on, clash, given}
use Rattle.wire.proofs.Answers.{ruling_apart}
use Rattle.wire.specs.Steps.{steps}
use Rattle.wire.specs.Verdicts.{verdict_accepted, verdict_refused, number_of}
use Rattle.condition.specs.declared.slots.Slot.{Slot}
use Rattle.telegram.specs.Tables.{first_packet, four_of}
use Rattle.condition.specs.Slots.{slot_count}
use Rattle.telegram.specs.declared.Telegram.{Telegram}
use Rattle.picture.specs.Pictures.{count_of, clashes}
use Rattle.marks.specs.Marks.{marks_of}
use Rattle.hand.specs.Sets.{begun, set_for, is_held, joined, is_whole as isGathered}
use Rattle.last_step.specs.LastSteps.{is_last, gap_from}
use Rattle.listener.specs.Listeners.{fresh_listener, holding, taken_by, told_of_table, heard_of, hear_of}
use Rattle.listener.specs.Answers.{Hearing, refused_as, taken_as}
use Rattle.std.specs.Prelude.{Some}
use Rattle.last_step.proofs.Taken.{never_last, never_gap, same-last, other_last, step-gap}
use Rattle.listener.specs.declared.Listener.{Listener}
use Rattle.hand.specs.declared.Hand.{Hand}
use Rattle.hand.proofs.Gathering.{Gathered, gathered_none, gathered_as, gathered-held, gathered-more, gathered-whole, gathered-table, set_same, set_other, set_first}
use Rattle.listener.proofs.Hearing.{hear-refused, hear_as, heard-last, heard_copy, heard-part, heard-taken, fresh-picture, fresh-last, fresh-hand, taken-picture, taken-last, taken-marks, taken-hand}
use Rattle.claims.specs.Calls.{steps_made, table_in}
use Rattle.claims.specs.Hearings.{Item, sent, spoilt, was_heard, heard_whole, wholes, first_or, NoneAfter, newest_or, farthest, Near}
use Rattle.claims.specs.Ends.{Binding, message_of, listener_after, OfTheDesk, Premises, nothing, in_turn, late, damaged, picture_of, last_of, true_gap, PutRight, expected, Answered}
use Rattle.claims.proofs.Sequences.{heard-here, heard-other, heard-above, whole_same, part-before, nothing-whole, heard-spoilt, wholes-spoilt, whole-spoilt, whole-old, whole-other, whole_apart, whole_below, packet-heard, wholes-old, wholes-part, wholes-new, newest_whole, first_below}

-- two steps less than 8,192 apart have different step numbers
steps_apart : (m n : ℕ) → m < n → n ≤ m + farthest → m % steps ≡ n % steps → ⊥
steps_apart m n p q e = omega arith

-- packet p is number p - 3 of the five
nth_packet : (k p : ℕ) → 3 ≤ p → eqb (first_packet + k) p ≡ eqb k (p - first_packet)
nth_packet k p low =
    on (eqb k (p - first_packet))
    (λ e. rw e (eq-eqb (first_packet + k) p (omega (arith, eqb-true k (p - first_packet) e))))
    (λ e. rw e (ne_eqb (first_packet + k) p (λ same. eqb-false k (p - first_packet) e (omega arith))))

module _ (rest reach : ℕ) {Message : Type 0} (binding : Binding Message) (calls : List (List ℕ)) where
  abbrev T : ℕ → List Slot
  T n = table_in rest calls n

  abbrev got : List (Item Message) → ℕ → ℕ → Bool
  got r n k = was_heard r n (first_packet + k)

  -- packet p of the table of step n
  abbrev pub telegram_in : ℕ → ℕ → Telegram
  telegram_in n p = record { packet = p; step = n % steps; slots = four_of (T n) p }

  -- the marks of the newest table, by the one before it
  abbrev pub marks_for : List ℕ → List Bool
  marks_for [] = fresh_listener.marks
  marks_for (n ∷ before) = marks_of reach (true_gap rest reach binding calls before n) (picture_of rest reach binding calls before) (T n)

  -- ---- what the listener shows, and what it has in hand

  pub record Shown (whole : List ℕ) (l : Listener) : Type 0 where
    pub picture : l.picture ≡ picture_of rest reach binding calls whole
    pub last : l.last ≡ last_of rest reach binding calls whole
    pub marks : l.marks ≡ marks_for whole

  data InHand (r : List (Item Message)) (hand : Hand) : Type 0 where
    -- nothing: and nothing was heard of a step that may still come
    idle : hand ≡ begun 0 → ((n : ℕ) → NoneAfter n r → heard_whole r n ≡ false → (q : ℕ) → was_heard r n q ≡ false) → InHand r hand
    -- the packets heard of step m, the newest step heard, which is not whole
    busy : (m : ℕ) → heard_whole r m ≡ false → NoneAfter m r → ((n : ℕ) → NoneAfter n r → m ≤ n) → ((n : ℕ) → newest_or (first_or n r) (wholes r) ≤ m)
        → Gathered (T m) (m % steps) (got r m) hand → InHand r hand

  record Rel (r : List (Item Message)) (l : Listener) : Type 0 where
    shown : Shown (wholes r) l
    hand : InHand r l.hand

  -- one telegram more: the listener follows, and the answer is the one expected
  Follows : Item Message → List (Item Message) → Hearing → Type 0
  Follows item r h = Rel (item ∷ r) h.listener × (h.told ≡ expected rest reach binding calls item r)

  -- ---- a repeat of the last whole table

  module _ (n p : ℕ) (r : List (Item Message)) (w : heard_whole r n ≡ true) where
    hand-old : (hand : Hand) → InHand r hand → InHand (sent n p ∷ r) hand
    hand-old hand (idle e none) =
        idle e (λ k after part q.
        heard-other n p r k q (λ same. whole_apart r n k w (part-before (sent n p) r k part) (sym same))
        ∙ none k after.1 (part-before (sent n p) r k part) q)
    hand-old hand (busy m part below there near g) =
        let other : m ≡ n → ⊥ = λ same. whole_apart r n m w part (sym same) in
        busy m
        (whole_same (sent n p ∷ r) r m (λ q. heard-other n p r m q other) ∙ part)
        (whole_below n m r below w, below)
        (λ k after. there k after.1)
        (λ k. rw (wholes-old n p r w) (near n))
        (gathered_as (got (sent n p ∷ r) m) (λ k small. heard-other n p r m (first_packet + k) other) g)

    follow-old : (l : Listener) (before : List ℕ) → wholes r ≡ n ∷ before → 3 ≤ p → p ≤ 7 → Rel r l → Follows (sent n p) r (heard_of reach l (telegram_in n p))
    unfolding Follows
    follow-old l before newest low high v =
        let last : is_last l.last (n % steps) ≡ true = rw (v.shown.last, newest) (same-last (n % steps)) in
        rw (heard-last reach l (telegram_in n p) last, packet-heard r n p w low high) (
          record { shown = subst (λ s. Shown s l) (sym (wholes-old n p r w)) v.shown; hand = hand-old l.hand v.hand },
          refl,
        )

  -- ---- a telegram of a step that is not yet whole

  module _ (n p : ℕ) (r : List (Item Message)) (u : heard_whole r n ≡ false) (after : NoneAfter n r)
      (bound : Near n r) (low : 3 ≤ p) (high : p ≤ 7) where
    -- the newest whole table is an earlier one, within the bound
    newest_near : (m : ℕ) (before : List ℕ) → wholes r ≡ m ∷ before → (m < n) × (n ≤ m + farthest)
    newest_near m before e =
        let w : heard_whole r m ≡ true = newest_whole r m before e in
        (omega (arith, whole_apart r m n w u, whole_below m n r after w), rw e at bound)

    not_last : (l : Listener) → Shown (wholes r) l → is_last l.last (n % steps) ≡ false
    not_last l v = rw v.last (go (wholes r) refl)
      where
        go : (whole : List ℕ) → wholes r ≡ whole → is_last (last_of rest reach binding calls whole) (n % steps) ≡ false
        go [] e = never_last (n % steps)
        go (m ∷ before) e = other_last (m % steps) (n % steps) (steps_apart m n (newest_near m before e).0 (newest_near m before e).1)

    gap_is : (l : Listener) → Shown (wholes r) l → gap_from l.last (n % steps) ≡ true_gap rest reach binding calls (wholes r) n
    gap_is l v = rw v.last (go (wholes r) refl)
      where
        go : (whole : List ℕ) → wholes r ≡ whole → gap_from (last_of rest reach binding calls whole) (n % steps) ≡ true_gap rest reach binding calls whole n
        go [] e = never_gap (n % steps)
        go (m ∷ before) e = step-gap m n (omega (arith, (newest_near m before e).0)) (omega (arith, (newest_near m before e).1))

    -- the set that it goes into holds what was heard of its step
    ready : (hand : Hand) → InHand r hand → Gathered (T n) (n % steps) (got r n) (set_for hand (n % steps))
    ready hand (idle e none) = rw (e, set_first (n % steps)) (gathered_none (T n) (n % steps) (got r n) (λ k small. none n after u (first_packet + k)))
    ready hand (busy m part below there near g) =
        on (eqb m n)
        (λ same.
        let e : m ≡ n = eqb-true m n same in
        rw (set_same hand (n % steps) (g.own_step ∙ ap (λ k. k % steps) e)) (subst (λ k. Gathered (T k) (k % steps) (got r k) hand) e g))
        (λ other.
        let less : m < n = omega (arith, there n after, eqb-false m n other) in
        rw (set_other hand (n % steps) (λ same. steps_apart m n less (omega (arith, near n)) (sym g.own_step ∙ same)))
        (gathered_none (T n) (n % steps) (got r n) (λ k small. heard-above n m r (first_packet + k) below less)))

    -- heard before: it is in the set in hand, and nothing changes
    module _ (heard : was_heard r n p ≡ true) where
      unchanged : (q : ℕ) → was_heard (sent n p ∷ r) n q ≡ was_heard r n q
      unchanged q = heard-here n p r q ∙ on (eqb q p) (λ e. rw (e, eqb-true q p e, heard) refl) (λ e. rw e refl)

      still_part : heard_whole (sent n p ∷ r) n ≡ false
      still_part = whole_same (sent n p ∷ r) r n unchanged ∙ u

      hand_copy : (hand : Hand) → InHand r hand → InHand (sent n p ∷ r) hand
      hand_copy hand (idle e none) = absurd (clash heard (none n after u p))
      hand_copy hand (busy m part below there near g) =
          on (eqb m n)
          (λ same.
          let e : m ≡ n = eqb-true m n same in
          busy n still_part (omega arith, after) (λ k later. later.0)
          (λ k. rw (wholes-part n p r still_part) (subst (λ j. newest_or (first_or n r) (wholes r) ≤ j) e (near n)))
          (gathered_as (got (sent n p ∷ r) n) (λ k small. unchanged (first_packet + k)) (subst (λ k. Gathered (T k) (k % steps) (got r k) hand) e g)))
          (λ other. absurd (clash heard (heard-above n m r p below (omega (arith, there n after, eqb-false m n other)))))

      follow_copy : (l : Listener) → Rel r l → Follows (sent n p) r (heard_of reach l (telegram_in n p))
      unfolding Follows
      follow_copy l v =
          let same : first_packet + (p - first_packet) ≡ p = omega arith in
          let copy : is_held (set_for l.hand (n % steps)) p ≡ true =
          gathered-held (ready l.hand v.hand) p low high ∙ (ap (λ q. was_heard r n q) same ∙ heard) in
          rw (heard_copy reach l (telegram_in n p) (not_last l v.shown) copy, heard) (
            record { shown = subst (λ s. Shown s l) (sym (wholes-part n p r still_part)) v.shown; hand = hand_copy l.hand v.hand },
            refl,
          )

    -- not heard before: it joins the set
    module _ (l : Listener) (v : Rel r l) (unheard : was_heard r n p ≡ false) where
      abbrev set : Hand
      set = set_for l.hand (n % steps)

      abbrev with_it : Hand
      with_it = joined set (telegram_in n p)

      gathered : Gathered (T n) (n % steps) (got (sent n p ∷ r) n) with_it
      gathered =
          gathered_as (got (sent n p ∷ r) n) (λ k small. heard-here n p r (first_packet + k) ∙ ap (λ t. t || got r n k) (nth_packet k p low))
          (gathered-more (ready l.hand v.hand) p low high)

      free : is_held set p ≡ false
      free =
          let same : first_packet + (p - first_packet) ≡ p = omega arith in
          gathered-held (ready l.hand v.hand) p low high ∙ (ap (λ q. was_heard r n q) same ∙ unheard)

      whole_is : isGathered with_it ≡ heard_whole (sent n p ∷ r) n
      unfolding heard_whole
      whole_is = gathered-whole gathered

      -- the table is not yet whole: it is held
      follow-part : heard_whole (sent n p ∷ r) n ≡ false → Follows (sent n p) r (heard_of reach l (telegram_in n p))
      unfolding Follows
      follow-part part =
          rw (heard-part reach l (telegram_in n p) (not_last l v.shown) free (whole_is ∙ part), unheard, part) (
            record {
              shown = subst (λ s. Shown s (holding l with_it)) (sym (wholes-part n p r part)) same;
              hand = busy n part (omega arith, after) (λ k later. later.0) (λ k. rw (wholes-part n p r part) near) gathered;
            },
            refl,
          )
        where
          same : Shown (wholes r) (holding l with_it)
          same = record { picture = v.shown.picture; last = v.shown.last; marks = v.shown.marks }

          near : newest_or (first_or n r) (wholes r) ≤ n
          near = go (wholes r) refl
            where
              go : (whole : List ℕ) → wholes r ≡ whole → newest_or (first_or n r) whole ≤ n
              go [] e = first_below r n n after (omega arith)
              go (m ∷ before) e = whole_below m n r after (newest_whole r m before e)

      -- the table is whole: it is taken
      module _ (whole : heard_whole (sent n p ∷ r) n ≡ true) (twenty : length (T n) ≡ slot_count) (apart : clashes (T n) ≡ false) where
        table_is : with_it.slots ≡ T n
        table_is = gathered-table gathered twenty (whole_is ∙ whole)

        answer-is : told_of_table l with_it ≡ taken_as (n % steps) (count_of (T n)) (true_gap rest reach binding calls (wholes r) n)
        answer-is = rw (gathered.own_step, table_is, gap_is l v.shown) refl

        shown-taken : Shown (n ∷ wholes r) (taken_by reach l with_it)
        shown-taken = record {
          picture = taken-picture reach l with_it ∙ table_is;
          last = taken-last reach l with_it ∙ ap Some gathered.own_step;
          marks = taken-marks reach l with_it ∙ rw (gathered.own_step, table_is, gap_is l v.shown, v.shown.picture) refl;
        }

        hand-taken : InHand (sent n p ∷ r) (taken_by reach l with_it).hand
        hand-taken = idle (taken-hand reach l with_it) (λ k later part q.
            let other : k ≡ n → ⊥ = λ same. whole_apart (sent n p ∷ r) n k whole part (sym same) in
            heard-other n p r k q other ∙ heard-above k n r q after (omega (arith, later.0, other)))

        follow-whole : Follows (sent n p) r (heard_of reach l (telegram_in n p))
        unfolding Follows
        follow-whole =
            rw (heard-taken reach l (telegram_in n p) (not_last l v.shown) free (whole_is ∙ whole) (ap clashes table_is ∙ apart), unheard, whole) (
              record { shown = subst (λ s. Shown s (taken_by reach l with_it)) (sym (wholes-new n p r whole u)) shown-taken; hand = hand-taken },
              answer-is,
            )

  -- ---- any telegram

  -- no table heard whole is later than the newest of them
  newest_is : (r : List (Item Message)) → Premises rest reach binding calls r → (n : ℕ) → heard_whole r n ≡ true → (m : ℕ) × (before : List ℕ) × (wholes r ≡ m ∷ before) × (n ≤ m)
  newest_is r nothing n w = absurd (clash w (nothing-whole Message n))
  newest_is r (in_turn {earlier} k p h s after bound) n w =
      on (heard_whole earlier k)
      (λ old. given (newest_is earlier h n (whole-old k p earlier n old w)) (λ (m, before, is, le). (m, before, wholes-old k p earlier old ∙ is, le)))
      (λ part.
      on (heard_whole (sent k p ∷ earlier) k)
      (λ new. (k, wholes earlier, wholes-new k p earlier new part, whole_below n k (sent k p ∷ earlier) (omega arith, after) w))
      (λ still.
      given (newest_is earlier h n (whole-other k p earlier n (λ same. whole_apart (sent k p ∷ earlier) n k w still same) w))
      (λ (m, before, is, le). (m, before, wholes-part k p earlier still ∙ is, le))))
  newest_is r (late {earlier} k p first h s newest) n w =
      let old : heard_whole earlier k ≡ true = newest_whole earlier k first newest in
      given (newest_is earlier h n (whole-old k p earlier n old w)) (λ (m, before, is, le). (m, before, wholes-old k p earlier old ∙ is, le))
  newest_is r (damaged {earlier} other number h e) n w =
      given (newest_is earlier h n (sym (whole-spoilt other earlier n) ∙ w)) (λ (m, before, is, le). (m, before, wholes-spoilt other earlier ∙ is, le))

  -- the tables heard whole are of steps that the desk has made, each later than the one before it
  abbrev pub Falling : List ℕ → Type 0
  Falling [] = Unit
  Falling (n ∷ []) = n ≤ steps_made rest calls
  Falling (n ∷ m ∷ before) = (m < n) × (n ≤ steps_made rest calls) × Falling (m ∷ before)

  falling-more : (n : ℕ) (whole : List ℕ) → n ≤ steps_made rest calls → ((m : ℕ) (before : List ℕ) → whole ≡ m ∷ before → m < n) → Falling whole → Falling (n ∷ whole)
  falling-more n [] made later f = made
  falling-more n (m ∷ before) made later f = (later m before refl, made, f)

  pub falling : (r : List (Item Message)) → Premises rest reach binding calls r → Falling (wholes r)
  unfolding wholes
  falling r nothing = tt
  falling r (in_turn {earlier} n p h s after bound) =
      on (heard_whole earlier n)
      (λ old. subst Falling (sym (wholes-old n p earlier old)) (falling earlier h))
      (λ part.
      on (heard_whole (sent n p ∷ earlier) n)
      (λ new.
      subst Falling (sym (wholes-new n p earlier new part))
      (falling-more n (wholes earlier) s.0 (λ m before e. (newest_near n p earlier part after bound s.1 s.2 m before e).0) (falling earlier h)))
      (λ still. subst Falling (sym (wholes-part n p earlier still)) (falling earlier h)))
  falling r (late {earlier} n p before h s newest) = subst Falling (sym (wholes-old n p earlier (newest_whole earlier n before newest))) (falling earlier h)
  falling r (damaged {earlier} other number h e) = falling earlier h

  -- what was spoilt leaves the set in hand alone
  hand-spoilt : (other : Message) (r : List (Item Message)) (hand : Hand) → InHand r hand → InHand (spoilt other ∷ r) hand
  hand-spoilt other r hand (idle e none) = idle e (λ n after part q. heard-spoilt other r n q ∙ none n after (sym (whole-spoilt other r n) ∙ part) q)
  hand-spoilt other r hand (busy m part below there near g) =
      busy m (whole-spoilt other r m ∙ part) below there (λ n. rw (wholes-spoilt other r) (near n))
      (gathered_as (got (spoilt other ∷ r) m) (λ k small. heard-spoilt other r m (first_packet + k)) g)

  -- ---- the theorem, of tables of twenty slots whose numbers do not clash, and whose packets are read as they were sent
  module _ (twenty : (n : ℕ) → length (T n) ≡ slot_count) (apart : (n : ℕ) → clashes (T n) ≡ false)
      (back : (n p : ℕ) → OfTheDesk rest reach binding calls n p → binding.read (message_of rest reach binding calls (sent n p)) ≡ record { verdict = verdict_accepted; telegram = telegram_in n p }) where
    heard_as : (l : Listener) (n p : ℕ) → OfTheDesk rest reach binding calls n p → hear_of reach l (binding.read (message_of rest reach binding calls (sent n p))) ≡ heard_of reach l (telegram_in n p)
    heard_as l n p s = ap (hear_of reach l) (back n p s) ∙ hear_as reach l (record { verdict = verdict_accepted; telegram = telegram_in n p }) refl

    follow-late : (l : Listener) (n p : ℕ) (r : List (Item Message)) (before : List ℕ) → OfTheDesk rest reach binding calls n p → wholes r ≡ n ∷ before → Rel r l
        → Follows (sent n p) r (heard_of reach l (telegram_in n p))
    follow-late l n p r before s newest = follow-old n p r (newest_whole r n before newest) l before newest s.1 s.2

    follow-next : (l : Listener) (n p : ℕ) (r : List (Item Message)) → Premises rest reach binding calls r → OfTheDesk rest reach binding calls n p → NoneAfter n r
        → Near n r → Rel r l → Follows (sent n p) r (heard_of reach l (telegram_in n p))
    follow-next l n p r h s after bound v =
        on (heard_whole r n)
        (λ w.
        given (newest_is r h n w)
        (λ (m, before, is, le).
        let same : m ≡ n = omega (arith, whole_below m n r after (newest_whole r m before is)) in
        follow-late l n p r before s (is ∙ ap (λ k. k ∷ before) same) v))
        (λ u.
        on (was_heard r n p)
        (λ heard. follow_copy n p r u after bound s.1 s.2 heard l v)
        (λ unheard.
        on (heard_whole (sent n p ∷ r) n)
        (λ whole. follow-whole n p r u after bound s.1 s.2 l v unheard whole (twenty n) (apart n))
        (λ part. follow-part n p r u after bound s.1 s.2 l v unheard part)))

    -- the listener shows the tables heard whole, and every answer is the one expected
    abbrev Following : List (Item Message) → Type 0
    Following r = Rel r (listener_after rest reach binding calls r) × Answered rest reach binding calls r

    following : (r : List (Item Message)) → Premises rest reach binding calls r → Following r
    unfolding listener_after wholes was_heard Follows
    following r nothing = (record { shown = record { picture = fresh-picture; last = fresh-last; marks = refl }; hand = idle fresh-hand (λ n after part q. refl) }, tt)
    following r (in_turn {earlier} n p h s after bound) =
        subst (Follows (sent n p) earlier) (sym (heard_as (listener_after rest reach binding calls earlier) n p s)) (follow-next (listener_after rest reach binding calls earlier) n p earlier h s after bound (following earlier h).0)
    following r (late {earlier} n p before h s newest) =
        subst (Follows (sent n p) earlier) (sym (heard_as (listener_after rest reach binding calls earlier) n p s)) (follow-late (listener_after rest reach binding calls earlier) n p earlier before s newest (following earlier h).0)
    following r (damaged {earlier} other number h e) =
        let l : Listener = listener_after rest reach binding calls earlier in
        let v : Rel earlier l = (following earlier h).0 in
        let refused : (binding.read other).verdict ≡ verdict_refused number = ruling_apart (binding.read other).verdict (verdict_refused number) e in
        subst (Follows (spoilt other) earlier) (sym (hear-refused reach l (binding.read other) number refused)) (record { shown = v.shown; hand = hand-spoilt other earlier l.hand v.hand }, ap (λ t. refused_as (number_of t)) (sym refused))

    pub shown : (r : List (Item Message)) → Premises rest reach binding calls r → Shown (wholes r) (listener_after rest reach binding calls r)
    shown r h = (following r h).0.shown

    pub answered : (r : List (Item Message)) → Premises rest reach binding calls r → Answered rest reach binding calls r
    answered r h = (following r h).1

    -- M-3e: whatever was lost before, a table that has been heard whole is the picture
    shown_newest : (r : List (Item Message)) → Premises rest reach binding calls r → (n : ℕ) (before : List ℕ) → wholes r ≡ n ∷ before → (listener_after rest reach binding calls r).picture ≡ T n
    shown_newest r h n before newest = (shown r h).picture ∙ ap (picture_of rest reach binding calls) newest

    pub right : (r : List (Item Message)) → Premises rest reach binding calls r → PutRight rest reach binding calls r
    right r nothing = tt
    right r (in_turn {earlier} n p h s after bound) =
        λ w.
        given (newest_is (sent n p ∷ earlier) (in_turn n p h s after bound) n w)
        (λ (m, before, is, le).
        let same : m ≡ n = omega (arith, whole_below m n (sent n p ∷ earlier) (omega arith, after) (newest_whole (sent n p ∷ earlier) m before is)) in
        shown_newest (sent n p ∷ earlier) (in_turn n p h s after bound) n before (is ∙ ap (λ k. k ∷ before) same))
    right r (late {earlier} n p before h s newest) =
        λ w. shown_newest (sent n p ∷ earlier) (late n p before h s newest) n before (wholes-old n p earlier (newest_whole earlier n before newest) ∙ newest)
    right r (damaged {earlier} other number h e) = tt
