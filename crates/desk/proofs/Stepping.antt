-- One step of a sound desk: the desk after it is sound, and each of its places is one that stayed, a new one, or free.
--
-- Proved over a rest of 1 to 11 steps and over as many rows of twenty ended numbers as the desk keeps: as many as the rest, or more.
use Prim.Native.Nat.{ℕ, ◌+◌, ◌-◌, ◌*◌, ◌/◌, ◌<◌, ◌≤◌}
use mathlib.Core.Path.{◌≡◌, refl, sym, ap, ◌∙◌, subst}
use mathlib.Core.Logic.{◌⊎◌, inl, inr}
use mathlib.Core.Bool.{true, false}
use mathlib.Core.List.{List, map}
use lib.Dec.{ltb}
use lib.ListN.{length, length-map, get_or-eq_default}
use native.Mathlib.Omega.{arith}
use borrow.Author.Tests.{ltb-true, ltb-false}
use Rattle.orders.specs.Orders.{Fair}
use Rattle.kit.proofs.Cases.{on, clash, given}
use Rattle.wire.specs.Steps.{steps, gap_of}
use Rattle.wire.proofs.Round.{gap-round, gap-only}
use Rattle.order_list.specs.Lists.{order_named, stands, order_at, order_count, listed_at}
use Rattle.places.specs.Places.{free_place, place_at, place_of, is_live}
use Rattle.condition.specs.Slots.{slot_count}
use Rattle.places.specs.declared.Place.{Place}
use Rattle.order_list.proofs.Listed.{listed-there, listed_when}
use Rattle.places.proofs.Live.{live-there}
use Rattle.orders.proofs.Lists.{listed_self}
use Rattle.resting.specs.Rests.{none_ended, ended_at, is_resting}
use Rattle.resting.specs.declared.Ended.{Ended}
use Rattle.resting.proofs.Rested.{covers-resting, resting_when}
use Rattle.leaving.specs.Leaving.{body_in}
use Rattle.desk.specs.Steps.{next_step, kept_place, ended_numbers, step_of}
use Rattle.arriving.specs.Arriving.{seated_all}
use Rattle.desk.specs.declared.Desk.{Desk}
use Rattle.leaving.proofs.Left.{kept-stays, entry-only, entry-ends, ended-long, ended-now, ended-before}
use Rattle.desk.proofs.Endings.{kept_at}
use Rattle.desk.proofs.Seating.{Orderly, inside, New, After, after, RoomForAll, room_for_all}
use Rattle.desk.proofs.Staying.{Stayed, case, kept-orderly, kept-listed}

-- what is true of a desk that was made: an entry of the ended numbers in row k, from 0, ended k steps ago
pub record Sound (rows : ℕ) (desk : Desk) : Type 0 where
  pub orderly : Orderly desk.places
  pub kept : length desk.ended ≡ slot_count * rows
  pub below : desk.step < steps
  pub aged : (r : ℕ) → 1 ≤ (ended_at desk.ended r).number
      → ((ended_at desk.ended r).step < steps) × (gap_of desk.step (ended_at desk.ended r).step ≡ r / slot_count)

-- a step's own number is no gap away, and one step on each gap is one more
gap_same : (s : ℕ) → s < steps → gap_of s s ≡ 0
gap_same s p = sym (gap-only s s 0 (omega arith) (omega arith) (omega arith))

gap-next : (s e k : ℕ) → s < steps → e < steps → k < 100 → gap_of s e ≡ k → gap_of (next_step s) e ≡ k + 1
gap-next s e k p q r h = sym (gap-only (next_step s) e (k + 1) (omega arith) (omega arith) (omega (arith, (gap-round s e (omega arith)).1)))

-- ---- the step

module _ (rest rows : ℕ) (enough : rest ≤ rows) (few : rows ≤ 11) (desk : Desk) (sound : Sound rows desk) (list : List ℕ) (fair : Fair desk.places list) where
  abbrev now : ℕ
  now = next_step desk.step

  abbrev ended : List Ended
  ended = ended_numbers list now desk.places desk.ended

  abbrev next : Desk
  next = step_of rest desk list

  -- the numbers that may rest
  abbrev pub bar : List ℕ
  bar = map (λ (e : Ended). e.number) ended

  pub bar-few : length bar ≤ 220
  bar-few =
      let e : length bar ≡ slot_count * rows = length-map ended (λ (e : Ended). e.number) ∙ (ended-long list (order_count list) now desk.places desk.ended sound.orderly.twenty ∙ sound.kept) in
      omega arith

  -- a new order's place
  abbrev pub Placed : ℕ → Place → Type 0
  Placed i place = New (is_resting rest now ended) list (map (kept_place list) desk.places) i place

  placing : After (is_resting rest now ended) bar (covers-resting rest now ended) bar-few list fair (map (kept_place list) desk.places)
      (kept-orderly sound.orderly fair) (kept-listed sound.orderly fair)
      (seated_all (is_resting rest now ended) list (record { places = map (kept_place list) desk.places; last = desk.last }) (order_count list))
      (order_count list)
  placing =
      after (is_resting rest now ended) bar (covers-resting rest now ended) bar-few list fair (map (kept_place list) desk.places)
      (kept-orderly sound.orderly fair) (kept-listed sound.orderly fair) desk.last (order_count list) (omega arith)

  -- D-08: every new order finds a free slot when its turn comes
  pub next-room : RoomForAll (is_resting rest now ended) list (record { places = map (kept_place list) desk.places; last = desk.last }) (order_count list)
  next-room =
      room_for_all (is_resting rest now ended) bar (covers-resting rest now ended) bar-few list fair (map (kept_place list) desk.places)
      (kept-orderly sound.orderly fair) (kept-listed sound.orderly fair) desk.last

  pub next-orderly : Orderly next.places
  unfolding step_of
  next-orderly = placing.orderly

  pub next-ended : next.ended ≡ ended
  unfolding step_of
  next-ended = refl

  pub next_step_lem : next.step ≡ now
  unfolding step_of
  next_step_lem = refl

  -- ---- what each place is after the step

  pub data Was (i : ℕ) (place : Place) : Type 0 where
    stayed : Stayed sound.orderly fair i place → Was i place
    placed : Placed i place → Was i place
    free : place ≡ free_place → Was i place

  pub was : (i : ℕ) → Was i (place_at next.places i)
  unfolding step_of
  was i = go (placing.grown i) (case sound.orderly fair i)
    where
      go : (place_at next.places i ≡ place_at (map (kept_place list) desk.places) i) ⊎ Placed i (place_at next.places i)
          → Stayed sound.orderly fair i (place_at (map (kept_place list) desk.places) i) ⊎ (place_at (map (kept_place list) desk.places) i ≡ free_place)
          → Was i (place_at next.places i)
      go (inl e) (inl s) = stayed (rw e s)
      go (inl e) (inr f) = free (e ∙ f)
      go (inr n) c = placed n

  -- D-07: an order present keeps its slot, number and type and takes the new words
  pub keeps : (i : ℕ) → 1 ≤ (place_at desk.places i).order → stands list (place_at desk.places i).order ≡ true
      → Stayed sound.orderly fair i (place_at next.places i)
  unfolding step_of
  keeps i p listed = go (placing.grown i) (case sound.orderly fair i)
    where
      here : (place_at (map (kept_place list) desk.places) i).order ≡ (place_at desk.places i).order
      here = ap (λ (x : Place). x.order) (kept_at fair desk.places i ∙ kept-stays list (order_count list) (place_at desk.places i) listed)

      go : (place_at next.places i ≡ place_at (map (kept_place list) desk.places) i) ⊎ Placed i (place_at next.places i)
          → Stayed sound.orderly fair i (place_at (map (kept_place list) desk.places) i) ⊎ (place_at (map (kept_place list) desk.places) i ≡ free_place)
          → Stayed sound.orderly fair i (place_at next.places i)
      go (inl e) (inl s) = rw e s
      go (inl e) (inr f) = absurd (omega (arith, here, ap (λ (x : Place). x.order) f))
      go (inr n) c = absurd (omega (arith, here, ap (λ (x : Place). x.order) n.was))

  live : (k : ℕ) → k < order_count list → is_live next.places (order_at list k).number ≡ true
  unfolding step_of
  live k q = placing.live k q

  -- D-06, D-08: the live orders are exactly the list's
  pub live-listed : (o : ℕ) → 1 ≤ o → is_live next.places o ≡ stands list o
  live-listed o p =
      on (stands list o)
      (λ e. given (listed-there list (order_count list) o e) (λ (q, same). subst (λ n. is_live next.places n ≡ true) same (live (listed_at list (order_count list) o) q) ∙ sym e))
      (λ e.
      on (is_live next.places o)
      (λ f. given (live-there next.places o f) (λ (q, same). absurd (clash (subst (λ n. stands list n ≡ true) same (from (place_of next.places o) (was (place_of next.places o)) (omega (arith, same)))) e)))
      (λ f. f ∙ sym e))
    where
      from : (i : ℕ) → Was i (place_at next.places i) → 1 ≤ (place_at next.places i).order → stands list (place_at next.places i).order ≡ true
      from i (stayed s) q = rw s.order s.listed
      from i (placed n) q = listed_when list (order_count list) (place_at next.places i).order n.entry n.inlist (sym n.order)
      from i (free e) q = absurd (omega (arith, rw e at q))

  -- D-07, D-08: and each has the list's words
  pub has_words : (i : ℕ) → 1 ≤ (place_at next.places i).order → (place_at next.places i).slot.body ≡ body_in (order_named list (place_at next.places i).order)
  has_words i p = go (was i)
    where
      go : Was i (place_at next.places i) → (place_at next.places i).slot.body ≡ body_in (order_named list (place_at next.places i).order)
      go (stayed s) = s.body ∙ ap (λ o. body_in (order_named list o)) (sym s.order)
      go (placed n) =
          n.body
          ∙ (ap (λ j. body_in (order_at list j)) (sym (listed_self desk.places list n.entry fair n.inlist))
          ∙ ap (λ o. body_in (order_named list o)) (sym n.order))
      go (free e) = absurd (omega (arith, rw e at p))

  -- ---- ended numbers

  long : length ended ≡ slot_count * rows
  long = ended-long list (order_count list) now desk.places desk.ended sound.orderly.twenty ∙ sound.kept

  -- D-06: the number of an absent order is the one of its slot in the first row
  pub rests : 1 ≤ rows → (i : ℕ) → 1 ≤ (place_at desk.places i).order → stands list (place_at desk.places i).order ≡ false
      → (ended_at next.ended i).number ≡ (place_at desk.places i).slot.number
  rests some i p absent =
      ap (λ (l : List Ended). (ended_at l i).number) next-ended
      ∙ (ap (λ (e : Ended). e.number)
      (ended-now list (order_count list) now desk.places desk.ended sound.orderly.twenty i (inside sound.orderly i p) (omega (arith, inside sound.orderly i p, sound.kept))
      ∙ entry-ends list (order_count list) (place_at desk.places i) now p absent))

  -- the others move on by a row
  pub moves : (r : ℕ) → slot_count + r < slot_count * rows → ended_at next.ended (slot_count + r) ≡ ended_at desk.ended r
  moves r p =
      ap (λ (l : List Ended). ended_at l (slot_count + r)) next-ended ∙ ended-before list (order_count list) now desk.places desk.ended sound.orderly.twenty r (omega (arith, sound.kept))

  -- where an entry with a number comes from: from an order that ended in this step, by its slot, or from a row further in front
  pub data Entry (r : ℕ) : Type 0 where
    begun : r < slot_count → 1 ≤ (place_at desk.places r).order → stands list (place_at desk.places r).order ≡ false
        → ended_at next.ended r ≡ record { number = (place_at desk.places r).slot.number; step = next.step } → Entry r
    moved : (q : ℕ) → r ≡ slot_count + q → slot_count + q < slot_count * rows → ended_at next.ended r ≡ ended_at desk.ended q → Entry r

  pub entry : (r : ℕ) → 1 ≤ (ended_at next.ended r).number → Entry r
  unfolding step_of
  entry r p =
      on (ltb r (slot_count * rows))
      (λ small.
      on (ltb r slot_count)
      (λ first.
      let there = ended-now list (order_count list) now desk.places desk.ended sound.orderly.twenty r (ltb-true r slot_count first) (omega (arith, sound.kept, ltb-true r (slot_count * rows) small)) in
      given (entry-only list (order_count list) (place_at desk.places r) now (subst (λ (x : Ended). 1 ≤ x.number) there p))
      (λ (named, absent, e). begun (ltb-true r slot_count first) named absent (there ∙ e)))
      (λ later.
      let back : r ≡ slot_count + (r - slot_count) = omega (arith, ltb-false r slot_count later) in
      let inside-rows : slot_count + (r - slot_count) < slot_count * rows = omega (arith, ltb-true r (slot_count * rows) small, ltb-false r slot_count later) in
      moved (r - slot_count) back inside-rows (ap (ended_at next.ended) back ∙ moves (r - slot_count) inside-rows)))
      (λ big. absurd (omega (arith, ap (λ (e : Ended). e.number) (get_or-eq_default next.ended none_ended {n = r} (omega (arith, long, ltb-false r (slot_count * rows) big))))))

  next-aged : (r : ℕ) → 1 ≤ (ended_at next.ended r).number → ((ended_at next.ended r).step < steps) × (gap_of next.step (ended_at next.ended r).step ≡ r / slot_count)
  next-aged r p = go (entry r p)
    where
      below : next.step < steps
      below = rw next_step_lem (omega arith)

      go : Entry r → ((ended_at next.ended r).step < steps) × (gap_of next.step (ended_at next.ended r).step ≡ r / slot_count)
      go (begun small named absent e) = rw e (below, gap_same next.step below ∙ omega arith)
      go (moved q back small e) =
          given (sound.aged q (subst (λ (x : Ended). 1 ≤ x.number) e p))
          (λ (early, age).
          rw e (
            early,
            ap (λ n. gap_of n (ended_at desk.ended q).step) next_step_lem
                ∙ (gap-next desk.step (ended_at desk.ended q).step (q / slot_count) sound.below early (omega arith) age ∙ omega arith),
          ))

  pub next-sound : Sound rows next
  next-sound =
      record {
        orderly = next-orderly;
        kept = ap length next-ended ∙ long;
        below = rw next_step_lem (omega arith);
        aged = next-aged;
      }

  -- D-12: a number that is in one of the first rows, as many as the rest, is not given
  pub not-given : (i r x : ℕ) → 1 ≤ x → r < slot_count * rest → (ended_at next.ended r).number ≡ x → Placed i (place_at next.places i) → (place_at next.places i).slot.number ≡ x → ⊥
  unfolding step_of
  not-given i r x p small there n same =
      let aged : gap_of now (ended_at ended r).step ≡ r / slot_count = (next-aged r (omega arith)).1 in
      clash (resting_when rest now ended x r (omega (arith, long)) there (omega arith)) (subst (λ k. is_resting rest now ended k ≡ false) same n.rested)
