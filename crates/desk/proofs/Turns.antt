-- One new order in a list: which number it gets. This is P5 of document 01 for every step f, every rest and every number whose
-- turn it is: while the number rests it is passed over, and in the first step after that it is given.
use Prim.Native.Nat.{ℕ, zero, suc, ◌+◌, ◌<◌, ◌≤◌}
use mathlib.Core.Path.{◌≡◌, refl, sym, ap, ◌∙◌, subst}
use mathlib.Core.Logic.{◌⊎◌, inl, inr}
use mathlib.Core.Bool.{Bool, true, false}
use mathlib.Core.List.{List, [], ◌∷◌, ◌++◌, map}
use lib.Dec.{eqb}
use lib.ListN.{length, set}
use lib.Seq.{get_or-set_same, get_or-set_other}
use native.Mathlib.Omega.{arith}
use borrow.Author.Tests.{eqb-true, eqb-false}
use Rattle.orders.specs.Orders.{Fair}
use Rattle.kit.specs.Loops.{fold}
use Rattle.kit.proofs.Cases.{on, clash, given}
use Rattle.kit.proofs.Loops.{fold-none, fold_more}
use Rattle.order_list.specs.Lists.{stands, order_at, order_count}
use Rattle.places.specs.Places.{free_place, place_at, place_of, lowest_free, is_live}
use Rattle.condition.specs.Slots.{slot_count}
use Rattle.places.specs.declared.Place.{Place}
use Rattle.order_list.proofs.Listed.{listed_when}
use Rattle.places.proofs.Live.{live-there, live_when, free-there}
use Rattle.orders.proofs.Lists.{fair}
use Rattle.resting.specs.Rests.{is_resting}
use Rattle.numbers.specs.Numbers.{has_number, is_permitted, next_number, number_after}
use Rattle.numbers.proofs.Search.{number-first, number-some}
use Rattle.desk.proofs.Runs.{desk_run, AllAccepted, EndedAgo, OneNotLive}
use Rattle.desk.specs.Steps.{kept_place, step_of, next_step, ended_numbers}
use Rattle.desk.specs.declared.Desk.{Desk}
use Rattle.arriving.specs.Arriving.{seated, seated_all}
use Rattle.arriving.specs.declared.Seats.{Seats}
use Rattle.arriving.proofs.Seated.{new_place, seated-live, seated-new}
use Rattle.leaving.proofs.Left.{kept-stays}
use Rattle.desk.proofs.Endings.{kept_at}
use Rattle.desk.proofs.Resting.{resting-exactly}
use Rattle.desk.proofs.Seating.{Orderly, RoomForAll}
use Rattle.desk.proofs.Staying.{Stayed, case, kept-orderly}
use Rattle.desk.proofs.Stepping.{Sound, next-room}
use Rattle.desk.proofs.Tracing.{at, run_sound, rested, older}

-- ---- placing a list with one new order is placing that one

module _ (resting : ℕ → Bool) (list : List ℕ) (start : Seats) (j : ℕ) (one : OneNotLive start.places list j)
    (named : (k : ℕ) → k < order_count list → 1 ≤ (order_at list k).number) (rooms : RoomForAll resting list start (order_count list)) where
  abbrev turn : ℕ → Seats → Seats
  turn k = seated resting (order_at list k)

  abbrev done : Seats
  done = seated resting (order_at list j) start

  -- until its turn nothing changes
  until : (m : ℕ) → m ≤ j → fold turn start m ≡ start
  until zero p = fold-none turn start
  until (suc m) p =
      let e : suc m ≡ m + 1 = omega arith in
      ap (fold turn start) e
      ∙ (fold_more turn start m
      ∙ (ap (turn m) (until m (omega arith)) ∙ seated-live resting (order_at list m) start (one.others m (omega (arith, one.inlist)) (λ z. omega arith))))

  room : lowest_free start.places < slot_count
  unfolding seated_all
  room = subst (λ (s : Seats). is_live s.places (order_at list j).number ≡ false → lowest_free s.places < slot_count) (until j (omega arith)) (rooms j one.inlist) one.new

  -- the others are live after it
  still : (k : ℕ) → k < order_count list → (k ≡ j → ⊥) → is_live done.places (order_at list k).number ≡ true
  still k p other =
      subst (λ (s : Seats). is_live s.places (order_at list k).number ≡ true) (sym (seated-new resting (order_at list j) start one.new))
      (given (live-there start.places (order_at list k).number (one.others k p other))
      (λ (small, same).
      live_when (set start.places (lowest_free start.places) (new_place resting (order_at list j) start)) (order_at list k).number
      (place_of start.places (order_at list k).number) small
      (ap (λ (x : Place). x.order)
      (get_or-set_other start.places (lowest_free start.places) (place_of start.places (order_at list k).number) (new_place resting (order_at list j) start) free_place
      (λ z.
      omega (arith, named k p, same, ap (place_at_order start.places) z, free-there start.places room)))
      ∙ same)))
    where
      place_at_order : List Place → ℕ → ℕ
      place_at_order places i = (place_at places i).order

  -- and so nothing changes after it
  since : (m : ℕ) → j < m → m ≤ order_count list → fold turn start m ≡ done
  since zero p q = absurd (omega arith)
  since (suc m) p q =
      let e : suc m ≡ m + 1 = omega arith in
      ap (fold turn start) e
      ∙ (fold_more turn start m
      ∙ on (eqb m j)
      (λ here. ap (turn m) (until m (omega (arith, eqb-true m j here))) ∙ ap (λ k. turn k start) (eqb-true m j here))
      (λ there.
      ap (turn m) (since m (omega (arith, eqb-false m j there)) (omega arith))
      ∙ seated-live resting (order_at list m) done (still m (omega arith) (eqb-false m j there))))

  pub one_placed : seated_all resting list start (order_count list)
      ≡ record {
        places = set start.places (lowest_free start.places) (new_place resting (order_at list j) start);
        last = next_number resting start.places start.last;
      }
  unfolding seated_all
  one_placed = since (order_count list) one.inlist (omega arith) ∙ seated-new resting (order_at list j) start one.new

-- ---- the same, seen from the desk before the step

module _ {old : List Place} (o : Orderly old) {list : List ℕ} (f : Fair old list) {j : ℕ} (one : OneNotLive old list j) where
  abbrev kept : List Place
  kept = map (kept_place list) old

  pub one_kept : OneNotLive kept list j
  one_kept =
      record {
        inlist = one.inlist;
        new =
            on (is_live kept (order_at list j).number)
            (λ e.
            given (live-there kept (order_at list j).number e)
            (λ (small, same).
            absurd
            (back (place_of kept (order_at list j).number) (case o f (place_of kept (order_at list j).number)) small same (f.named j one.inlist))))
            (λ e. e);
        others = λ k p other.
            given (live-there old (order_at list k).number (one.others k p other))
            (λ (small, same).
            live_when kept (order_at list k).number (place_of old (order_at list k).number) small
            (ap (λ (x : Place). x.order)
            (kept_at f old (place_of old (order_at list k).number)
            ∙ kept-stays list (order_count list) (place_at old (place_of old (order_at list k).number)) (listed_when list (order_count list) (place_at old (place_of old (order_at list k).number)).order k p (sym same)))
            ∙ same));
      }
    where
      back : (i : ℕ) → Stayed o f i (place_at kept i) ⊎ (place_at kept i ≡ free_place) → i < slot_count → (place_at kept i).order ≡ (order_at list j).number
          → 1 ≤ (order_at list j).number → ⊥
      back i (inl s) small same p = clash (live_when old (order_at list j).number i small (sym s.order ∙ same)) one.new
      back i (inr z) small same p = omega (arith, rw z at same)

-- ---- P5

module _ (rest rows : ℕ) (enough : rest ≤ rows) (few : rows ≤ 11)
    (h : List (List ℕ)) (ending : List ℕ) (i : ℕ) (was : 1 ≤ (at (desk_run rest rows h) i).order)
    (ended : stands ending (at (desk_run rest rows h) i).order ≡ false)
    (between : List (List ℕ)) (list : List ℕ) (accepted : AllAccepted rest rows (list ∷ (between ++ (ending ∷ h)))) where
  -- the number that ended, in step f
  abbrev number : ℕ
  number = (at (desk_run rest rows h) i).slot.number

  -- the desk before the new order comes, and after
  abbrev before : Desk
  before = desk_run rest rows (between ++ (ending ∷ h))

  abbrev after : Desk
  after = desk_run rest rows (list ∷ (between ++ (ending ∷ h)))

  -- up to step f + rest - 1 it is passed over: no order of the table has it
  pub passed_over : length between + 1 < rest → (k : ℕ) → (at after k).slot.number ≡ number → ⊥
  passed_over early k = rested rest rows enough few (list ∷ between) h ending i k accepted (omega arith) was ended

  positive : 1 ≤ number
  positive = ((run_sound rest rows enough few h (older rest rows enough few between (ending ∷ h) accepted.1).1).orderly.numbered i was).0

  -- while it rests it can neither be live nor end again
  not-again : (ls : List (List ℕ)) (k : ℕ) → AllAccepted rest rows (ls ++ (ending ∷ h)) → length ls ≤ rest → k < length ls → EndedAgo rest rows (ls ++ (ending ∷ h)) number k → ⊥
  not-again [] k a small p e = omega arith
  not-again (l ∷ ls) zero (q, a) small p (m, named, same, absent) = rested rest rows enough few ls h ending i m a (omega arith) was ended same
  not-again (l ∷ ls) (suc k) (q, a) small p e = not-again ls k a (omega arith) (omega arith) e

  abbrev resting : ℕ → Bool
  resting = is_resting rest (next_step before.step) (ended_numbers list (next_step before.step) before.places before.ended)

  -- in step f + rest it is given, if its turn has come
  module _ (now : length between + 1 ≡ rest) (in_turn : number_after before.last 0 ≡ number) (j : ℕ) (one : OneNotLive before.places list j) where
    s : Sound rows before
    s = run_sound rest rows enough few (between ++ (ending ∷ h)) accepted.1

    f : Fair before.places list
    f = fair before.places list accepted.0

    abbrev kept_now : List Place
    kept_now = map (kept_place list) before.places

    rests-no_more : resting number ≡ false
    unfolding desk_run step_of
    rests-no_more =
        on (resting number)
        (λ e.
        given ((resting-exactly rest rows enough few (list ∷ (between ++ (ending ∷ h))) number accepted positive).0 e)
        (λ (k, young, ago). absurd (not-again (list ∷ between) k accepted (omega arith) (omega arith) ago)))
        (λ e. e)

    not-kept : has_number kept_now number ≡ false
    not-kept =
        on (has_number kept_now number)
        (λ e. given (number-some kept_now number e) (λ (k, small, same). absurd (go k (case s.orderly f k) same)))
        (λ e. e)
      where
        go : (k : ℕ) → Stayed s.orderly f k (place_at kept_now k) ⊎ (place_at kept_now k ≡ free_place) → (place_at kept_now k).slot.number ≡ number → ⊥
        go k (inl t) same = rested rest rows enough few between h ending i k accepted.1 (omega arith) was ended (sym t.number ∙ same)
        go k (inr z) same = omega (arith, positive, rw z at same)

    gets : next_number resting kept_now before.last ≡ number
    gets =
        number-first resting kept_now before.last 0 (omega arith)
        (subst (λ n. is_permitted resting kept_now n ≡ true) (sym in_turn) (rw (not-kept, rests-no_more) refl)) (λ k p. absurd (omega arith))
        ∙ in_turn

    -- it is the last one given, and the lowest free slot has it
    pub given-again : (after.last ≡ number) × ((at after (lowest_free kept_now)).slot.number ≡ number) × ((at after (lowest_free kept_now)).order ≡ (order_at list j).number)
    unfolding desk_run step_of
    given-again =
        let rooms = next-room rest rows enough few before s list f in
        let first : Seats = record { places = kept_now; last = before.last } in
        let e = one_placed resting list first j (one_kept s.orderly f one) f.named rooms in
        let spare : lowest_free kept_now < slot_count = room resting list first j (one_kept s.orderly f one) f.named rooms in
        let there =
        get_or-set_same kept_now (lowest_free kept_now) (new_place resting (order_at list j) first) free_place (omega (arith, (kept-orderly s.orderly f).twenty)) in (
          ap (λ (x : Seats). x.last) e ∙ gets,
          ap (λ (x : Seats). (place_at x.places (lowest_free kept_now)).slot.number) e ∙ (ap (λ (x : Place). x.slot.number) there ∙ gets),
          ap (λ (x : Seats). (place_at x.places (lowest_free kept_now)).order) e ∙ ap (λ (x : Place). x.order) there,
        )
