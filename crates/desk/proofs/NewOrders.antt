-- The new orders of a step, told from the desk before it, the list and the desk after it: which slots are taken when an order has its
-- turn, which slot and number it is given, and which number is then the last one given (D-08, D-09).
use Prim.Native.Nat.{ℕ, ◌+◌, ◌<◌, ◌≤◌}
use mathlib.Core.Path.{◌≡◌, refl, sym, ap, ◌∙◌, subst}
use mathlib.Core.Logic.{◌⊎◌, inl, inr, ◌↔◌}
use mathlib.Core.Bool.{Bool, true, false}
use mathlib.Core.List.{List, [], ◌∷◌, map}
use lib.ListN.{length}
use native.Mathlib.Omega.{arith}
use Rattle.orders.specs.Orders.{Fair}
use Rattle.kit.specs.Member.{member}
use Rattle.kit.proofs.Cases.{on, clash, given}
use Rattle.condition.specs.Slots.{slot_count}
use Rattle.order_list.specs.Lists.{stands, order_at, order_count}
use Rattle.order_list.proofs.Listed.{listed_when}
use Rattle.places.specs.Places.{free_place, place_at, place_of, lowest_free, is_live}
use Rattle.places.specs.declared.Place.{Place}
use Rattle.places.proofs.Live.{live-there, live_when}
use Rattle.orders.proofs.Lists.{fair}
use Rattle.resting.specs.Rests.{is_resting}
use Rattle.resting.specs.declared.Ended.{Ended}
use Rattle.resting.proofs.Rested.{covers-resting}
use Rattle.numbers.specs.Numbers.{next_number}
use Rattle.numbers.proofs.Search.{FirstPermitted}
use Rattle.leaving.proofs.Left.{kept-stays}
use Rattle.arriving.specs.Arriving.{seated_all}
use Rattle.arriving.specs.declared.Seats.{Seats}
use Rattle.arriving.proofs.Seated.{new_place}
use Rattle.desk.specs.Steps.{next_step, kept_place, ended_numbers, step_of}
use Rattle.desk.specs.declared.Desk.{Desk}
use Rattle.desk.specs.Desks.{fresh_with}
use Rattle.desk.proofs.Runs.{desk_run, AllAccepted}
use Rattle.desk.proofs.Arrivals as arrivals
use Rattle.desk.proofs.Endings.{kept_at}
use Rattle.desk.proofs.Seating.{Orderly, After}
use Rattle.desk.proofs.Staying.{Stayed, case, kept-orderly, kept-listed}
use Rattle.desk.proofs.Stepping.{Sound, bar, bar-few, next-orderly}
use Rattle.desk.proofs.Tracing.{run_sound}

module _ (rest rows : ℕ) (enough : rest ≤ rows) (few : rows ≤ 11) (desk : Desk) (sound : Sound rows desk) (list : List ℕ) (fair : Fair desk.places list) where
  abbrev old : List Place
  old = desk.places

  abbrev named : ℕ → ℕ
  named j = (order_at list j).number

  abbrev start : List Place
  start = map (kept_place list) old

  abbrev ended : List Ended
  ended = ended_numbers list (next_step desk.step) old desk.ended

  -- which numbers rest in this step
  abbrev pub resting : ℕ → Bool
  resting = is_resting rest (next_step desk.step) ended

  abbrev next : Desk
  next = step_of rest desk list

  -- the seats when order j of the list has its turn
  abbrev pub turn_of : ℕ → Seats
  turn_of j = seated_all resting list (record { places = start; last = desk.last }) j

  pub at-end : (next.places ≡ (turn_of (order_count list)).places) × (next.last ≡ (turn_of (order_count list)).last)
  unfolding step_of
  at-end = (refl, refl)

  -- ---- what Arrivals proves, of this step

  abbrev bars : List ℕ
  bars = bar rest rows enough few desk sound list fair

  covers : (n : ℕ) → resting n ≡ true → member n bars ≡ true
  covers = covers-resting rest (next_step desk.step) ended

  small : length bars ≤ 220
  small = bar-few rest rows enough few desk sound list fair

  ready : Orderly start
  ready = kept-orderly sound.orderly fair

  listed : (i : ℕ) → 1 ≤ (place_at start i).order → stands list (place_at start i).order ≡ true
  listed = kept-listed sound.orderly fair

  pub begins : turn_of 0 ≡ record { places = start; last = desk.last }
  begins = arrivals.begins resting bars covers small list fair start ready listed desk.last

  later : (j k i : ℕ) → j ≤ k → k ≤ order_count list → 1 ≤ (place_at (turn_of j).places i).order → place_at (turn_of k).places i ≡ place_at (turn_of j).places i
  later = arrivals.stays-later resting bars covers small list fair start ready listed desk.last

  so_far : (j : ℕ) → j ≤ order_count list → After resting bars covers small list fair start ready listed (turn_of j) j
  so_far = arrivals.so_far resting bars covers small list fair start ready listed desk.last

  pub orderly-at : (j : ℕ) → j ≤ order_count list → Orderly (turn_of j).places
  orderly-at j p = (so_far j p).orderly

  -- D-09: the number is the first permitted one after the last one given
  pub finds : (j : ℕ) → j < order_count list → FirstPermitted resting (turn_of j).places (turn_of j).last (next_number resting (turn_of j).places (turn_of j).last)
  finds = arrivals.finds resting bars covers small list fair start ready listed desk.last

  pub last-small : desk.last ≤ 255 → (j : ℕ) → j ≤ order_count list → (turn_of j).last ≤ 255
  last-small = arrivals.last-small resting bars covers small list fair start ready listed desk.last

  -- ---- who stays

  -- what stands in a slot at some turn stands there at the end
  pub to_the_end : (j i : ℕ) → j ≤ order_count list → 1 ≤ (place_at (turn_of j).places i).order → place_at next.places i ≡ place_at (turn_of j).places i
  to_the_end j i p q = ap (λ (l : List Place). place_at l i) at-end.0 ∙ later j (order_count list) i p (omega arith) q

  stays-first : (i : ℕ) → stands list (place_at old i).order ≡ true → (place_at (turn_of 0).places i).order ≡ (place_at old i).order
  stays-first i e =
      ap (λ (s : Seats). (place_at s.places i).order) begins
      ∙ ap (λ (x : Place). x.order) (kept_at fair old i ∙ kept-stays list (order_count list) (place_at old i) e)

  stays_at : (j i : ℕ) → j ≤ order_count list → 1 ≤ (place_at old i).order → stands list (place_at old i).order ≡ true → (place_at (turn_of j).places i).order ≡ (place_at old i).order
  stays_at j i p q e = ap (λ (x : Place). x.order) (later 0 j i (omega arith) p (omega (arith, stays-first i e))) ∙ stays-first i e

  -- D-07: an order that stays has this slot
  abbrev pub StaysIn : ℕ → Type 0
  StaysIn i = (1 ≤ (place_at old i).order) × (stands list (place_at old i).order ≡ true)

  started : (i : ℕ) → Stayed sound.orderly fair i (place_at start i) ⊎ (place_at start i ≡ free_place) → 1 ≤ (place_at start i).order
      → StaysIn i × ((place_at start i).order ≡ (place_at old i).order)
  started i (inl s) p = ((s.was, s.listed), s.order)
  started i (inr e) p = absurd (omega (arith, rw e at p))

  -- ---- who is new

  -- an order is live at its turn exactly when it was live before the step
  pub same_live : (j : ℕ) → j < order_count list → is_live (turn_of j).places (named j) ≡ is_live old (named j)
  same_live j p =
      on (is_live old (named j))
      (λ e. given (live-there old (named j) e) (λ (inside, same). still (place_of old (named j)) inside same ∙ sym e))
      (λ e.
      on (is_live (turn_of j).places (named j))
      (λ f.
      given (live-there (turn_of j).places (named j) f)
      (λ (inside, same). absurd (go e (place_of (turn_of j).places (named j)) inside same
      (arrivals.came resting bars covers small list fair start ready listed desk.last j (place_of (turn_of j).places (named j)) (omega arith)
      (omega (arith, same, fair.named j p))))))
      (λ f. f ∙ sym e))
    where
      still : (i : ℕ) → i < slot_count → (place_at old i).order ≡ named j → is_live (turn_of j).places (named j) ≡ true
      still i inside same =
          live_when (turn_of j).places (named j) i inside
          (stays_at j i (omega arith) (omega (arith, fair.named j p)) (listed_when list (order_count list) (place_at old i).order j p (sym same)) ∙ same)

      go : is_live old (named j) ≡ false → (i : ℕ) → i < slot_count → (place_at (turn_of j).places i).order ≡ named j
          → (place_at (turn_of j).places i ≡ place_at start i)
          ⊎ ((m : ℕ) × (m < j) × (is_live (turn_of m).places (named m) ≡ false) × ((place_at (turn_of j).places i).order ≡ named m))
          → ⊥
      go e i inside same (inl there) =
          let order : (place_at start i).order ≡ named j = ap (λ (x : Place). x.order) (sym there) ∙ same in
          given (started i (case sound.orderly fair i) (omega (arith, fair.named j p)))
          (λ (stays, kept). clash (live_when old (named j) i inside (sym kept ∙ order)) e)
      go e i inside same (inr (m, below, unlive, order)) = fair.distinct m j below p (sym order ∙ same)

  -- D-08: a slot is taken at the turn of order j exactly when an order that stays has it, or a new one earlier in the list
  abbrev pub TakenBy : ℕ → ℕ → Type 0
  TakenBy j k = StaysIn k ⊎ ((m : ℕ) × (m < j) × (is_live old (named m) ≡ false) × ((place_at next.places k).order ≡ named m))

  pub taken-exactly : (j k : ℕ) → j ≤ order_count list → (1 ≤ (place_at (turn_of j).places k).order) ↔ TakenBy j k
  taken-exactly j k p = (λ q. there q (arrivals.came resting bars covers small list fair start ready listed desk.last j k p q), back)
    where
      there : 1 ≤ (place_at (turn_of j).places k).order
          → (place_at (turn_of j).places k ≡ place_at start k)
          ⊎ ((m : ℕ) × (m < j) × (is_live (turn_of m).places (named m) ≡ false) × ((place_at (turn_of j).places k).order ≡ named m))
          → TakenBy j k
      there q (inl e) = inl (started k (case sound.orderly fair k) (subst (λ (x : Place). 1 ≤ x.order) e q)).0
      there q (inr (m, below, unlive, order)) = inr (m, below, sym (same_live m (omega arith)) ∙ unlive, ap (λ (x : Place). x.order) (to_the_end j k p q) ∙ order)

      back : TakenBy j k → 1 ≤ (place_at (turn_of j).places k).order
      back (inl (named-now, e)) = omega (arith, stays_at j k p named-now e)
      back (inr (m, below, unlive, order)) =
          given (live-there (turn_of j).places (named m) ((so_far j p).live m below))
          (λ (inside, same).
          let some : 1 ≤ (place_at (turn_of j).places (place_of (turn_of j).places (named m))).order = omega (arith, same, fair.named m (omega arith)) in
          let stood = ap (λ (x : Place). x.order) (to_the_end j (place_of (turn_of j).places (named m)) p some) in
          let here : place_of (turn_of j).places (named m) ≡ k = (next-orderly rest rows enough few desk sound list fair).single (place_of (turn_of j).places (named m)) k (omega arith) (stood ∙ (same ∙ sym order)) in
          subst (λ i. 1 ≤ (place_at (turn_of j).places i).order) here some)

  -- ---- the turn of a new order

  module _ (j : ℕ) (p : j < order_count list) (new : is_live old (named j) ≡ false) where
    -- D-08: it has the slot that is the lowest free one then, and the number that the search found
    pub given-slot : (lowest_free (turn_of j).places < slot_count) × (place_at next.places (lowest_free (turn_of j).places) ≡ new_place resting (order_at list j) (turn_of j))
    given-slot =
        let unlive = same_live j p ∙ new in
        let takes = arrivals.takes resting bars covers small list fair start ready listed desk.last j p unlive in (
          arrivals.has_room resting bars covers small list fair start ready listed desk.last j p unlive,
          to_the_end (j + 1) (lowest_free (turn_of j).places) (omega arith) (omega (arith, ap (λ (x : Place). x.order) takes, fair.named j p)) ∙ takes,
        )

    -- D-09: and that number is the last one given at the next turn
    pub last-new : (turn_of (j + 1)).last ≡ next_number resting (turn_of j).places (turn_of j).last
    last-new =
        ap (λ (s : Seats). s.last) (arrivals.turn-new resting bars covers small list fair start ready listed desk.last j (same_live j p ∙ new))

  pub last-live : (j : ℕ) → j < order_count list → is_live old (named j) ≡ true → (turn_of (j + 1)).last ≡ (turn_of j).last
  last-live j p live =
      ap (λ (s : Seats). s.last) (arrivals.turn-live resting bars covers small list fair start ready listed desk.last j (same_live j p ∙ live))

-- ---- over many steps

-- D-10: the last number given is at most 255
pub run-last : (rest rows : ℕ) (enough : rest ≤ rows) (few : rows ≤ 11) (h : List (List ℕ)) → AllAccepted rest rows h → (desk_run rest rows h).last ≤ 255
unfolding desk_run fresh_with
run-last rest rows enough few [] a = omega arith
run-last rest rows enough few (list ∷ h) (p, a) =
    let before = desk_run rest rows h in
    let sound : Sound rows before = run_sound rest rows enough few h a in
    let listed : Fair before.places list = fair before.places list p in
    subst (λ n. n ≤ 255) (sym (at-end rest rows enough few before sound list listed).1)
    (last-small rest rows enough few before sound list listed (run-last rest rows enough few h a) (order_count list) (omega arith))
