-- New orders have their turns one after another, and what a turn gives stands to the end of the step. So the slots that are taken when
-- an order has its turn can be told from the desk before the step, the list and the desk after it: they are those of the orders that stay
-- and of the new ones before it in the list (D-08, D-09).
use Prim.Native.Nat.{ℕ, zero, suc, ◌+◌, ◌-◌, ◌<◌, ◌≤◌}
use mathlib.Core.Path.{◌≡◌, sym, ap, ◌∙◌, subst}
use mathlib.Core.Logic.{◌⊎◌, inl, inr}
use mathlib.Core.Bool.{Bool, true, false}
use mathlib.Core.List.{List}
use lib.ListN.{length, set}
use lib.Seq.{get_or-set_same}
use native.Mathlib.Nat.{add-zero}
use native.Mathlib.Omega.{arith}
use Rattle.orders.specs.Orders.{Fair}
use Rattle.kit.specs.Member.{member}
use Rattle.kit.proofs.Cases.{on}
use Rattle.kit.proofs.Loops.{fold-none, fold_more}
use Rattle.condition.specs.Slots.{slot_count}
use Rattle.order_list.specs.Lists.{stands, order_at, order_count}
use Rattle.places.specs.Places.{free_place, place_at, lowest_free, is_live}
use Rattle.places.specs.declared.Place.{Place}
use Rattle.places.proofs.Live.{free-there}
use Rattle.numbers.specs.Numbers.{next_number}
use Rattle.numbers.proofs.Search.{FirstPermitted}
use Rattle.numbers.proofs.Permitted.{search_found, number-range}
use Rattle.arriving.specs.Arriving.{seated, seated_all}
use Rattle.arriving.specs.declared.Seats.{Seats}
use Rattle.arriving.proofs.Seated.{seated-live, seated-new, new_place}
use Rattle.desk.proofs.Seating.{Orderly, Spot, spot, After, after, room}

module _ (resting : ℕ → Bool) (kept : List ℕ) (covered : (n : ℕ) → resting n ≡ true → member n kept ≡ true) (few : length kept ≤ 220)
    {old : List Place} (list : List ℕ) (fair : Fair old list)
    (start : List Place) (ready : Orderly start) (listed : (i : ℕ) → 1 ≤ (place_at start i).order → stands list (place_at start i).order ≡ true) (last : ℕ) where
  abbrev first : Seats
  first = record { places = start; last = last }

  -- the seats when order j of the list has its turn
  abbrev pub up_to : ℕ → Seats
  up_to j = seated_all resting list first j

  abbrev named : ℕ → ℕ
  named j = (order_at list j).number

  pub begins : up_to 0 ≡ first
  unfolding seated_all
  begins = fold-none (λ k. seated resting (order_at list k)) first

  turn : (j : ℕ) → up_to (j + 1) ≡ seated resting (order_at list j) (up_to j)
  unfolding seated_all
  turn j = fold_more (λ k. seated resting (order_at list k)) first j

  -- an order that is live at its turn changes nothing
  pub turn-live : (j : ℕ) → is_live (up_to j).places (named j) ≡ true → up_to (j + 1) ≡ up_to j
  turn-live j e = turn j ∙ seated-live resting (order_at list j) (up_to j) e

  -- one that is not takes the lowest free slot and the next number
  pub turn-new : (j : ℕ) → is_live (up_to j).places (named j) ≡ false
      → up_to (j + 1)
      ≡ record {
        places = set (up_to j).places (lowest_free (up_to j).places) (new_place resting (order_at list j) (up_to j));
        last = next_number resting (up_to j).places (up_to j).last;
      }
  turn-new j e = turn j ∙ seated-new resting (order_at list j) (up_to j) e

  pub so_far : (j : ℕ) → j ≤ order_count list → After resting kept covered few list fair start ready listed (up_to j) j
  so_far j p = after resting kept covered few list fair start ready listed last j p

  -- ---- one turn

  module _ (j : ℕ) (p : j < order_count list) where
    pub has_room : is_live (up_to j).places (named j) ≡ false → lowest_free (up_to j).places < slot_count
    has_room unlive = room resting kept covered few list fair start ready listed (up_to j) j (so_far j (omega arith)) p unlive

    each-slot : is_live (up_to j).places (named j) ≡ false → (i : ℕ) → Spot (up_to j).places (new_place resting (order_at list j) (up_to j)) i
    each-slot unlive = spot (up_to j).places (new_place resting (order_at list j) (up_to j)) (omega (arith, (so_far j (omega arith)).orderly.twenty, has_room unlive))

    pub takes : is_live (up_to j).places (named j) ≡ false → place_at (up_to (j + 1)).places (lowest_free (up_to j).places) ≡ new_place resting (order_at list j) (up_to j)
    takes unlive =
        ap (λ (s : Seats). place_at s.places (lowest_free (up_to j).places)) (turn-new j unlive)
        ∙ get_or-set_same (up_to j).places (lowest_free (up_to j).places) (new_place resting (order_at list j) (up_to j)) free_place
        (omega (arith, (so_far j (omega arith)).orderly.twenty, has_room unlive))

    -- a slot that is taken stays as it is
    stays-one : (i : ℕ) → 1 ≤ (place_at (up_to j).places i).order → place_at (up_to (j + 1)).places i ≡ place_at (up_to j).places i
    stays-one i q =
        on (is_live (up_to j).places (named j))
        (λ e. ap (λ (s : Seats). place_at s.places i) (turn-live j e))
        (λ e. ap (λ (s : Seats). place_at s.places i) (turn-new j e) ∙ go (has_room e) (each-slot e i))
      where
        go : lowest_free (up_to j).places < slot_count → Spot (up_to j).places (new_place resting (order_at list j) (up_to j)) i
            → place_at (set (up_to j).places (lowest_free (up_to j).places) (new_place resting (order_at list j) (up_to j))) i ≡ place_at (up_to j).places i
        go spare (inl (here, e)) = absurd (omega (arith, ap (λ k. (place_at (up_to j).places k).order) here ∙ free-there (up_to j).places spare))
        go spare (inr e) = e

    -- D-09: the number is the first permitted one after the last one given
    pub finds : FirstPermitted resting (up_to j).places (up_to j).last (next_number resting (up_to j).places (up_to j).last)
    finds = search_found resting kept covered few (up_to j).places (so_far j (omega arith)).orderly.twenty (up_to j).last

    range : (1 ≤ next_number resting (up_to j).places (up_to j).last) × (next_number resting (up_to j).places (up_to j).last ≤ 255)
    range = number-range resting kept covered few (up_to j).places (so_far j (omega arith)).orderly.twenty (up_to j).last

    last_one : (up_to j).last ≤ 255 → (up_to (j + 1)).last ≤ 255
    last_one q =
        on (is_live (up_to j).places (named j))
        (λ e. subst (λ (s : Seats). s.last ≤ 255) (sym (turn-live j e)) q)
        (λ e. subst (λ (s : Seats). s.last ≤ 255) (sym (turn-new j e)) range.1)

  -- ---- all turns

  pub last-small : last ≤ 255 → (j : ℕ) → j ≤ order_count list → (up_to j).last ≤ 255
  last-small small zero p = subst (λ (s : Seats). s.last ≤ 255) (sym begins) small
  last-small small (suc j) p =
      let e : j + 1 ≡ suc j = omega arith in
      subst (λ k. (up_to k).last ≤ 255) e (last_one j (omega arith) (last-small small j (omega arith)))

  stays_on : (j more i : ℕ) → j + more ≤ order_count list → 1 ≤ (place_at (up_to j).places i).order → place_at (up_to (j + more)).places i ≡ place_at (up_to j).places i
  stays_on j zero i p q = ap (λ k. place_at (up_to k).places i) (add-zero j)
  stays_on j (suc more) i p q =
      let e : j + suc more ≡ j + more + 1 = omega arith in
      let so = stays_on j more i (omega arith) q in
      ap (λ k. place_at (up_to k).places i) e ∙ (stays-one (j + more) (omega arith) i (omega (arith, ap (λ (x : Place). x.order) so)) ∙ so)

  -- what stands in a slot at some turn stands there at every later one
  pub stays-later : (j k i : ℕ) → j ≤ k → k ≤ order_count list → 1 ≤ (place_at (up_to j).places i).order → place_at (up_to k).places i ≡ place_at (up_to j).places i
  stays-later j k i p q named =
      let e : k ≡ j + (k - j) = omega arith in
      ap (λ m. place_at (up_to m).places i) e ∙ stays_on j (k - j) i (omega arith) named

  -- where the orders come from that have a slot at some turn
  abbrev Came : ℕ → ℕ → Type 0
  Came j i =
      (place_at (up_to j).places i ≡ place_at start i)
      ⊎ ((m : ℕ) × (m < j) × (is_live (up_to m).places (named m) ≡ false) × ((place_at (up_to j).places i).order ≡ named m))

  pub came : (j i : ℕ) → j ≤ order_count list → 1 ≤ (place_at (up_to j).places i).order → Came j i
  came zero i p q = inl (ap (λ (s : Seats). place_at s.places i) begins)
  came (suc j) i p q =
      let e : j + 1 ≡ suc j = omega arith in
      subst (λ k. Came k i) e
      (on (is_live (up_to j).places (named j))
      (λ live. same (ap (λ (s : Seats). place_at s.places i) (turn-live j live)) (came j i (omega arith)))
      (λ unlive. go unlive (came j i (omega arith)) (each-slot j (omega arith) unlive i)))
    where
      named-now : 1 ≤ (place_at (up_to (j + 1)).places i).order
      named-now = let e : suc j ≡ j + 1 = omega arith in subst (λ k. 1 ≤ (place_at (up_to k).places i).order) e q

      widen : Came j i → place_at (up_to (j + 1)).places i ≡ place_at (up_to j).places i → Came (j + 1) i
      widen (inl there) e = inl (e ∙ there)
      widen (inr (m, small, unlive, order)) e = inr (m, omega arith, unlive, ap (λ (x : Place). x.order) e ∙ order)

      same : place_at (up_to (j + 1)).places i ≡ place_at (up_to j).places i → (1 ≤ (place_at (up_to j).places i).order → Came j i) → Came (j + 1) i
      same e before = widen (before (subst (λ (x : Place). 1 ≤ x.order) e named-now)) e

      go : is_live (up_to j).places (named j) ≡ false → (1 ≤ (place_at (up_to j).places i).order → Came j i)
          → Spot (up_to j).places (new_place resting (order_at list j) (up_to j)) i → Came (j + 1) i
      go unlive before (inl (here, e)) = inr (j, omega arith, unlive, ap (λ (s : Seats). (place_at s.places i).order) (turn-new j unlive) ∙ ap (λ (x : Place). x.order) e)
      go unlive before (inr e) = same (ap (λ (s : Seats). place_at s.places i) (turn-new j unlive) ∙ e) before
