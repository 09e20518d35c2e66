-- New orders are placed one after another: what is true of the places after each of them.
--
-- Each turn finds a free place and a permitted number, and leaves every other place as it was. So the places after the last turn
-- are those before the first with the new orders in free ones, and every order of the list is live.
use Prim.Native.Nat.{ℕ, zero, suc, ◌+◌, ◌<◌, ◌≤◌}
use mathlib.Core.Path.{◌≡◌, refl, sym, ap, ◌∙◌, subst}
use mathlib.Core.Logic.{◌⊎◌, inl, inr}
use mathlib.Core.Bool.{Bool, true, false, cond}
use mathlib.Core.List.{List}
use lib.Dec.{eqb, ltb}
use lib.ListN.{length, get_or, set, length-set, get_or-eq_default}
use lib.Seq.{get_or-set_same, get_or-set_other}
use native.Mathlib.Omega.{arith}
use borrow.Author.Tests.{eqb-true, eqb-false, ltb-true, ltb-false}
use Rattle.orders.specs.Orders.{Fair}
use Rattle.kit.specs.Loops.{fold}
use Rattle.kit.specs.Member.{member}
use Rattle.kit.proofs.Cases.{on, given}
use Rattle.kit.proofs.Loops.{fold-none, fold_more}
use Rattle.kit.proofs.Member.{too_many}
use Rattle.kit.specs.Ladder.{NoneHolds}
use Rattle.condition.specs.Slots.{slot_rows, coded_of, settled, MayHold, slot_count}
use Rattle.condition.specs.declared.slots.Coded.{Coded}
use Rattle.condition.specs.declared.slots.Slot.{Slot}
use Rattle.condition.proofs.Coding.{filled-silent, read_held, coded-back}
use Rattle.order_list.specs.Lists.{stands, order_at, order_count, listed_at}
use Rattle.places.specs.Places.{free_place, place_at, place_of, lowest_free, is_live}
use Rattle.order_list.specs.declared.Order.{Order}
use Rattle.places.specs.declared.Place.{Place}
use Rattle.order_list.proofs.Listed.{listed-there, listed_when}
use Rattle.places.proofs.Live.{live-there, live-none, live_when, free-there, free-none}
use Rattle.numbers.specs.Numbers.{next_number}
use Rattle.numbers.proofs.Permitted.{number-range, number-idle, number-rested}
use Rattle.leaving.specs.Leaving.{body_in}
use Rattle.arriving.specs.Arriving.{seated, seated_all}
use Rattle.arriving.specs.declared.Seats.{Seats}
use Rattle.arriving.proofs.Seated.{seated-live, seated-new, new_place}

-- no two places share what `of` says of them, but for 0
abbrev pub Distinct : (Place → ℕ) → List Place → Type 0
Distinct of places = (i j : ℕ) → 1 ≤ of (place_at places i) → of (place_at places i) ≡ of (place_at places j) → i ≡ j

-- what is true of a desk's places
pub record Orderly (places : List Place) : Type 0 where
  pub twenty : length places ≡ slot_count
  pub free : (i : ℕ) → (place_at places i).order ≡ 0 → place_at places i ≡ free_place
  pub numbered : (i : ℕ) → 1 ≤ (place_at places i).order → (1 ≤ (place_at places i).slot.number) × ((place_at places i).slot.number ≤ 255)
  pub apart : Distinct (λ place. place.slot.number) places
  pub single : Distinct (λ place. place.order) places
  pub held : (i : ℕ) → MayHold (place_at places i).slot

module _ {places : List Place} (o : Orderly places) where
  -- a place with an order is one of the twenty
  pub inside : (i : ℕ) → 1 ≤ (place_at places i).order → i < slot_count
  inside i p =
      on (ltb i slot_count)
      (λ e. ltb-true i slot_count e)
      (λ e. absurd (omega (arith, ap (λ (x : Place). x.order) (get_or-eq_default places free_place {n = i} (omega (arith, o.twenty, ltb-false i slot_count e))))))

  -- a place with a number has an order
  pub ordered : (i : ℕ) → 1 ≤ (place_at places i).slot.number → 1 ≤ (place_at places i).order
  ordered i p =
      on (eqb (place_at places i).order 0)
      (λ e. absurd (omega (arith, ap (λ (x : Place). x.slot.number) (o.free i (eqb-true (place_at places i).order 0 e)))))
      (λ e. omega (arith, eqb-false (place_at places i).order 0 e))

  -- an order is live in the one place that has it
  pub live_at : (i : ℕ) → 1 ≤ (place_at places i).order → place_of places (place_at places i).order ≡ i
  live_at i p =
      given (live-there places (place_at places i).order (live_when places (place_at places i).order i (inside i p) refl))
      (λ (q, e). sym (o.single i (place_of places (place_at places i).order) p (sym e)))

-- the slot that an order of an accepted list makes with a number: it is held, and has the order's type
module _ {old : List Place} {list : List ℕ} (fair : Fair old list) {j : ℕ} (inlist : j < order_count list) (number : ℕ) (positive : 0 < number) where
  abbrev pub made : Slot
  made = record { number = number; body = body_in (order_at list j) }

  abbrev pub coded : Coded
  coded = record { number = number; kind = (order_at list j).kind; first = (order_at list j).first; second = (order_at list j).second }

  silent : NoneHolds (slot_rows coded)
  silent = filled-silent coded (record { number = positive; kind = fair.typed j inlist; allowed = fair.allowed j inlist })

  pub made_held : MayHold made
  made_held = read_held coded silent

  pub made-coded : coded_of made ≡ settled coded
  made-coded = coded-back coded silent

  pub made-kind : (coded_of made).kind ≡ (order_at list j).kind
  made-kind = ap (λ (c : Coded). c.kind) made-coded

-- the lowest free place taken: that one, and every other as it was
abbrev pub taken : List Place → Place → List Place
taken places new = set places (lowest_free places) new

abbrev pub Spot : List Place → Place → ℕ → Type 0
Spot places new i = ((i ≡ lowest_free places) × (place_at (taken places new) i ≡ new)) ⊎ (place_at (taken places new) i ≡ place_at places i)

pub spot : (places : List Place) (new : Place) → lowest_free places < length places → (i : ℕ) → Spot places new i
spot places new p i =
    let at : ℕ = lowest_free places in
    on (eqb i at)
    (λ e. inl (eqb-true i at e, subst (λ k. get_or (set places at new) k free_place ≡ new) (sym (eqb-true i at e)) (get_or-set_same places at new free_place p)))
    (λ e. inr (get_or-set_other places at i new free_place (eqb-false i at e)))

-- ---- one place taken

module _ (places : List Place) (o : Orderly places) (new : Place) (named : 1 ≤ new.order) (positive : 1 ≤ new.slot.number)
    (small : new.slot.number ≤ 255) (held : MayHold new.slot) (unlive : is_live places new.order ≡ false) (room : lowest_free places < slot_count)
    (unused : (i : ℕ) → i < slot_count → (place_at places i).slot.number ≡ new.slot.number → ⊥) where
  abbrev beyond : List Place
  beyond = taken places new

  here_or_there : (i : ℕ) → Spot places new i
  here_or_there = spot places new (omega (arith, o.twenty, room))

  no_number : (i : ℕ) → (place_at places i).slot.number ≡ new.slot.number → ⊥
  no_number i e = unused i (inside o i (ordered o i (omega arith))) e

  no_order : (i : ℕ) → (place_at places i).order ≡ new.order → ⊥
  no_order i e = live-none places new.order i unlive (inside o i (omega arith)) e

  taken_free : (i : ℕ) → Spot places new i → (place_at beyond i).order ≡ 0 → place_at beyond i ≡ free_place
  taken_free i (inl (here, e)) z = absurd (omega (arith, rw e at z))
  taken_free i (inr e) z = e ∙ o.free i (rw e at z)

  taken-numbered : (i : ℕ) → Spot places new i → 1 ≤ (place_at beyond i).order → (1 ≤ (place_at beyond i).slot.number) × ((place_at beyond i).slot.number ≤ 255)
  taken-numbered i (inl (here, e)) p = rw e (positive, small)
  taken-numbered i (inr e) p = rw e (o.numbered i (rw e at p))

  taken-distinct : (of : Place → ℕ) → Distinct of places → ((i : ℕ) → of (place_at places i) ≡ of new → ⊥) → (i j : ℕ) → Spot places new i → Spot places new j
      → 1 ≤ of (place_at beyond i) → of (place_at beyond i) ≡ of (place_at beyond j) → i ≡ j
  taken-distinct of distinct none i j (inl (a, d)) (inl (b, e)) p q = a ∙ sym b
  taken-distinct of distinct none i j (inl (a, d)) (inr e) p q = absurd (none j (sym (rw (d, e) at q)))
  taken-distinct of distinct none i j (inr d) (inl (b, e)) p q = absurd (none i (rw (d, e) at q))
  taken-distinct of distinct none i j (inr d) (inr e) p q = distinct i j (rw d at p) (rw (d, e) at q)

  taken-held : (i : ℕ) → Spot places new i → MayHold (place_at beyond i).slot
  taken-held i (inl (here, e)) = rw e held
  taken-held i (inr e) = rw e (o.held i)

  pub taken-orderly : Orderly beyond
  taken-orderly =
      record {
        twenty = length-set places (lowest_free places) new ∙ o.twenty;
        free = λ i. taken_free i (here_or_there i);
        numbered = λ i. taken-numbered i (here_or_there i);
        apart = λ i j. taken-distinct (λ place. place.slot.number) o.apart no_number i j (here_or_there i) (here_or_there j);
        single = λ i j. taken-distinct (λ place. place.order) o.single no_order i j (here_or_there i) (here_or_there j);
        held = λ i. taken-held i (here_or_there i);
      }

-- ---- all orders of a list placed

-- D-08: an order that is not live finds a free slot
abbrev pub Room : Order → Seats → Type 0
Room order seats = is_live seats.places order.number ≡ false → lowest_free seats.places < slot_count

-- D-08: each of the first n orders does, when its turn comes
abbrev pub RoomForAll : (ℕ → Bool) → List ℕ → Seats → ℕ → Type 0
RoomForAll resting list seats n = (j : ℕ) → j < n → Room (order_at list j) (seated_all resting list seats j)

-- what a place is that a new order has taken
pub record New (resting : ℕ → Bool) (list : List ℕ) (start : List Place) (i : ℕ) (place : Place) : Type 0 where
  pub was : place_at start i ≡ free_place
  pub entry : ℕ
  pub inlist : entry < order_count list
  pub order : place.order ≡ (order_at list entry).number
  pub body : place.slot.body ≡ body_in (order_at list entry)
  pub positive : 1 ≤ place.slot.number
  pub rested : resting place.slot.number ≡ false
  pub unused : (j : ℕ) → (place_at start j).slot.number ≡ place.slot.number → ⊥

module _ (resting : ℕ → Bool) (kept : List ℕ) (covered : (n : ℕ) → resting n ≡ true → member n kept ≡ true) (few : length kept ≤ 220)
    {old : List Place} (list : List ℕ) (fair : Fair old list)
    (start : List Place) (ready : Orderly start) (listed : (i : ℕ) → 1 ≤ (place_at start i).order → stands list (place_at start i).order ≡ true) where
  abbrev Grown : List Place → ℕ → Type 0
  Grown places i = (place_at places i ≡ place_at start i) ⊎ New resting list start i (place_at places i)

  -- what is true after the first j orders
  pub record After (seats : Seats) (j : ℕ) : Type 0 where
    pub orderly : Orderly seats.places
    pub grown : (i : ℕ) → Grown seats.places i
    pub live : (k : ℕ) → k < j → is_live seats.places (order_at list k).number ≡ true

  module _ (seats : Seats) (j : ℕ) (a : After seats j) (p : j < order_count list) where
    abbrev order : Order
    order = order_at list j

    -- every live order is in the list
    still-listed : (i : ℕ) → Grown seats.places i → 1 ≤ (place_at seats.places i).order → stands list (place_at seats.places i).order ≡ true
    still-listed i (inl e) q = rw e (listed i (rw e at q))
    still-listed i (inr n) q = listed_when list (order_count list) (place_at seats.places i).order n.entry n.inlist (sym n.order)

    -- where no place is free, twenty orders and this one stand in a list of twenty
    module _ (unlive : is_live seats.places order.number ≡ false) where
      crowd : ℕ → ℕ
      crowd i = cond (ltb i slot_count) (place_at seats.places i).order order.number

      crowd-listed : slot_count ≤ lowest_free seats.places → (i : ℕ) → stands list (crowd i) ≡ true
      unfolding crowd
      crowd-listed none i =
          on (ltb i slot_count)
          (λ e. rw e (still-listed i (a.grown i) (free-none seats.places none i (ltb-true i slot_count e))))
          (λ e. rw e (listed_when list (order_count list) order.number j p refl))

      crowd-single : slot_count ≤ lowest_free seats.places → (i k : ℕ) → i < 21 → k < 21 → crowd i ≡ crowd k → i ≡ k
      unfolding crowd
      crowd-single none i k q r same =
          on (ltb i slot_count)
          (λ e.
          on (ltb k slot_count)
          (λ f. a.orderly.single i k (free-none seats.places none i (ltb-true i slot_count e)) (rw (e, f) at same))
          (λ f. absurd (live-none seats.places order.number i unlive (ltb-true i slot_count e) (rw (e, f) at same))))
          (λ e.
          on (ltb k slot_count)
          (λ f. absurd (live-none seats.places order.number k unlive (ltb-true k slot_count f) (sym (rw (e, f) at same))))
          (λ f. omega (arith, ltb-false i slot_count e, ltb-false k slot_count f)))

      -- D-08: so a new order finds a free slot
      pub room : lowest_free seats.places < slot_count
      room =
          on (ltb (lowest_free seats.places) slot_count)
          (λ e. ltb-true (lowest_free seats.places) slot_count e)
          (λ e.
          let none : slot_count ≤ lowest_free seats.places = ltb-false (lowest_free seats.places) slot_count e in
          absurd
          (too_many (λ i. listed_at list (order_count list) (crowd i)) 21 (order_count list)
          (λ i k q r same.
          crowd-single none i k q r
          (sym (listed-there list (order_count list) (crowd i) (crowd-listed none i)).1
          ∙ (ap (λ m. (order_at list m).number) same ∙ (listed-there list (order_count list) (crowd k) (crowd-listed none k)).1)))
          (λ i q. (listed-there list (order_count list) (crowd i) (crowd-listed none i)).0)
          (omega (arith, fair.short))))

    -- ---- the turn of order j

    module _ (unlive : is_live seats.places order.number ≡ false) where
      abbrev number : ℕ
      number = next_number resting seats.places seats.last

      range : (1 ≤ number) × (number ≤ 255)
      range = number-range resting kept covered few seats.places a.orderly.twenty seats.last

      idle : (i : ℕ) → i < slot_count → (place_at seats.places i).slot.number ≡ number → ⊥
      idle = number-idle resting kept covered few seats.places a.orderly.twenty seats.last

      -- what stood in a place at the start stands there still
      idle-start : (i : ℕ) → Grown seats.places i → (place_at start i).slot.number ≡ number → ⊥
      idle-start i (inl e) q = idle i (inside a.orderly i (ordered a.orderly i (rw e (omega (arith, range.0))))) (rw e q)
      idle-start i (inr n) q = omega (arith, range.0, ap (λ (x : Place). x.slot.number) n.was)

      was-start : (i : ℕ) → Grown seats.places i → (place_at seats.places i).order ≡ 0 → place_at start i ≡ free_place
      was-start i (inl e) q = sym e ∙ a.orderly.free i q
      was-start i (inr n) q = n.was

      abbrev new : Place
      new = new_place resting order seats

      abbrev next : Seats
      next = record { places = taken seats.places new; last = number }

      next-spot : (i : ℕ) → Spot seats.places new i
      next-spot = spot seats.places new (omega (arith, a.orderly.twenty, room unlive))

      next-orderly : Orderly next.places
      next-orderly = taken-orderly seats.places a.orderly new (fair.named j p) range.0 range.1 (made_held fair p number range.0) unlive (room unlive) idle

      next-grown : (i : ℕ) → Spot seats.places new i → Grown seats.places i → Grown next.places i
      next-grown i (inl (here, e)) g =
          inr
          (subst (λ (x : Place). New resting list start i x) (sym e)
          (record {
            was = was-start i g (ap (λ k. (place_at seats.places k).order) here ∙ free-there seats.places (room unlive));
            entry = j;
            inlist = p;
            order = refl;
            body = refl;
            positive = range.0;
            rested = number-rested resting kept covered few seats.places a.orderly.twenty seats.last;
            unused = λ k. idle-start k (a.grown k);
          }))
      next-grown i (inr e) (inl g) = inl (e ∙ g)
      next-grown i (inr e) (inr n) = inr (subst (λ (x : Place). New resting list start i x) (sym e) n)

      next-live : (k : ℕ) → k < j + 1 → is_live next.places (order_at list k).number ≡ true
      next-live k q =
          on (eqb k j)
          (λ e.
          live_when next.places (order_at list k).number (lowest_free seats.places) (room unlive)
          (ap (λ (x : Place). x.order) (get_or-set_same seats.places (lowest_free seats.places) new free_place (omega (arith, room unlive, a.orderly.twenty)))
          ∙ ap (λ m. (order_at list m).number) (sym (eqb-true k j e))))
          (λ e.
          given (live-there seats.places (order_at list k).number (a.live k (omega (arith, eqb-false k j e))))
          (λ (small, same).
          live_when next.places (order_at list k).number (place_of seats.places (order_at list k).number) small
          (kept-order k (place_of seats.places (order_at list k).number) same (next-spot (place_of seats.places (order_at list k).number))
          (fair.named k (omega (arith, eqb-false k j e))))))
        where
          kept-order : (k i : ℕ) → (place_at seats.places i).order ≡ (order_at list k).number → Spot seats.places new i
              → 1 ≤ (order_at list k).number → (place_at next.places i).order ≡ (order_at list k).number
          kept-order k i same (inl (here, e)) named = absurd (omega (arith, ap (λ m. (place_at seats.places m).order) here ∙ free-there seats.places (room unlive)))
          kept-order k i same (inr e) named = rw e same

      next-after : After next (j + 1)
      next-after = record { orderly = next-orderly; grown = λ i. next-grown i (next-spot i) (a.grown i); live = next-live }

    pub turned : After (seated resting order seats) (j + 1)
    turned =
        on (is_live seats.places order.number)
        (λ e.
        subst (λ (s : Seats). After s (j + 1)) (sym (seated-live resting order seats e))
        (record {
          orderly = a.orderly;
          grown = a.grown;
          live = λ k q.
              on (eqb k j)
              (λ same. subst (λ m. is_live seats.places (order_at list m).number ≡ true) (sym (eqb-true k j same)) e)
              (λ other. a.live k (omega (arith, eqb-false k j other)));
        }))
        (λ e. subst (λ (s : Seats). After s (j + 1)) (sym (seated-new resting order seats e)) (next-after e))

  -- ---- all of them

  module _ (last : ℕ) where
    abbrev first : Seats
    first = record { places = start; last = last }

    pub after : (j : ℕ) → j ≤ order_count list → After (seated_all resting list first j) j
    unfolding seated_all
    after zero p =
        subst (λ (s : Seats). After s 0) (sym (fold-none (λ k. seated resting (order_at list k)) first))
        (record { orderly = ready; grown = λ i. inl refl; live = λ k q. absurd (omega arith) })
    after (suc j) p =
        let e : suc j ≡ j + 1 = omega arith in
        subst (λ m. After (fold (λ k. seated resting (order_at list k)) first m) m) (sym e)
        (subst (λ (s : Seats). After s (j + 1)) (sym (fold_more (λ k. seated resting (order_at list k)) first j))
        (turned (fold (λ k. seated resting (order_at list k)) first j) j (after j (omega arith)) (omega arith)))

    pub room_for_all : RoomForAll resting list first (order_count list)
    room_for_all j p unlive = room (seated_all resting list first j) j (after j (omega arith)) p unlive
