-- `seat_all`: the loop is the fold, order by order; an order that is live changes nothing, so those are passed over.
use Prim.Native.Nat.{ℕ, ◌+◌}
use mathlib.Core.Bool.{Bool, true, false}
use mathlib.Core.List.{List}
use mathlib.Core.Path.{◌≡◌, sym, ap, ◌∙◌}
use native.Mathlib.Omega.{arith}
use lib.ListN.{length, length-set}
use borrow.Author.Rules.{rules}
use borrow.Author.Tests.{lt-ltb, le-ltb, ltb-true, ltb-false}
use Rattle.std.specs.Prelude.{Option}
use Rattle.std.specs.Option.{is_some}
use lib.Dec.{ltb}
use Rattle.kit.proofs.Cases.{on, clash}
use Rattle.kit.proofs.Loops.{fold-none, fold-turn}
use Rattle.condition.specs.Slots.{slot_count}
use Rattle.order_list.specs.Lists.{index_below, order_at, found_at}
use Rattle.order_list.specs.declared.Order.{Order}
use Rattle.order_list.proofs.Searched.{below-some, below-none}
use Rattle.places.specs.Places.{orders_of, place_of, is_live}
use Rattle.places.specs.declared.Place.{Place}
use Rattle.places.proofs.Live.{found-live}
use Rattle.resting.specs.Rests.{rests_in}
use Rattle.arriving.specs.Arriving.{seated, seated_all}
use Rattle.arriving.specs.declared.Seats.{Seats}
use Rattle.arriving.proofs.Seated.{seated-live, seated-new}
use Rattle.arriving.proofs.seat_all.Goals as goal
use Rattle.arriving.proofs.seat_all.Goals.{then-is_none, else-is_none}

begun : (resting : ℕ → Bool) (list : List ℕ) (first : Seats) → first ≡ seated_all resting list first 0
unfolding seated_all
begun resting list first = sym (fold-none _ _)

turn : (resting : ℕ → Bool) (list : List ℕ) (first : Seats) (j : ℕ) (order : Order) (seats next : Seats) → order ≡ order_at list j
    → seats ≡ seated_all resting list first j → next ≡ seated resting order seats → next ≡ seated_all resting list first (j + 1)
unfolding seated_all
turn resting list first j order seats next e f g = fold-turn (λ i. seated resting (order_at list i)) first seats next j f (rw e at g)

-- the places stay as many
still : (resting : ℕ → Bool) (order : Order) (seats next : Seats) → next ≡ seated resting order seats → is_live seats.places order.number ≡ false
    → length seats.places ≡ slot_count → length next.places ≡ slot_count
still resting order seats next e new twenty =
    ap (λ (s : Seats). length s.places) (e ∙ seated-new resting order seats new) ∙ (length-set seats.places _ _ ∙ twenty)

-- what the search among the orders of the places tells of an order
module _ (places : List Place) (live : List ℕ) (o : ℕ) (answer : Option ℕ) (e : live ≡ orders_of places) (twenty : length places ≡ slot_count)
    (found : answer ≡ index_below 20 (found_at live o)) where
  there : found_at live o ≡ place_of places o
  there = ap (λ (l : List ℕ). found_at l o) e ∙ found-live places o twenty

  new : is_some answer ≡ false → is_live places o ≡ false
  new none =
      on (ltb (found_at live o) 20)
      (λ t. absurd (clash (ap is_some (found ∙ below-some 20 (found_at live o) (ltb-true (found_at live o) 20 t))) none))
      (λ t. le-ltb (place_of places o) slot_count (omega (arith, there, ltb-false (found_at live o) 20 t)))

  old : is_some answer ≡ true → is_live places o ≡ true
  old some =
      on (ltb (found_at live o) 20)
      (λ t. lt-ltb (place_of places o) slot_count (omega (arith, there, ltb-true (found_at live o) 20 t)))
      (λ t. absurd (clash some (ap is_some (found ∙ below-none 20 (found_at live o) (ltb-false (found_at live o) 20 t)))))

pub loop-j-init : goal.loop-j-init
loop-j-init c = record { seats = begun _ _ _; live = c.orders_of-live.ensures; twenty = search rules }

pub seat-seats-requires : goal.seat-seats-requires
seat-seats-requires c = new c.loop-j.seats.places c.loop-j.live _ _ c.loop-j.invariant.live c.loop-j.invariant.twenty c.found_at.ensures c.if-is_none.ensures

pub loop-j-preserved : goal.loop-j-preserved
loop-j-preserved c =
    let l = c.loop-j in
    let a = c.args in
    let resting = rests_in a.at_rest in
    let first : Seats = a.first in
    elim c.if-is_none.branch [
      | then-is_none w ↦
          let fresh =
          new l.seats.places l.live c.order_at-order.result.number c.found_at.result l.invariant.live l.invariant.twenty c.found_at.ensures w.if-is_none.ensures
          in record {
            seats = w.seats-is ∙ turn resting a.list.now first l.j _ _ _ c.order_at-order.ensures l.invariant.seats w.seat-seats.ensures;
            live = w.live-is ∙ (w.orders_of-live-then-is_none.ensures ∙ ap (λ (s : Seats). orders_of s.places) (sym w.seats-is));
            twenty =
                ap (λ (s : Seats). length s.places) w.seats-is
                ∙ still resting c.order_at-order.result l.seats w.seat-seats.result w.seat-seats.ensures fresh l.invariant.twenty;
          }
      | else-is_none w ↦
          let known =
          old l.seats.places l.live c.order_at-order.result.number c.found_at.result l.invariant.live l.invariant.twenty c.found_at.ensures w.if-is_none.ensures
          in record {
            seats =
                w.seats-is
                ∙ turn resting a.list.now first l.j _ l.seats _ c.order_at-order.ensures l.invariant.seats
                (sym (seated-live resting c.order_at-order.result l.seats known));
            live = w.live-is ∙ (l.invariant.live ∙ ap (λ (s : Seats). orders_of s.places) (sym w.seats-is));
            twenty = ap (λ (s : Seats). length s.places) w.seats-is ∙ l.invariant.twenty;
          }
    ]
