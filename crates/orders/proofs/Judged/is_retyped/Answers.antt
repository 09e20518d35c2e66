-- `Judged::is_retyped`: the type of the order's place, where it has one.
use Prim.Native.Nat.{ℕ, ◌<◌, ◌≤◌}
use mathlib.Core.Path.{◌≡◌, refl, sym, ap, ◌∙◌}
use mathlib.Core.Bool.{false, not}
use mathlib.Core.List.{List}
use lib.Dec.{eqb}
use lib.ListN.{length, get_or}
use native.Mathlib.Omega.{arith}
use borrow.Author.Tests.{lt-ltb, le-ltb}
use Rattle.kit.proofs.Maps.{map_at}
use Rattle.condition.specs.Slots.{coded_of, slot_count}
use Rattle.std.proofs.Common.{Some, None}
use Rattle.order_list.specs.Lists.{index_below, found_at}
use Rattle.order_list.proofs.Searched.{some-below, none-below}
use Rattle.order_list.specs.declared.Order.{Order}
use Rattle.places.specs.Places.{free_place, orders_of, place_of}
use Rattle.places.specs.declared.Place.{Place}
use Rattle.places.proofs.Live.{found-live}
use Rattle.orders.specs.Orders.{types_of, is_retyped}
use Rattle.orders.proofs.Judged.is_retyped.Goals as goal

-- by the orders and the types of the places
module _ (live types : List ℕ) (order : Order) (places : List Place)
    (twenty : length places ≡ slot_count) (e : live ≡ orders_of places) (f : types ≡ types_of places) where
  placed : found_at live order.number ≡ place_of places order.number
  placed = ap (λ (l : List ℕ). found_at l order.number) e ∙ found-live places order.number twenty

  typed : (at : ℕ) → at < slot_count → get_or types at 0 ≡ (coded_of (get_or places at free_place).slot).kind
  typed at p = ap (λ (l : List ℕ). get_or l at 0) f ∙ map_at (λ (place : Place). (coded_of place.slot).kind) places at free_place 0 (omega (arith, twenty))

  judged : (at : ℕ) → Some at ≡ index_below 20 (found_at live order.number) → not (eqb (get_or types at 0) order.kind) ≡ is_retyped places order
  unfolding is_retyped
  judged at found =
      let g = some-below 20 (found_at live order.number) at found in
      let p : at < slot_count = omega (arith, g.0, g.1) in
      let here : place_of places order.number ≡ at = sym (g.0 ∙ placed) in
      rw (here, lt-ltb at slot_count p, typed at p) refl

  unplaced : None ≡ index_below 20 (found_at live order.number) → false ≡ is_retyped places order
  unfolding is_retyped
  unplaced none =
      let p : 20 ≤ found_at live order.number = none-below 20 (found_at live order.number) none in
      rw (← placed, le-ltb (found_at live order.number) slot_count p) refl

pub returns-in-Some : goal.returns-in-Some
returns-in-Some c places twenty e f =
    let a = c.args in
    judged a.self.now.live a.self.now.types a.order places twenty e f _ c.in-Some.ensures

pub returns-in-None : goal.returns-in-None
returns-in-None c places twenty e f =
    let a = c.args in
    unplaced a.self.now.live a.self.now.types a.order places twenty e f c.in-None.ensures
