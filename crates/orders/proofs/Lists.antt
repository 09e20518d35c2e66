-- What an accepted list of orders is.
use Prim.Native.Nat.{ℕ, ◌%◌, ◌<◌, ◌≤◌}
use mathlib.Core.Path.{◌≡◌, refl, sym}
use mathlib.Core.Bool.{true}
use mathlib.Core.List.{List}
use lib.Dec.{ltb}
use lib.ListN.{length}
use native.Mathlib.Omega.{arith}
use borrow.Author.Tests.{eqb-true, eqb-false, ltb-true, ltb-false, not-false}
use Rattle.kit.specs.Ladder.{NoneHolds}
use Rattle.kit.proofs.Cases.{on, given, and_second}
use Rattle.condition.specs.Slots.{coded_of}
use Rattle.kit.proofs.Ladder.{silent-each}
use Rattle.order_list.specs.Lists.{order_at, order_count, listed_at}
use Rattle.places.specs.Places.{place_at, place_of, is_live}
use Rattle.orders.specs.Orders.{is_retyped, order_rows, list_rows, list_refusal, Fair}
use Rattle.places.specs.declared.Place.{Place}
use Rattle.order_list.proofs.Listed.{listed-there, listed-none, listed_when}
use Rattle.orders.proofs.Rows.{list-accepted}

module _ (places : List Place) (list : List ℕ) where
  silent-length : NoneHolds (list_rows places list) → (length list % 10 ≡ 0) × (length list ≤ 200)
  unfolding list_rows
  silent-length s = (eqb-true _ 0 (not-false _ s.0), ltb-false 200 (length list) s.1.0)

  silent-order : NoneHolds (list_rows places list) → (j : ℕ) → j < order_count list → NoneHolds (order_rows places list j)
  unfolding list_rows
  silent-order s j p = silent-each (order_rows places list) 0 (order_count list) s.1.1 j (omega arith) (omega arith)

  pub fair : list_refusal places list ≡ 0 → Fair places list
  unfolding order_rows
  fair e =
      given ((list-accepted places list).0 e)
      (λ s.
      record {
        whole = (silent-length s).0;
        short = omega (arith, (silent-length s).1);
        named = λ j p. omega (arith, eqb-false (order_at list j).number 0 (silent-order s j p).0);
        typed = λ j p. not-false _ (silent-order s j p).1.0;
        plain = λ j p. eqb-true _ 0 (not-false _ (silent-order s j p).1.1.0);
        allowed = λ j p. not-false _ (silent-order s j p).1.1.1.0;
        distinct = λ i j p q same. listed-none list j (order_at list j).number i (silent-order s j q).1.1.1.1.0 p same;
        same_type = λ j p. (silent-order s j p).1.1.1.1.1.0;
      })

  pub fair-length : list_refusal places list ≡ 0 → length list ≤ 200
  fair-length e = (silent-length ((list-accepted places list).0 e)).1

  -- R-08: an order of a fair list that is live has the type that it had
  pub type_kept : (j : ℕ) → Fair places list → j < order_count list → is_live places (order_at list j).number ≡ true
      → (coded_of (place_at places (place_of places (order_at list j).number)).slot).kind ≡ (order_at list j).kind
  unfolding is_retyped
  type_kept j f p live = eqb-true _ (order_at list j).kind (not-false _ (and_second (is_live places (order_at list j).number) _ (f.same_type j p) live))

  -- the numbers of a fair list are distinct, so the search of one finds its own order
  pub listed_self : (j : ℕ) → Fair places list → j < order_count list → listed_at list (order_count list) (order_at list j).number ≡ j
  listed_self j f p =
      let o : ℕ = (order_at list j).number in
      let at : ℕ = listed_at list (order_count list) o in
      given (listed-there list (order_count list) o (listed_when list (order_count list) o j p refl))
      (λ (below, same).
      on (ltb at j)
      (λ before. absurd (f.distinct at j (ltb-true at j before) p same))
      (λ past.
      on (ltb j at)
      (λ after. absurd (f.distinct j at (ltb-true j at after) below (sym same)))
      (λ here. omega (arith, ltb-false at j past, ltb-false j at here))))
