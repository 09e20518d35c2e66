-- What becomes of the places in a step whose list is accepted: no free place has an order in the list.
use Prim.Native.Nat.{ℕ}
use mathlib.Core.Path.{◌≡◌, subst}
use mathlib.Core.Bool.{false}
use mathlib.Core.List.{List, map}
use lib.ListN.{get_or, get_or-map}
use native.Mathlib.Omega.{arith}
use Rattle.orders.specs.Orders.{Fair}
use Rattle.kit.proofs.Cases.{on, given}
use Rattle.order_list.specs.Lists.{order_count, listed_at}
use Rattle.places.specs.Places.{free_place, place_at}
use Rattle.places.specs.declared.Place.{Place}
use Rattle.order_list.proofs.Listed.{listed-there}
use Rattle.desk.specs.Steps.{stays, kept_place}
use Rattle.leaving.proofs.Left.{kept-ends}

-- a list that is accepted has no order 0, so a free place has no order in it
pub free-absent : {old : List Place} {list : List ℕ} → Fair old list → stays list free_place ≡ false
free-absent {old} {list} f =
    on (stays list free_place)
    (λ e. given (listed-there list (order_count list) 0 e) (λ (p, q). absurd (omega (arith, f.named (listed_at list (order_count list) 0) p))))
    (λ e. e)

pub kept_at : {old : List Place} {list : List ℕ} → Fair old list → (places : List Place) (i : ℕ)
    → place_at (map (kept_place list) places) i ≡ kept_place list (place_at places i)
kept_at {old} {list} f places i =
    subst (λ d. get_or (map (kept_place list) places) i d ≡ kept_place list (place_at places i)) (kept-ends list (order_count list) free_place (free-absent f))
    (get_or-map (kept_place list) places i free_place)
