-- The ladders of a list of orders: their answers are numbers of document 01, and the law of the list in both directions (R-23).
use Prim.Native.Nat.{ℕ, ◌≤◌}
use mathlib.Core.Path.{◌≡◌}
use mathlib.Core.Logic.{◌↔◌}
use mathlib.Core.List.{List}
use native.Mathlib.Omega.{arith}
use Rattle.kit.specs.Ladder.{NoneHolds, Numbers, Numbered}
use Rattle.kit.proofs.Ladder.{numbers-each, ladder_such, numbered-each, passed-exactly}
use Rattle.order_list.specs.Lists.{order_count}
use Rattle.orders.specs.Orders.{order_rows, list_rows, list_refusal}
use Rattle.places.specs.declared.Place.{Place}

-- every answer of these ladders is a number of document 01, and so not 0
pub order-numbered : (places : List Place) (list : List ℕ) (j : ℕ) → Numbered (order_rows places list j)
unfolding order_rows
order-numbered places list j = omega arith

pub list-numbered : (places : List Place) (list : List ℕ) → Numbered (list_rows places list)
unfolding list_rows
list-numbered places list = (omega arith, (omega arith, numbered-each (order_rows places list) (order-numbered places list) 0 (order_count list)))

-- and none above those of document 01's table
order-rows : (places : List Place) (list : List ℕ) (j : ℕ) → Numbers (λ number. number ≤ 17) (order_rows places list j)
unfolding order_rows
order-rows places list j = omega arith

most-rows : (places : List Place) (list : List ℕ) → Numbers (λ number. number ≤ 17) (list_rows places list)
unfolding list_rows
most-rows places list = (omega arith, (omega arith, numbers-each (λ number. number ≤ 17) (order_rows places list) (order-rows places list) 0 (order_count list)))

pub list-most : (places : List Place) (list : List ℕ) → list_refusal places list ≤ 17
list-most places list = ladder_such (λ number. number ≤ 17) (list_rows places list) (most-rows places list) (omega arith)

pub list-accepted : (places : List Place) (list : List ℕ) → (list_refusal places list ≡ 0) ↔ NoneHolds (list_rows places list)
list-accepted places list = passed-exactly (list_rows places list) (list-numbered places list)
