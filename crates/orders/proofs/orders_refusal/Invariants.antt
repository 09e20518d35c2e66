-- `orders_refusal`: the loop leaves at the first order whose ladder answers.
use Prim.Native.Nat.{ℕ, ◌-◌, ◌≤◌}
use mathlib.Core.Path.{◌≡◌}
use mathlib.Core.List.{List}
use Rattle.kit.specs.Each.{each}
use Rattle.kit.specs.Ladder.{ladder}
use Rattle.kit.specs.Loops.{first_nonzero}
use Rattle.order_list.specs.Lists.{order_count}
use Rattle.orders.specs.Orders.{order_rows}
use Rattle.places.specs.declared.Place.{Place}
use Rattle.orders.proofs.orders_refusal.Given as goal

abbrev pub judged : List Place → List ℕ → ℕ → ℕ
judged places list j = ladder 0 (order_rows places list j)

-- what is left to judge from order j on
abbrev pub invariant-loop-j : goal.invariant-loop-j
invariant-loop-j l =
    (l.j ≤ order_count l.list) × (ladder 0 (each (order_rows l.fn.places l.list) 0 (order_count l.list)) ≡ first_nonzero (judged l.fn.places l.list) l.j (order_count l.list - l.j))
