-- `orders_refusal`: the loop leaves at the first order whose ladder answers.
use mathlib.Core.Path.{◌≡◌, sym, ◌∙◌}
use lib.ListN.{length}
use native.Mathlib.Nat.{sub-zero}
use native.Mathlib.Omega.{arith}
use borrow.Author.Rules.{rules}
use Rattle.wire.proofs.Results.{exit_number, number_nonzero}
use Rattle.kit.proofs.Ladder.{ladder-each}
use Rattle.kit.proofs.Loops.{first-go, first_hit, scan-end}
use Rattle.condition.specs.Slots.{slot_count}
use Rattle.order_list.specs.Lists.{order_count}
use Rattle.orders.specs.Orders.{order_rows}
use Rattle.orders.proofs.Rows.{order-numbered}
use Rattle.orders.proofs.orders_refusal.Invariants.{judged}
use Rattle.orders.proofs.orders_refusal.Goals as goal

pub loop-j-init : goal.loop-j-init
loop-j-init c =
    let a = c.args in
    (omega arith, ladder-each (order_rows a.places a.list.now) (order-numbered a.places a.list.now) 0 (order_count a.list.now) ∙ simp sub-zero)

pub returns-in_err-refusal : goal.returns-in_err-refusal
returns-in_err-refusal c =
    let l = c.loop-j in
    let a = c.args in
    let twenty : length a.places ≡ slot_count = search rules in
    let e = c.in_err-refusal.ensures a.places twenty c.orders_of.ensures c.types_of.ensures in
    exit_number c.from_residual.result _ c.from_residual.ensures.1
    ∙ (e ∙ sym (l.invariant.1 ∙ first_hit (judged a.places a.list.now) (order_count a.list.now) l.j (search rules) (number_nonzero _ _ e)))

pub loop-j-preserved : goal.loop-j-preserved
loop-j-preserved c =
    let l = c.loop-j in
    let a = c.args in
    let twenty : length a.places ≡ slot_count = search rules in
    let e = c.in_ok-refusal.ensures a.places twenty c.orders_of.ensures c.types_of.ensures in
    (search rules, l.invariant.1 ∙ first-go (judged a.places a.list.now) (order_count a.list.now) l.j (search rules) (sym e))

pub returns : goal.returns
returns c =
    let l = c.loop-j in
    let a = c.args in
    sym (l.invariant.1 ∙ scan-end _ _ _ (order_count a.list.now) l.j (search rules))
