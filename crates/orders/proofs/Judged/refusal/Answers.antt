-- `Judged::refusal`: each answer by the tests that led to it, row by row of the ladder.
use Prim.Native.Nat.{ℕ}
use mathlib.Core.Path.{◌≡◌, sym, ◌∙◌}
use mathlib.Core.Bool.{Bool, true, cond, not}
use mathlib.Core.List.{List}
use borrow.Author.Tests.{eq-eqb, ne_eqb}
use Rattle.kit.specs.Ladder.{ladder}
use Rattle.order_list.specs.Lists.{is_listed, order_at}
use Rattle.order_list.specs.declared.Order.{Order}
use Rattle.kinds.specs.Words.{is_type, second_allowed}
use Rattle.places.specs.declared.Place.{Place}
use Rattle.orders.specs.Orders.{is_retyped, order_rows}
use Rattle.orders.proofs.Judged.refusal.Goals as goal

-- past row 5: the rows that are left
passed : (places : List Place) (list : List ℕ) (j : ℕ) (x : Order) (allowed : Bool)
    → x ≡ order_at list j → (x.number ≡ 0 → ⊥) → is_type x.kind ≡ true → x.spare ≡ 0 → allowed ≡ second_allowed x.kind x.first x.second
    → ladder 0 (order_rows places list j) ≡ cond (not allowed) 6 (cond (is_listed list j x.number) 7 (cond (is_retyped places x) 8 0))
unfolding ladder order_rows
passed places list j x allowed e n k s a = simp (sym e, ne_eqb _ _ n, k, eq-eqb _ _ s, sym a)

pub returns-then-order-eq0 : goal.returns-then-order-eq0
unfolding ladder order_rows
returns-then-order-eq0 c places twenty e f = simp (sym c.order_at-order.ensures, eq-eqb _ _ c.if-order-eq0.true)

pub returns-then-not-is_kind : goal.returns-then-not-is_kind
unfolding ladder order_rows
returns-then-not-is_kind c places twenty e f =
    simp (
      sym c.order_at-order.ensures,
      ne_eqb _ _ c.if-order-eq0.false,
      sym c.is_kind.ensures ∙ c.if-not-is_kind.true,
    )

pub returns-then-order-ne0 : goal.returns-then-order-ne0
unfolding ladder order_rows
returns-then-order-ne0 c places twenty e f =
    simp (
      sym c.order_at-order.ensures,
      ne_eqb _ _ c.if-order-eq0.false,
      sym c.is_kind.ensures ∙ c.if-not-is_kind.false,
      ne_eqb _ _ c.if-order-ne0.true,
    )

pub returns-then-not-second_allowed : goal.returns-then-not-second_allowed
returns-then-not-second_allowed c places twenty e f = sym (passed places c.args.self.now.list.now c.args.j c.order_at-order.result c.second_allowed.result c.order_at-order.ensures c.if-order-eq0.false (sym c.is_kind.ensures ∙ c.if-not-is_kind.false) c.if-order-ne0.false c.second_allowed.ensures ∙ simp c.if-not-second_allowed.true)

pub returns-then-is_earlier : goal.returns-then-is_earlier
returns-then-is_earlier c places twenty e f = sym (passed places c.args.self.now.list.now c.args.j c.order_at-order.result c.second_allowed.result c.order_at-order.ensures c.if-order-eq0.false (sym c.is_kind.ensures ∙ c.if-not-is_kind.false) c.if-order-ne0.false c.second_allowed.ensures ∙ simp (c.if-not-second_allowed.false, sym c.is_earlier.ensures ∙ c.if-is_earlier.true))

pub returns-then-is_retyped : goal.returns-then-is_retyped
returns-then-is_retyped c places twenty e f =
    sym (passed places c.args.self.now.list.now c.args.j c.order_at-order.result c.second_allowed.result c.order_at-order.ensures c.if-order-eq0.false (sym c.is_kind.ensures ∙ c.if-not-is_kind.false) c.if-order-ne0.false c.second_allowed.ensures ∙ simp (c.if-not-second_allowed.false, sym c.is_earlier.ensures ∙ c.if-is_earlier.false, sym (c.is_retyped.ensures places twenty e f) ∙ c.if-is_retyped.true))

pub returns : goal.returns
returns c places twenty e f =
    sym (passed places c.args.self.now.list.now c.args.j c.order_at-order.result c.second_allowed.result c.order_at-order.ensures c.if-order-eq0.false (sym c.is_kind.ensures ∙ c.if-not-is_kind.false) c.if-order-ne0.false c.second_allowed.ensures ∙ simp (c.if-not-second_allowed.false, sym c.is_earlier.ensures ∙ c.if-is_earlier.false, sym (c.is_retyped.ensures places twenty e f) ∙ c.if-is_retyped.false))
