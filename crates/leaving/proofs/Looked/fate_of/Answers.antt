-- `Looked::fate_of`: whether the search found the order in the list, and then what stands there; an order that is not there has ended, and a free
-- place has none that could end.
use mathlib.Core.Bool.{true, false}
use mathlib.Core.Path.{◌≡◌, sym, ◌∙◌}
use native.Mathlib.Omega.{arith}
use borrow.Author.Tests.{eq-eqb, lt-ltb, le-ltb}
use Rattle.order_list.proofs.Searched.{some-below, none-below}
use Rattle.leaving.specs.Leaving.{stays_among, ended_entry}
use Rattle.leaving.proofs.Left.{kept-stays, kept-ends, entry-stays, entry-ends}
use Rattle.leaving.proofs.Looked.fate_of.Goals as goal

pub returns-in-Some : goal.returns-in-Some
returns-in-Some c =
    let a = c.args in
    let (same, p) = some-below _ _ _ c.in-Some.ensures in
    let stays : stays_among a.self.now.list.now a.self.now.n a.place ≡ true = lt-ltb _ _ p in (
      rw (c.body_of.ensures, c.order_at-order.ensures, same) (sym (kept-stays a.self.now.list.now a.self.now.n a.place stays)),
      c.none.ensures ∙ sym (entry-stays a.self.now.list.now a.self.now.n a.place a.step stays),
    )

pub returns-then-place-eq0 : goal.returns-then-place-eq0
unfolding ended_entry
returns-then-place-eq0 c =
    let a = c.args in
    let ends : stays_among a.self.now.list.now a.self.now.n a.place ≡ false = le-ltb _ _ (none-below _ _ c.in_default.ensures) in (
      c.free.ensures ∙ sym (kept-ends a.self.now.list.now a.self.now.n a.place ends),
      simp (eq-eqb _ _ c.if-place-eq0.true, c.none-then-place-eq0.ensures),
    )

pub returns : goal.returns
returns c =
    let a = c.args in
    let ends : stays_among a.self.now.list.now a.self.now.n a.place ≡ false = le-ltb _ _ (none-below _ _ c.in_default.ensures) in (
      c.free-2.ensures ∙ sym (kept-ends a.self.now.list.now a.self.now.n a.place ends),
      sym (entry-ends a.self.now.list.now a.self.now.n a.place a.step (omega (arith, c.if-place-eq0.false)) ends),
    )
