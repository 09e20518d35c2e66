-- `Place::refusal`: the rows of the slot by itself, above the one that looks at earlier slots.
use Rattle.std.proofs.Common.{sym, ◌∙◌, inl, inr}
use Rattle.wire.proofs.Results.{exit_number, number-positive}
use Rattle.telegram.proofs.Rows.{place_own, place_taken, place_clear}
use Rattle.telegram_reader.proofs.Place.refusal.Goals as goal
use Rattle.telegram_reader.proofs.Place.refusal.Goals.{else-coded-ne0-via-then-coded-ne0+else-is_taken, else-coded-ne0-via-else-coded-ne0}

pub returns-in_err-refusal_of : goal.returns-in_err-refusal_of
returns-in_err-refusal_of c =
    let a = c.args in
    exit_number c.from_residual.result _ c.from_residual.ensures.1
    ∙ place_own a.self.now.telegram.now a.self.now.k _ c.coded-coded.ensures _ c.in_err-refusal_of.ensures (number-positive _)

pub returns-then-is_taken : goal.returns-then-is_taken
returns-then-is_taken c =
    let a = c.args in
    place_taken a.self.now.telegram.now a.self.now.k _ c.coded-coded.ensures c.in_ok-refusal_of.ensures c.if-coded-ne0.true (sym c.if-is_taken.ensures)

pub returns : goal.returns
returns c =
    let a = c.args in
    place_clear a.self.now.telegram.now a.self.now.k _ c.coded-coded.ensures c.in_ok-refusal_of.ensures
    (elim c.else-coded-ne0.branch [
      | else-coded-ne0-via-then-coded-ne0+else-is_taken w ↦ inr (sym w.is_taken.ensures ∙ w.if-is_taken.false)
      | else-coded-ne0-via-else-coded-ne0 w ↦ inl w.if-coded-ne0.false
    ])
