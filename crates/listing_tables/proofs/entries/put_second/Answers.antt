-- `put_second`: each kind of body has its word, and one whose change distance has no value its sign.
use mathlib.Core.Path.{sym, ◌∙◌}
use native.Mathlib.Omega.{arith}
use Rattle.page.proofs.Sheets.{on_page, on_as, on-most}
use Rattle.listing_tables.proofs.Words.{second_none, second_system, second_limit}
use Rattle.listing_tables.proofs.entries.put_second.Goals as goal

pub returns-in-Traction : goal.returns-in-Traction
returns-in-Traction c = on_as (second_none _ _ c.if-change.true c.in-Traction.is) (on-most (omega arith) c.put_none.ensures)

pub returns-in-Traction-2 : goal.returns-in-Traction-2
returns-in-Traction-2 c = on_as (second_system _ _ c.if-change.false _ _ _ c.in-Traction.is (sym c.in-Traction.body-is ∙ c.in-Traction-2.is)) c.put_system.ensures

pub returns-in-Current : goal.returns-in-Current
returns-in-Current c =
    on_as (second_limit _ _ c.if-change.false _ _ c.in-Traction.is (sym c.in-Traction.body-is ∙ c.in-Current.is)) (on-most (omega arith) (on_page c.put_number.ensures (omega arith)))
