-- `put_national`: the words of the systems so far are put.
use Rattle.std.proofs.Common.{sym, arith}
use Rattle.kit.specs.Each.{each}
use Rattle.page.proofs.Sheets.{on_page, on-none, on_as, on-each}
use Rattle.signals_output.specs.Lines.{national_word}
use Rattle.signals_output.proofs.put_national.Goals as goal

pub loop-isolation-init : goal.loop-isolation-init
unfolding each
loop-isolation-init c = on-none

pub loop-isolation-preserved : goal.loop-isolation-preserved
loop-isolation-preserved c =
    let l = c.loop-isolation in
    on-each (national_word c.args.national) l.isolation-index (omega arith) l.invariant
    (on_as (sym c.isolation_word.ensures) (on_page c.put_word.ensures (omega arith)))
