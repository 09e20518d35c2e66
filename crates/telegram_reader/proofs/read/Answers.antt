-- `read`: a telegram that has not 26 bytes is refused by its first row.
use Rattle.std.proofs.Common.{sym, arith, ne_eqb}
use Rattle.kit.specs.Ladder.{ladder}
use Rattle.telegram.specs.Telegrams.{read_rows}
use Rattle.telegram.proofs.Rows.{read_refused}
use Rattle.telegram_reader.proofs.read.Goals as goal

pub returns-in-None : goal.returns-in-None
unfolding ladder read_rows
returns-in-None c = sym (read_refused c.args.bytes.now 10 (simp (ne_eqb _ _ c.in-None.ensures.cases)) (λ z. omega arith))
