-- `write`: the telegram that is written is the table's.
use mathlib.Core.Path.{sym}
use Rattle.desk.specs.Desks.{packet_of}
use Rattle.desk_writer.proofs.write.Goals as goal

pub returns : goal.returns
unfolding packet_of
returns c =
    simp (sym c.table_of-table.ensures, sym c.four_of.ensures) c.write.ensures
