-- `put_table`: five packets of the table, one after another.
use Rattle.desk_output.specs.Outputs.{five_telegrams}
use Rattle.desk_output.proofs.Packets.{packed, and_then}
use Rattle.desk_output.proofs.put_table.Goals as goal

pub returns : goal.returns
unfolding five_telegrams
returns c =
    let desk = c.args.desk in
    let same = c.table_of-table.ensures in
    and_then _ _ _ (packed desk same 3 c.four_of.ensures _ c.put_packet.ensures)
    (and_then _ _ _ (packed desk same 4 c.four_of-2.ensures _ c.put_packet-2.ensures)
    (and_then _ _ _ (packed desk same 5 c.four_of-3.ensures _ c.put_packet-3.ensures)
    (and_then _ _ _ (packed desk same 6 c.four_of-4.ensures _ c.put_packet-4.ensures)
    (packed desk same 7 c.four_of-5.ensures _ c.put_packet-5.ensures))))
