-- `put_table_line`: the word and three numbers, one after another.
use native.Mathlib.Omega.{arith}
use Rattle.listing_lines.specs.Lines.{table_line}
use Rattle.text.specs.Words.{blank}
use Rattle.page.proofs.Packed.{byte_then}
use Rattle.page.proofs.Sheets.{on_page, on-then, on_tight}
use Rattle.listing_tables.proofs.entries.put_table_line.Goals as goal

pub returns : goal.returns
unfolding table_line
returns c =
    let word = on_tight {y = 6} (omega arith) (on_page c.put_short_text.ensures (omega arith)) in
    let step = on_page c.put_number.ensures (omega arith) in
    let count = on_tight {y = 4} (byte_then c.args.count blank c.ranges.count.fits) (on_page c.put_number-2.ensures (omega arith)) in
    let gap = on_page c.put_number-3.ensures (omega arith) in
    on-then word (on-then step (on-then count gap))
