-- `put_numbers`: three numbers, one after another.
use native.Mathlib.Omega.{arith}
use Rattle.text.specs.Words.{blank}
use Rattle.page.proofs.Packed.{byte_then}
use Rattle.page.proofs.Sheets.{on_page, on-then, on_tight}
use Rattle.listing_tables.proofs.entries.put_numbers.Goals as goal

pub returns : goal.returns
returns c =
    let place = on_page c.put_short_number.ensures (omega arith) in
    let number = on_tight {y = 4} (byte_then c.args.number blank c.ranges.number.fits) (on_page c.put_number.ensures (omega arith)) in
    let kind = on_page c.put_short_number-2.ensures (omega arith) in
    on-then place (on-then number kind)
