-- `put_system`: two numbers, one after another.
use native.Mathlib.Omega.{arith}
use Rattle.listing_seconds.specs.Seconds.{stroke}
use Rattle.page.proofs.Packed.{byte_then}
use Rattle.page.proofs.Sheets.{on_page, on-then, on_tight}
use Rattle.listing_tables.proofs.entries.put_system.Goals as goal

pub returns : goal.returns
returns c =
    let voltage = on_tight {y = 4} (byte_then c.args.voltage stroke c.ranges.voltage.fits) (on_page c.put_number.ensures (omega arith)) in
    let country = on_page c.put_number-2.ensures (omega arith) in
    on-then voltage country
