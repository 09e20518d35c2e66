-- `put_short_number`: one digit and the byte after it, or what `put_digits` puts.
use mathlib.Core.Path.{ap, ◌∙◌}
use native.Mathlib.Omega.{arith}
use Rattle.page.specs.Packed.{low_bytes}
use Rattle.page.proofs.Packed.{one_piece, one-shown, byte_then}
use Rattle.page.proofs.Sheets.{laid_on_as, laid_on_tight}
use Rattle.page.proofs.put_short_number.Goals as goal

pub returns-then-number-lt10 : goal.returns-then-number-lt10
returns-then-number-lt10 c =
    let number = c.args.number in
    let after = c.args.after in
    let piece = one_piece number after c.if-number-lt10.true in
    laid_on_as (one-shown number after c.if-number-lt10.true c.ranges.after.fits ∙ ap (low_bytes 2) piece) (ap (low_bytes 8) piece) (omega arith) c.put_piece.ensures

pub returns-else-number-lt10 : goal.returns-else-number-lt10
returns-else-number-lt10 c =
    laid_on_tight (byte_then c.args.number c.args.after c.ranges.number.fits) c.put_digits.ensures
