-- `put_digits`: eight bytes are stored, and the first ones, which are put, are the digits and perhaps the byte after them.
use Prim.Native.Nat.{◌+◌}
use mathlib.Core.Path.{sym, ap, ◌∙◌}
use Rattle.page.specs.Packed.{low_bytes}
use Rattle.page.proofs.Sheets.{laid_on_as}
use mir.Val.{bool_byte}
use Rattle.page.proofs.Packed.{most_if, five_piece, five-shown}
use Rattle.page.proofs.put_digits.Goals as goal

pub returns : goal.returns
returns c =
    let digits = c.more-digits in
    let number = c.args.number in
    let after = c.args.after in
    let wanted = c.args.wanted in
    let piece = five_piece number after digits.result c.ranges.number.fits c.ranges.after.fits digits.ensures.0 c.last_four.result c.last_four.ensures in
    let shown = five-shown number after digits.result c.ranges.number.fits c.ranges.after.fits digits.ensures.0 wanted in
    laid_on_as (shown ∙ ap (low_bytes (digits.result + 1 + bool_byte wanted)) (sym piece)) (ap (low_bytes 8) (sym piece)) (most_if wanted digits.result digits.ensures.1) c.put_piece.ensures
