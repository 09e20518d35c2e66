-- `put_short_text`: the bytes of the text are packed, stored, and as many of them put as the text has.
use mathlib.Core.Path.{◌≡◌, sym, ap}
use native.Mathlib.Omega.{arith}
use lib.ListN.{take}
use Rattle.page.specs.Packed.{low_bytes, number_made}
use Rattle.page.proofs.Packed.{packed_first}
use Rattle.page.proofs.Sheets.{laid_on_as}
use Rattle.page.proofs.put_short_text.Goals as goal

pub returns : goal.returns
returns c =
    let words = c.args.words.now in
    let piece = c.piece_of in
    let count = c.min in
    let put : take 8 words ≡ low_bytes count.result piece.result = rw (count.ensures, piece.ensures.0) (packed_first words piece.ensures.1) in
    let stored : low_bytes 8 (number_made (take 8 words)) ≡ low_bytes 8 piece.result = ap (low_bytes 8) (sym piece.ensures.0) in
    laid_on_as put stored (omega (arith, count.ensures)) c.put_piece.ensures
