-- `put_word`: sixteen bytes are stored, and the first ones are put.
use Prim.Native.Nat.{◌+◌}
use mathlib.Core.Path.{sym}
use lib.ListN.{length}
use native.Mathlib.Omega.{arith}
use borrow.Author.Tests.{leb-true}
use Rattle.page.proofs.Packed.{low-length}
use Rattle.page.proofs.Sheets.{long_on, past_on, laid_sixteen}
use Rattle.page.specs.Packed.{low_bytes}
use Rattle.page.proofs.put_word.Goals as goal

pub put_eight-requires-then-has_room : goal.put_eight-requires-then-has_room
put_eight-requires-then-has_room c =
    let page = c.args.page.now in
    let room = leb-true (page.at + 16) (length page.buffer.now) (sym c.if-has_room.ensures) in
    let low = low-length 8 c.args.word.low in
    let past = past_on (low_bytes 8 c.args.word.low) page c.put_eight.ensures (omega (arith, low, room)) in
    omega (arith, low, room, past, long_on _ _ c.put_eight.ensures)

pub returns-then-has_room : goal.returns-then-has_room
returns-then-has_room c =
    laid_sixteen c.args.word c.args.page.now c.if-has_room.ensures c.put_eight.ensures c.put_eight-then-has_room.ensures c.min.ensures
