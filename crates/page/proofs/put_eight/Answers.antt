-- `put_eight`: the bytes of the number are copied over those of the page.
use Rattle.std.proofs.Common.{rules, refl, ◌+◌}
use native.Mathlib.Omega.{arith}
use Rattle.page.proofs.Packed.{eight_stored, low-length}
use Rattle.text.proofs.Putting.{poured_on}
use Rattle.page.proofs.put_eight.Goals as goal

pub returns : goal.returns
returns c =
    let page = c.args.page.now in
    poured_on page (omega arith)
    (record {
      stored = eight_stored page.buffer.now c.copy_from_slice.new.self page.at (page.at + 8) c.args.piece refl (omega arith) (search rules);
      past = omega (arith, low-length 8 c.args.piece);
    })
