-- `put_all_digits`: each byte's digits are put after those of the byte before it.
use native.Mathlib.Omega.{arith}
use Rattle.page.proofs.Sheets.{long_on, past_on, digits_put}
use Rattle.page.proofs.put_all_digits.Goals as goal

pub put_two-requires-2 : goal.put_two-requires-2
put_two-requires-2 c =
    let one = past_on _ _ c.put_two.ensures (omega arith) in
    omega (arith, one, long_on _ _ c.put_two.ensures)

pub put_two-requires-3 : goal.put_two-requires-3
put_two-requires-3 c =
    let long_one = long_on _ _ c.put_two.ensures in
    let one = past_on _ _ c.put_two.ensures (omega arith) in
    let two = past_on _ _ c.put_two-2.ensures (omega (arith, one, long_one)) in
    omega (arith, one, long_one, two, long_on _ _ c.put_two-2.ensures)

pub put_two-requires-4 : goal.put_two-requires-4
put_two-requires-4 c =
    let long_one = long_on _ _ c.put_two.ensures in
    let long_two = long_on _ _ c.put_two-2.ensures in
    let one = past_on _ _ c.put_two.ensures (omega arith) in
    let two = past_on _ _ c.put_two-2.ensures (omega (arith, one, long_one)) in
    let three = past_on _ _ c.put_two-3.ensures (omega (arith, one, long_one, two, long_two)) in
    omega (arith, one, long_one, two, long_two, three, long_on _ _ c.put_two-3.ensures)

pub returns : goal.returns
returns c = digits_put c.to_be_bytes.result c.args.number c.args.page.now c.to_be_bytes.ensures c.put_two.ensures c.put_two-2.ensures c.put_two-3.ensures c.put_two-4.ensures
