-- `put_two`: the two digits are stored one after the other.
use Rattle.std.proofs.Common.{rules}
use native.Mathlib.Omega.{arith}
use Rattle.text.proofs.Putting.{poured_on}
use Rattle.page.proofs.put_two.Goals as goal

pub returns : goal.returns
returns c = poured_on c.args.page.now (omega arith) (record { stored = search rules; past = omega arith })
