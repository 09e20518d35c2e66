-- `put_words`: as many words as have room are copied at once.
use Rattle.std.proofs.Common.{rules, ◌+◌}
use native.Mathlib.Omega.{arith}
use Rattle.text.proofs.Copies.{copied}
use Rattle.text.proofs.Putting.{poured_on, none_put}
use Rattle.text.proofs.sheets.Sheet.put_words.Goals as goal

pub returns-then-self : goal.returns-then-self
returns-then-self c =
    poured_on c.args.self.now (omega (arith, c.if-self.true))
    (copied c.args.self.now.buffer.now c.args.words.now c.copy_from_slice.new.self c.args.self.now.at (c.args.self.now.at + c.min.result) c.if-self.true (omega (arith, c.min.ensures)) (search rules))

pub returns-else-self : goal.returns-else-self
returns-else-self c = none_put c.args.words.now c.args.self.now (omega (arith, c.if-self.false))
