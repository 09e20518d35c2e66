-- `put_byte`: where there is room the byte is stored and the place is the next one.
use Rattle.std.proofs.Common.{[], ◌∷◌, refl}
use native.Mathlib.Omega.{arith}
use Rattle.text.proofs.Putting.{poured_on, none_put}
use Rattle.text.proofs.sheets.Sheet.put_byte.Goals as goal

pub returns-then-self : goal.returns-then-self
returns-then-self c = poured_on c.args.self.now (omega (arith, c.if-self.true)) (record { stored = refl; past = omega (arith, c.if-self.true) })

pub returns-else-self : goal.returns-else-self
returns-else-self c = none_put (c.args.byte ∷ []) c.args.self.now (omega (arith, c.if-self.false))
