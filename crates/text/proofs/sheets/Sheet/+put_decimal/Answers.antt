-- `put_decimal`: the last digit is put after those of a tenth of the number.
use Rattle.std.proofs.Common.{◌/◌}
use mathlib.Core.Path.{sym, ap, ◌∙◌}
use Rattle.text.specs.Decimals.{digit, decimal}
use Rattle.text.specs.Putting.{put_on}
use Rattle.text.proofs.Numerals.{decimal-one, decimal-more}
use Rattle.text.proofs.Putting.{put_next}
use Rattle.text.proofs.sheets.Sheet.+put_decimal.Goals as goal

pub returns-then-number-lt10 : goal.returns-then-number-lt10
returns-then-number-lt10 t c = c.put_byte.ensures ∙ ap (λ l. put_on l c.args.self.now) (sym (decimal-one c.args.number c.if-number-lt10.true))

pub returns : goal.returns
returns t c =
    c.put_byte-2.ensures
    ∙ (ap (put_on (digit c.args.number)) c.put_decimal.ensures
    ∙ (put_next (decimal (c.args.number / 10)) (digit c.args.number) c.args.self.now
    ∙ ap (λ l. put_on l c.args.self.now) (sym (decimal-more c.args.number c.if-number-lt10.false))))
