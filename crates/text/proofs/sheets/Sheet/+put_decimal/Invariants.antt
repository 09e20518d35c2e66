-- `put_decimal`: the number falls with each call.
use Rattle.text.proofs.sheets.Sheet.+put_decimal.Given as goal

abbrev pub decreases-put_decimal : goal.decreases-put_decimal
decreases-put_decimal l = l.number
