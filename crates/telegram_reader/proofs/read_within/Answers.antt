-- `read_within`: by what `refusal_within` answered.
use Rattle.std.proofs.Common.{refl, sym}
use Rattle.telegram.proofs.Rows.{exit_reading, read-accepted}
use Rattle.telegram_reader.proofs.read_within.Goals as goal

pub returns-in_err-refusal_within : goal.returns-in_err-refusal_within
returns-in_err-refusal_within c =
    exit_reading c.from_residual.result _ c.args.telegram.now c.from_residual.ensures.1 c.in_err-refusal_within.ensures

pub returns : goal.returns
returns c = simp c.telegram_of.ensures (sym (read-accepted c.args.telegram.now _ c.in_ok-refusal_within.ensures refl))
