-- `bravolith_write`: the number of what `write` answers, and the bytes that it leaves.
use Rattle.std.proofs.Common.{ap, ◌∙◌}
use Rattle.std.specs.Prelude.{Ok, Err}
use Rattle.wire.proofs.Results.{number_answered}
use Rattle.telegram.specs.Telegrams.{write_verdict, written}
use Rattle.desk.specs.Desks.{packet_of}
use Rattle.desk.specs.declared.Desk.{Desk}
use Rattle.exports.proofs.bravolith_write.Goals as goal

pub returns-in-Ok : goal.returns-in-Ok
unfolding write_verdict packet_of
returns-in-Ok c =
    let a = c.args in (
      number_answered {A = Unit} (Ok c.in-Ok.field-0) _ c.in-Ok.ensures.0,
      c.write.ensures.1 ∙ ap (λ (d : Desk). written (packet_of d a.packet) a.out.now) c.desk_after.ensures,
    )

pub returns-in-Err : goal.returns-in-Err
unfolding write_verdict packet_of
returns-in-Err c =
    let a = c.args in (
      c.from.ensures ∙ number_answered {A = Unit} (Err c.in-Err.refusal) _ c.in-Err.ensures.0,
      c.write.ensures.1 ∙ ap (λ (d : Desk). written (packet_of d a.packet) a.out.now) c.desk_after.ensures,
    )
