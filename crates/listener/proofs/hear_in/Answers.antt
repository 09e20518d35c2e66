-- `hear_in`: what the reader says, or what is heard.
use Prim.Native.Nat.{◌≤◌}
use mathlib.Core.Path.{sym, ◌∙◌}
use native.Mathlib.Omega.{arith}
use Rattle.wire.specs.Verdicts.{row_number}
use Rattle.wire.proofs.Results.{number-positive}
use Rattle.listener.proofs.Lent.{left-accepted, left-refused}
use Rattle.listener.proofs.hear_in.Goals as goal

pub returns-in-Ok : goal.returns-in-Ok
returns-in-Ok c =
    let a = c.args in
    left-accepted a.memory.now a.telegram.now c.listen.result _ (sym c.in-Ok.ensures) c.listen.ensures

pub returns-in-Err : goal.returns-in-Err
returns-in-Err c =
    let a = c.args in
    let some : 1 ≤ row_number c.in-Err.refusal = number-positive c.in-Err.refusal in
    left-refused a.memory.now a.telegram.now _ (c.from.ensures ∙ c.in-Err.ensures) (λ none. omega (arith, c.from.ensures))
