-- `take`: what each part gave.
use Rattle.listener.proofs.Lent.{taken_by_lem}
use Rattle.listener.proofs.take.Goals as goal

pub returns : goal.returns
returns c =
    let memory = c.args.memory.now in
    taken_by_lem memory _ _ _ _ _ _ c.step_of-step.ensures c.last_in.ensures c.gap_from-gap.ensures c.count_of-count.ensures c.marks_of-marks.ensures c.shift.ensures
