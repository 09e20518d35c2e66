-- `all_there`: the slots are sorted, and where there are others they are looked up.
use Rattle.marks.proofs.Sorting.{sorted_all}
use Rattle.marks.proofs.all_there.Goals as goal

pub returns-else-count-gt0 : goal.returns-else-count-gt0
returns-else-count-gt0 c = sorted_all c.args.memory.now 0 _ _ _ c.sort_out-count.ensures c.if-count-gt0.false
