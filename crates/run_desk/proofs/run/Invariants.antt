-- Every list goes to a desk that was made.
use Rattle.desk.specs.Desks.{Made}
use Rattle.run_desk.proofs.run.Given as goal

abbrev pub invariant-loop-lists : goal.invariant-loop-lists
invariant-loop-lists l = Made l.desk
