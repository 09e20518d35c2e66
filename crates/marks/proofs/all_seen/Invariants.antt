-- `all_seen`: the loop sees one number after another.
use Rattle.marks.specs.Lent.{Seen}
use Rattle.marks.proofs.all_seen.Given as goal

abbrev pub invariant-loop-k : goal.invariant-loop-k
invariant-loop-k l = Seen l.memory l.k l.seen.flags
