-- `put_packets`: after each turn the packets so far are put.
use mathlib.Core.Path.{◌≡◌}
use Rattle.kit.specs.Each.{each}
use Rattle.text.specs.Putting.{put_on}
use Rattle.summary.specs.Summaries.{packet_at}
use Rattle.summary.proofs.put_packets.Given as goal

abbrev pub invariant-loop-k : goal.invariant-loop-k
invariant-loop-k l = l.sheet ≡ put_on (each (packet_at l.fn.held) 0 l.k) l.initial.sheet
