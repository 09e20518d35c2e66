-- `put_telegram`: the head, and after k turns the first k slots; all of them fill the buffer from its start to its end.
use Rattle.std.proofs.Common.{◌+◌, ◌*◌, ◌≡◌, length}
use Rattle.kit.specs.Each.{each}
use Rattle.kit.specs.Put.{Put}
use Rattle.telegram.specs.Telegrams.{six_at}
use Rattle.telegram_writer.proofs.put_telegram.Given as goal

abbrev pub invariant-loop-k : goal.invariant-loop-k
invariant-loop-k l =
    (length l.buffer ≡ 26) × Put l.initial.buffer 2 (each (six_at l.fn.telegram.slots) 0 l.k) l.buffer (2 + 6 * l.k)
