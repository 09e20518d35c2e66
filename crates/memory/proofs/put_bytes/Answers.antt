-- `put_bytes`: the part that is written over is a run of stores.
use Prim.Native.Nat.{◌+◌, ◌-◌}
use mathlib.Core.Path.{◌≡◌, ap, ◌∙◌}
use lib.ListN.{length}
use lib.Seq.{sets}
use native.Mathlib.Omega.{arith}
use Rattle.memory.specs.Memory.{memory_size}
use Rattle.kit.proofs.Parts.{part-stored}
use Rattle.memory.proofs.Slots.{slot-length}
use borrow.Author.Rules.{rules}
use Rattle.memory.proofs.put_bytes.Goals as goal

pub returns : goal.returns
returns c =
    let a = c.args in
    let long : length a.memory.now ≡ memory_size = search rules in
    let put = c.copy_from_slice.ensures.after ∙ c.bytes_of.ensures in
    part-stored a.memory.now a.at c.copy_from_slice.new.self (a.at + 7 - a.at) (omega (arith, ap length put, slot-length a.slot)) (omega (arith, long))
    ∙ ap (λ part. sets a.memory.now a.at part) put
