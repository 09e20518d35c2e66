-- `put_table`: after i turns the bytes of the first i slots are put.
use Prim.Native.Nat.{ℕ, ◌≤◌}
use mathlib.Core.Path.{◌≡◌, refl, ap, ◌∙◌}
use lib.Seq.{sets}
use native.Mathlib.Omega.{arith}
use Rattle.kit.specs.Each.{each}
use Rattle.kit.proofs.Put.{put-each}
use Rattle.condition.specs.Slots.{slot_count}
use Rattle.telegram.specs.Tables.{table_slot}
use Rattle.memory.specs.Memory.{table_bytes}
use Rattle.memory.proofs.Slots.{slot-length}
use borrow.Author.Rules.{rules}
use Rattle.memory.proofs.put_table.Invariants.{bytes}
use Rattle.memory.proofs.put_table.Goals as goal

pub loop-i-init : goal.loop-i-init
unfolding each
loop-i-init c = record { stored = refl; past = omega arith }

pub loop-i-preserved : goal.loop-i-preserved
loop-i-preserved c =
    let l = c.loop-i in
    let a = c.args in
    let table = a.table in
    put-each (bytes table) l.i l.invariant (record { stored = c.put_bytes.ensures; past = omega (arith, slot-length (table_slot table l.i)) })

pub returns : goal.returns
unfolding table_bytes
returns c =
    let l = c.loop-i in
    let a = c.args in
    let past : slot_count ≤ l.i = search rules in
    let all : l.i ≡ slot_count = omega (arith, l.invariant, past) in
    l.invariant.stored ∙ ap (λ (n : ℕ). sets a.memory.now a.from (each (bytes a.table) 0 n)) all
