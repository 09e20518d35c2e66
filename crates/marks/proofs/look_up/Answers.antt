-- `look_up`: the loop marks one of the others after another.
use Prim.Native.Nat.{ℕ, ◌+◌, ◌<◌}
use mathlib.Core.Path.{◌≡◌, sym, subst}
use lib.ListN.{get_or, set, take}
use lib.Seq.{get_or-take, length-take-le}
use native.Mathlib.Omega.{arith}
use Rattle.condition.specs.Slots.{slot_count}
use Rattle.marks.specs.Lent.{is_there, Sorted}
use Rattle.marks.proofs.Sorting.{sorted_next, sorted_all}
use Rattle.marks.proofs.look_up.Goals as goal

pub loop-i-preserved : goal.loop-i-preserved
loop-i-preserved c =
    let l = c.loop-i in
    let a = c.args in
    let memory = a.memory.now in
    let others = a.others.now in
    let mark = c.is_there.result in
    let p : l.i-index < a.count = omega (arith, c.loop-i-test.true, length-take-le a.count others) in
    let item : get_or (take a.count others) l.i-index 0 ≡ get_or others l.i-index 0 = get_or-take a.count others l.i-index 0 p in (
      subst (λ (i : ℕ). mark ≡ is_there memory i → Sorted memory slot_count (l.i-index + 1) a.count others (set l.marks i mark)) (sym item)
          (sorted_next memory l.i-index a.count others l.marks l.invariant.0 p mark) c.is_there.ensures,
      l.invariant.1,
    )

pub returns : goal.returns
returns c =
    let l = c.loop-i in
    let a = c.args in
    sorted_all a.memory.now l.i-index a.count a.others.now l.marks l.invariant.0
    (omega (arith, c.loop-i-test.false, length-take-le a.count a.others.now, l.invariant.0.few, l.invariant.0.others_long))
