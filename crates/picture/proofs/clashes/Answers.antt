-- `clashes`: the loop leaves at the first slot whose number has its flag set.
use Prim.Native.Nat.{◌<◌}
use mathlib.Core.Bool.{true, false, not, ◌&&◌}
use mathlib.Core.Path.{◌≡◌, refl, sym, ap, ap₂, ◌∙◌}
use borrow.Author.Tests.{eq-eqb, ne_eqb}
use Rattle.kit.proofs.Loops.{scan-go, scan_hit, scan-end}
use Rattle.condition.specs.Slots.{slot_count}
use Rattle.picture.specs.Pictures.{is_twice, clashes}
use Rattle.memory.specs.Memory.{set_in}
use Rattle.picture.proofs.Lent.{number_at, holds, seen_none, seen_more, twice-flag}
use Rattle.picture.proofs.clashes.Goals as goal
use Rattle.picture.proofs.clashes.Goals.{then-memory-i-ne0+else-contains, else-memory-i-ne0}

pub loop-i-init : goal.loop-i-init
unfolding clashes
loop-i-init c = (refl, seen_none c.args.memory.now _ c.empty-seen.ensures)

pub returns-then-contains : goal.returns-then-contains
returns-then-contains c =
    let memory = c.args.memory.now in
    let l = c.loop-i in
    let p : l.i < slot_count = c.loop-i-test.true in
    let small : number_at memory l.i < 256 = c.fits-memory _ in
    let occupied : holds memory l.i ≡ true = ap not (ne_eqb _ _ c.if-memory-i-ne0.true) in
    sym
    (l.invariant.0
    ∙ scan_hit (is_twice (set_in memory)) _ _ slot_count l.i p
    (twice-flag memory l.i l.seen.flags small l.invariant.1 p ∙ ap₂ ◌&&◌ occupied (sym c.contains.ensures ∙ c.if-contains.true)))

pub loop-i-preserved : goal.loop-i-preserved
loop-i-preserved c =
    let memory = c.args.memory.now in
    let l = c.loop-i in
    let p : l.i < slot_count = c.loop-i-test.true in
    let small : number_at memory l.i < 256 = c.fits-memory _ in
    let go = scan-go (is_twice (set_in memory)) _ _ slot_count l.i p in
    let more = seen_more memory l.i l.seen.flags small l.invariant.1 c.if-memory-i-ne0.seen.flags in
    let twice = twice-flag memory l.i l.seen.flags small l.invariant.1 p in
    elim c.if-memory-i-ne0.branch [
      | then-memory-i-ne0+else-contains w ↦
          let occupied : holds memory l.i ≡ true = ap not (ne_eqb _ _ w.if-memory-i-ne0.true) in (
            l.invariant.0 ∙ go (twice ∙ ap₂ ◌&&◌ occupied (sym w.contains.ensures ∙ w.if-contains.false)),
            more (ap (λ s. s.flags) w.seen-is ∙ (w.insert.ensures ∙ sym (rw occupied refl))),
          )
      | else-memory-i-ne0 w ↦
          let empty : holds memory l.i ≡ false = ap not (eq-eqb _ _ w.if-memory-i-ne0.false) in (
            l.invariant.0 ∙ go (twice ∙ rw empty refl),
            more (ap (λ s. s.flags) w.seen-is ∙ sym (rw empty refl)),
          )
    ]

pub returns : goal.returns
returns c = let l = c.loop-i in sym (l.invariant.0 ∙ scan-end _ _ _ slot_count l.i c.loop-i-test.false)
