-- `count_of`: the loop counts the occupied slots.
use Prim.Native.Nat.{ℕ, ◌+◌}
use mathlib.Core.Bool.{Bool, true, false, cond}
use mathlib.Core.Path.{◌≡◌, refl, sym, ap, ◌∙◌}
use mir.Val.{bool_byte}
use native.Mathlib.Nat.{add-zero}
use native.Mathlib.Omega.{arith}
use borrow.Author.Rules.{rules}
use Rattle.kit.proofs.Loops.{count_turn, count_none, count_most}
use Rattle.condition.specs.Slots.{slot_count}
use Rattle.picture.proofs.Lent.{holds, count-bytes}
use Rattle.picture.proofs.count_of.Invariants.{count_to}
use Rattle.picture.proofs.count_of.Goals as goal

-- a flag is added as one or as nothing
flag_added : (n : ℕ) (flag : Bool) → n + bool_byte flag ≡ cond flag (n + 1) n
flag_added n true = refl
flag_added n false = add-zero n

pub loop-i-init : goal.loop-i-init
loop-i-init c = (sym (count_none (holds c.args.memory.now)), search rules)

pub loop-i-preserved : goal.loop-i-preserved
loop-i-preserved c =
    let l = c.loop-i in
    let memory = c.args.memory.now in
    let turn = count_turn (holds memory) _ _ l.i l.invariant.0 (ap (λ (n : ℕ). l.count + n) c.from-count.ensures ∙ flag_added l.count (holds memory l.i)) in
    (turn, omega (arith, turn, count_most (holds memory) (l.i + 1)))

pub returns : goal.returns
returns c =
    let l = c.loop-i in
    let memory = c.args.memory.now in
    let all : l.i ≡ slot_count = search rules in
    l.invariant.0 ∙ (ap (count_to memory) all ∙ sym (count-bytes memory))
