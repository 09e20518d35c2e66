-- `put_marks`: after i turns the first i marks are put.
use mathlib.Core.Bool.{false}
use mathlib.Core.Path.{◌≡◌, sym, ◌∙◌}
use mathlib.Core.List.{map}
use lib.ListN.{length, length-map}
use native.Mathlib.Omega.{arith}
use Rattle.kit.proofs.Put.{put_next, put_all}
use Rattle.kit.proofs.Maps.{map_at}
use Rattle.condition.specs.Slots.{slot_count}
use Rattle.memory.specs.Memory.{marks_from, flag_byte, with_marks}
use borrow.Author.Rules.{rules}
use Rattle.memory.proofs.put_marks.Goals as goal

pub loop-i-preserved : goal.loop-i-preserved
loop-i-preserved c =
    let l = c.loop-i in
    let marks = c.args.marks in
    let all : length marks ≡ slot_count = search rules in
    put_next (map flag_byte marks) marks_from l.i (omega (arith, all, length-map marks flag_byte)) (c.from.ensures ∙ sym (map_at flag_byte marks l.i false 0 (omega (arith, all)))) l.invariant

pub returns : goal.returns
unfolding with_marks
returns c =
    let l = c.loop-i in
    let a = c.args in
    let all : length a.marks ≡ slot_count = search rules in
    put_all (map flag_byte a.marks) l.i (omega (arith, all, length-map a.marks flag_byte)) l.invariant
