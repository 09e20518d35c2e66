-- `show`: the copy is a run of stores.
use Prim.Native.Nat.{ℕ}
use mathlib.Core.Path.{◌≡◌, ap, ◌∙◌}
use lib.ListN.{length, drop, length-drop}
use native.Mathlib.Omega.{arith}
use Rattle.std.specs.List.{copy_within}
use Rattle.memory.specs.Memory.{memory_size, set_from, with_picture}
use Rattle.kit.proofs.Parts.{paste-stored}
use borrow.Author.Rules.{rules}
use Rattle.memory.proofs.show.Goals as goal

pub returns : goal.returns
unfolding with_picture
returns c =
    let memory = c.args.memory.now in
    let long : length memory ≡ memory_size = search rules in
    let all : c.copy_within.new.self ≡ copy_within memory set_from memory_size 0 =
    c.copy_within.ensures.after ∙ ap (λ (n : ℕ). copy_within memory set_from n 0) long in
    all ∙ paste-stored memory 0 (drop set_from memory) 140 (omega (arith, length-drop set_from memory, long)) (omega (arith, long))
