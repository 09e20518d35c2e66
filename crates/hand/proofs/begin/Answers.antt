-- `begin`: the word, and then zeros up to the end.
use mathlib.Core.Path.{◌≡◌, ap, ◌∙◌}
use mathlib.Core.List.{◌++◌}
use lib.ListN.{length, replicate}
use lib.Seq.{sets}
use native.Mathlib.Omega.{arith}
use Rattle.kit.specs.Bytes.{word_bytes}
use Rattle.memory.specs.Memory.{memory_size, step_from}
use Rattle.kit.proofs.Parts.{two_parts}
use Rattle.hand.specs.Lent.{begun_in}
use borrow.Author.Rules.{rules}
use Rattle.hand.proofs.begin.Goals as goal

pub returns : goal.returns
unfolding begun_in
returns c =
    let a = c.args in
    let long : length a.memory.now ≡ memory_size = search rules in
    let word : c.copy_from_slice.new.self ≡ word_bytes a.step = search rules in
    let zeros : c.fill.new.self ≡ replicate 145 0 = search rules in
    two_parts a.memory.now step_from c.copy_from_slice.new.self c.fill.new.self 2 145 (ap length word) (ap length zeros) (omega (arith, long))
    ∙ (λ t. sets a.memory.now step_from (word t ++ zeros t))
