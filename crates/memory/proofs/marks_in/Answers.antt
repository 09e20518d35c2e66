-- `marks_in`: a call of the closure gives the flag of its byte.
use Prim.Native.Nat.{ℕ, ◌+◌}
use mathlib.Core.Bool.{false}
use lib.ListN.{get_or}
use Rattle.condition.specs.Slots.{slot_count}
use Rattle.memory.specs.Memory.{marks_from, is_set, flags_at}
use Rattle.kit.proofs.Arrays.{made_each}
use borrow.Author.Rules.{rules}
use Rattle.memory.proofs.marks_in.Goals as goal

pub returns : goal.returns
unfolding flags_at
returns c =
    let memory = c.args.memory.now in
    made_each _ _ (λ (i : ℕ). is_set (get_or memory (marks_from + i) 0)) slot_count (λ i y q p k. search rules) _ false c.from_fn.ensures.items
