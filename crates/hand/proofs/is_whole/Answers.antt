-- `is_whole`: the packets that are held, by the bytes that say so.
use Prim.Native.Nat.{ℕ, ◌<◌}
use mathlib.Core.Bool.{Bool, true, false}
use mathlib.Core.List.{List}
use mathlib.Core.Path.{◌≡◌, sym, ap, ◌∙◌}
use lib.ListN.{length, get_or}
use native.Mathlib.Omega.{arith}
use borrow.Author.Tests.{eq-eqb, ne_eqb}
use Rattle.std.specs.Bool.{MatchBool}
use Rattle.std.specs.List.{between, AllWithin, HoldsAt}
use Rattle.std.proofs.lemmas.Iterator.{YieldsList-from_slice, cases_from_all}
use Rattle.std.proofs.lemmas.List.Edits.{length-between, get_or-between}
use Rattle.kit.proofs.Cases.{clash}
use Rattle.kit.proofs.Loops.{count-all, all-counted}
use Rattle.telegram.specs.Tables.{packets}
use Rattle.memory.specs.Memory.{memory_size, held_from, set_from, is_set}
use Rattle.memory.proofs.Slots.{flag_in}
use Rattle.hand.specs.Lent.{hand_in}
use Rattle.hand.specs.Sets.{is_whole}
use borrow.Author.Rules.{rules}
use Rattle.hand.proofs.is_whole.Goals as goal

abbrev five : List ℕ → List ℕ
five memory = between held_from set_from memory

module _ (memory : List ℕ) (long : length memory ≡ memory_size) where
  few : length (five memory) ≡ packets
  few = length-between memory held_from set_from (omega (arith, long))

  -- packet k is held where its byte says so
  held-by : (k : ℕ) → k < packets → get_or (hand_in memory).held k false ≡ is_set (get_or (five memory) k 0)
  unfolding hand_in
  held-by k p = flag_in memory held_from packets k p ∙ ap is_set (sym (get_or-between memory held_from set_from k 0 (omega arith)))

  whole-by : (answer : Bool)
      → MatchBool answer (AllWithin (λ byte. is_set byte ≡ true) (five memory) 0 (length (five memory))) ((k : ℕ) × (k < length (five memory)) × HoldsAt (λ byte. is_set byte ≡ false) (five memory) k)
      → answer ≡ is_whole (hand_in memory)
  unfolding is_whole
  whole-by true each =
      sym (eq-eqb _ _ (count-all (λ i. get_or (hand_in memory).held i false) packets (λ k p. held-by k p ∙ each k 0 (omega arith) (omega (arith, few)))))
  whole-by false (k, inside, other) =
      let p : k < packets = omega (arith, few) in
      sym (ne_eqb _ _ (λ all. clash (all-counted (λ i. get_or (hand_in memory).held i false) packets all k p) (held-by k p ∙ other 0)))

pub returns : goal.returns
returns c =
    let memory = c.args.memory.now in
    whole-by memory (search rules) c.all.result
    (cases_from_all _ _ _ (λ byte. is_set byte ≡ true) (λ byte. is_set byte ≡ false) c.all.ensures.ran (YieldsList-from_slice (five memory) (cc)) (λ x q called. search rules) (λ x q called. search rules))
