-- `is_known`: the first slot that has both decides.
use Prim.Native.Nat.{ℕ, ◌+◌, ◌<◌}
use mathlib.Core.Bool.{Bool, true, false}
use mathlib.Core.Path.{◌≡◌, refl, sym, ap, ◌∙◌}
use mathlib.Core.List.{List}
use lib.ListN.{length, get_or}
use native.Mathlib.Omega.{arith}
use Rattle.std.specs.Bool.{MatchBool}
use Rattle.std.specs.List.{AllWithin, HoldsAt, range_with_len}
use Rattle.std.proofs.lemmas.Iterator.{YieldsList-from_range, cases_from_any}
use Rattle.std.proofs.lemmas.List.FromFn.{length-range_with_len, get_or-range_with_len}
use Rattle.kit.specs.Loops.{any}
use Rattle.kit.proofs.Loops.{scan-none, any_when}
use Rattle.condition.specs.Slots.{slot_count}
use Rattle.marks.specs.Lent.{has_both}
use borrow.Author.Rules.{rules}
use Rattle.marks.proofs.is_known.Goals as goal

abbrev slots : List ℕ
slots = range_with_len 0 slot_count

-- item k of them is k
numbered : (k : ℕ) → k < slot_count → get_or slots k 0 ≡ k
numbered k p = let here : 0 + k ≡ k = omega arith in get_or-range_with_len 0 slot_count k 0 p ∙ here

any-by : (test : ℕ → Bool) (answer : Bool)
    → MatchBool answer ((k : ℕ) × (k < length slots) × HoldsAt (λ j. test j ≡ true) slots k) (AllWithin (λ j. test j ≡ false) slots 0 (length slots))
    → answer ≡ any test 0 slot_count
any-by test true (k, inside, holds) =
    let p : k < slot_count = omega (arith, length-range_with_len 0 slot_count) in
    sym (any_when test 0 slot_count k (omega arith) (omega arith) (ap test (sym (numbered k p)) ∙ holds 0))
any-by test false none = sym (scan-none test (λ i. true) false 0 slot_count (λ j low p. let q : j < slot_count = omega arith in ap test (sym (numbered j q)) ∙ none j 0 low (omega (arith, length-range_with_len 0 slot_count))))

pub returns : goal.returns
returns c =
    let a = c.args in
    let test = has_both a.memory.now a.number a.kind in
    any-by test c.any.result
    (cases_from_any _ _ _ (λ j. test j ≡ true) (λ j. test j ≡ false) c.any.ensures.ran (YieldsList-from_range 0 slot_count slot_count refl refl) (λ x q called. search rules) (λ x q called. search rules))
