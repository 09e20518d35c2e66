-- Laws of `Seen`: nothing, one number more, and what is not seen is not there.
use Prim.Native.Nat.{ℕ, ◌+◌, ◌<◌}
use mathlib.Core.Path.{◌≡◌, refl, ap, ◌∙◌}
use mathlib.Core.Bool.{Bool, true, false}
use mathlib.Core.List.{List}
use lib.Dec.{eqb}
use lib.ListN.{length, get_or, set, length-set}
use lib.Seq.{get_or-set_same, get_or-set_other}
use native.Mathlib.Omega.{arith}
use borrow.Author.Tests.{eqb-true, eqb-false, ne_eqb}
use Rattle.kit.specs.Loops.{any}
use Rattle.kit.proofs.Cases.{on, clash}
use Rattle.kit.proofs.Loops.{scan-none}
use Rattle.condition.specs.Slots.{slot_count}
use Rattle.memory.specs.Memory.{slot_place}
use Rattle.marks.specs.Lent.{Seen, has_both}

module _ (memory : List ℕ) where
  -- the number of slot j of the picture
  abbrev shown : ℕ → ℕ
  shown j = get_or memory (slot_place 0 j) 0

  pub seen_none : (seen : List Bool) → length seen ≡ 256 → Seen memory 0 seen
  seen_none seen long = record { flag = λ j p. absurd (omega arith); long = long }

  module _ (i : ℕ) (seen : List Bool) (s : Seen memory i seen) where
    pub seen_more : (next : List Bool) → next ≡ set seen (shown i) true → shown i < 256 → Seen memory (i + 1) next
    seen_more next e small =
        record {
          flag = λ j p.
              ap (λ l. get_or l (shown j) false) e
              ∙ on (eqb (shown j) (shown i))
              (λ here.
              ap (λ (n : ℕ). get_or (set seen (shown i) true) n false) (eqb-true _ _ here) ∙ get_or-set_same seen (shown i) true false (omega (arith, s.long)))
              (λ there.
              get_or-set_other seen (shown i) (shown j) true false (eqb-false _ _ there)
              ∙ s.flag j (on (eqb j i) (λ same. absurd (eqb-false _ _ there (ap shown (eqb-true j i same)))) (λ less. omega (arith, eqb-false j i less))));
          long = ap length e ∙ (length-set seen (shown i) true ∙ s.long);
        }

  -- no slot of the picture has a number that was not seen in any of them
  pub unseen : (seen : List Bool) (number kind : ℕ) → Seen memory slot_count seen → get_or seen number false ≡ false → any (has_both memory number kind) 0 slot_count ≡ false
  unseen seen number kind s off =
      scan-none (has_both memory number kind) (λ j. true) false 0 slot_count
      (λ j low p.
      rw
      (ne_eqb (shown j) number
      (λ same. clash (s.flag j (omega arith)) (ap (λ (n : ℕ). get_or seen n false) same ∙ off)))
      refl)
