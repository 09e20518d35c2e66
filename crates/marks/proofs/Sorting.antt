-- Laws of `Sorted`: no slot, one slot more, one of the others marked, and all of them.
use Prim.Native.Nat.{ℕ, ◌+◌, ◌<◌, ◌≤◌}
use mathlib.Core.Path.{◌≡◌, refl, sym, ap, ◌∙◌, subst}
use mathlib.Core.Logic.{◌⊎◌, inl, inr}
use mathlib.Core.Bool.{Bool, true, false, cond, not, ◌&&◌}
use mathlib.Core.List.{List}
use lib.Dec.{eqb}
use lib.ListN.{length, get_or, set, length-set}
use lib.Seq.{get_or-set_same, get_or-set_other, ext_get_or}
use native.Mathlib.Omega.{arith}
use borrow.Author.Tests.{eqb-true, eqb-false}
use Rattle.kit.proofs.Cases.{on, given}
use Rattle.condition.specs.Slots.{slot_count}
use Rattle.marks.specs.Lent.{is_alike, is_there, all_there, set_holds, IsMarked, IsOther, Sorted}
use Rattle.marks.proofs.Lent.{there-empty, there-alike, length-there, there-at}

module _ (memory : List ℕ) where
  pub sorted_none : (others : List ℕ) (marks : List Bool) → length marks ≡ slot_count → length others ≡ slot_count → Sorted memory 0 0 0 others marks
  sorted_none others marks a b =
      record { either = λ j p. absurd (omega arith); other = λ m p. absurd (omega arith); few = omega arith; marks_long = a; others_long = b }

  module _ (marks : List Bool) (at : ℕ) (mark : Bool) (inside : at < length marks) where
    -- a mark that is put right, and the marks that stand beside it
    marked-here : mark ≡ is_there memory at → (j : ℕ) → j ≡ at → IsMarked memory (set marks at mark) j
    marked-here right j e =
        subst (λ (k : ℕ). IsMarked memory (set marks at mark) k) (sym e) (get_or-set_same marks at mark false inside ∙ right)

    marked_beside : (j : ℕ) → (j ≡ at → ⊥) → IsMarked memory marks j → IsMarked memory (set marks at mark) j
    marked_beside j beside e = get_or-set_other marks at j mark false beside ∙ e

  -- slot i becomes one of the others where it is occupied and not alike, and is marked otherwise
  module _ (i n : ℕ) (others : List ℕ) (marks : List Bool) (room : i < slot_count) (s : Sorted memory i 0 n others marks) (mark : Bool) (next : ℕ) where
    abbrev Here : Type 0
    Here = ((mark ≡ is_there memory i) × (next ≡ n)) ⊎ ((set_holds memory i ≡ true) × (next ≡ n + 1))

    in_marks : i < length marks
    in_marks = omega (arith, s.marks_long)

    in_others : n < length others
    in_others = omega (arith, s.others_long, s.few)

    not_fewer : Here → n ≤ next
    not_fewer (inl (right, same)) = omega arith
    not_fewer (inr (occupied, more)) = omega arith

    either-here : Here → IsMarked memory (set marks i mark) i ⊎ IsOther (set others n i) 0 next i
    either-here (inl (right, same)) = inl (marked-here marks i mark in_marks right i refl)
    either-here (inr (occupied, more)) = inr (n, omega arith, omega arith, get_or-set_same others n i 0 in_others)

    either-before : Here → (j : ℕ) → j < i → IsMarked memory marks j ⊎ IsOther others 0 n j → IsMarked memory (set marks i mark) j ⊎ IsOther (set others n i) 0 next j
    either-before here j p (inl e) = inl (marked_beside marks i mark in_marks j (omega arith) e)
    either-before here j p (inr (m, low, q, e)) = inr (m, low, omega (arith, not_fewer here), get_or-set_other others n m i 0 (omega arith) ∙ e)

    abbrev OtherAt : ℕ → Type 0
    OtherAt k = (k < i + 1) × (set_holds memory k ≡ true)

    other-before : (m : ℕ) → m < n → OtherAt (get_or (set others n i) m 0)
    other-before m p =
        subst OtherAt (sym (get_or-set_other others n m i 0 (omega arith))) (given (s.other m p) (λ (q, occupied). (omega arith, occupied)))

    other_after : Here → (m : ℕ) → m < next → OtherAt (get_or (set others n i) m 0)
    other_after (inl (right, same)) m p = other-before m (omega arith)
    other_after (inr (occupied, more)) m p =
        on (eqb m n)
        (λ last. subst OtherAt (sym (ap (λ (k : ℕ). get_or (set others n i) k 0) (eqb-true m n last) ∙ get_or-set_same others n i 0 in_others)) (omega arith, occupied))
        (λ before. other-before m (omega (arith, eqb-false m n before)))

    few-after : Here → next ≤ i + 1
    few-after (inl (right, same)) = omega (arith, s.few)
    few-after (inr (occupied, more)) = omega (arith, s.few)

    sorted_here : Here → Sorted memory (i + 1) 0 next (set others n i) (set marks i mark)
    sorted_here here =
        record {
          either = λ j p.
              on (eqb j i)
              (λ same. subst (λ (k : ℕ). IsMarked memory (set marks i mark) k ⊎ IsOther (set others n i) 0 next k) (sym (eqb-true j i same)) (either-here here))
              (λ before.
              let q : j < i = omega (arith, eqb-false j i before) in
              either-before here j q (s.either j q));
          other = other_after here;
          few = few-after here;
          marks_long = length-set marks i mark ∙ s.marks_long;
          others_long = length-set others n i ∙ s.others_long;
        }

    -- which of the two it is, by its tests
    pub sorted_more : (alike occupied : Bool) (more : ℕ) → alike ≡ is_alike memory i → occupied ≡ set_holds memory i → mark ≡ alike && occupied
        → more ≡ cond (not alike && occupied) 1 0 → next ≡ n + more → Sorted memory (i + 1) 0 next (set others n i) (set marks i mark)
    sorted_more true true more a o m p q = sorted_here (inl (m ∙ there-alike memory i (sym o) room (sym a), omega arith))
    sorted_more false true more a o m p q = sorted_here (inr (sym o, omega arith))
    sorted_more true false more a o m p q = sorted_here (inl (m ∙ there-empty memory i (sym o), omega arith))
    sorted_more false false more a o m p q = sorted_here (inl (m ∙ there-empty memory i (sym o), omega arith))

  module _ (k n : ℕ) (others : List ℕ) (marks : List Bool) (s : Sorted memory slot_count k n others marks) where
    -- one of the others is marked
    module _ (p : k < n) where
      abbrev at : ℕ
      at = get_or others k 0

      either-next : (mark : Bool) → at < length marks → (j : ℕ) → (j ≡ at → ⊥) → IsMarked memory marks j ⊎ IsOther others k n j
          → IsMarked memory (set marks at mark) j ⊎ IsOther others (k + 1) n j
      either-next mark inside j beside (inl e) = inl (marked_beside marks at mark inside j beside e)
      either-next mark inside j beside (inr (m, low, q, e)) =
          on (eqb m k)
          (λ same. absurd (beside (sym e ∙ ap (λ (l : ℕ). get_or others l 0) (eqb-true m k same))))
          (λ other. inr (m, omega (arith, eqb-false m k other), q, e))

      pub sorted_next : (mark : Bool) → mark ≡ is_there memory at → Sorted memory slot_count (k + 1) n others (set marks at mark)
      sorted_next mark right =
          let inside : at < length marks = omega (arith, (s.other k p).0, s.marks_long) in
          record {
            either = λ j q.
                on (eqb j at)
                (λ same. inl (marked-here marks at mark inside right j (eqb-true j at same)))
                (λ other. either-next mark inside j (eqb-false j at other) (s.either j q));
            other = s.other;
            few = s.few;
            marks_long = length-set marks at mark ∙ s.marks_long;
            others_long = s.others_long;
          }

    marked : n ≤ k → (j : ℕ) → IsMarked memory marks j ⊎ IsOther others k n j → IsMarked memory marks j
    marked past j (inl e) = e
    marked past j (inr (m, low, q, e)) = absurd (omega arith)

    -- none of the others is left
    pub sorted_all : n ≤ k → marks ≡ all_there memory
    sorted_all past =
        ext_get_or false marks (all_there memory) (s.marks_long ∙ sym (length-there memory))
        (λ j p.
        let q : j < slot_count = omega (arith, s.marks_long) in
        marked past j (s.either j q) ∙ sym (there-at memory j q))
