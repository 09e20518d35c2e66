-- Laws of `Filled`: nothing, one element more, and all; and the same where the target is another array, mapped.
use Prim.Native.Nat.{ℕ, ◌+◌, ◌<◌, ◌≤◌}
use mathlib.Core.Path.{◌≡◌, ◌∙◌, sym, subst}
use mathlib.Core.List.{List, map}
use lib.Dec.{eqb}
use lib.ListN.{length, get_or, set, length-set, length-map}
use lib.Seq.{get_or-set_same, get_or-set_other, ext_get_or}
use native.Mathlib.Omega.{arith}
use borrow.Author.Tests.{eqb-true, eqb-false}
use Rattle.kit.specs.Fill.{Filled}
use Rattle.kit.proofs.Cases.{on}
use Rattle.kit.proofs.Maps.{map_at}

module _ {A : Type 0} {other : A} {target : List A} where
  pub filled_none : {start : List A} → length start ≡ length target → Filled other target 0 start
  filled_none long = record { same = λ j p. absurd (omega arith); long = long }

  pub filled_more : {so_far : List A} {n : ℕ} {element : A} → n < length target → Filled other target n so_far → element ≡ get_or target n other
      → Filled other target (n + 1) (set so_far n element)
  filled_more {so_far} {n} {element} room f e =
      record {
        same = λ j p.
            on (eqb j n)
            (λ here. subst (λ k. get_or (set so_far n element) k other ≡ get_or target k other) (sym (eqb-true j n here)) (get_or-set_same so_far n element other (omega (arith, f.long)) ∙ e))
            (λ there. get_or-set_other so_far n j element other (eqb-false j n there) ∙ f.same j (omega (arith, eqb-false j n there)));
        long = length-set so_far n element ∙ f.long;
      }

  pub filled-all : {so_far : List A} {n : ℕ} → length target ≤ n → Filled other target n so_far → so_far ≡ target
  filled-all {so_far} {n} all f = ext_get_or other so_far target f.long (λ i p. f.same i (omega (arith, f.long)))

module _ {A B : Type 0} (f : A → B) (xs : List A) {other : B} where
  pub mapped_none : {start : List B} → length start ≡ length xs → Filled other (map f xs) 0 start
  mapped_none long = filled_none (long ∙ sym (length-map xs f))

  pub mapped_more : {so_far : List B} {n : ℕ} {element : B} (outside : A) → n < length xs → Filled other (map f xs) n so_far → element ≡ f (get_or xs n outside)
      → Filled other (map f xs) (n + 1) (set so_far n element)
  mapped_more {so_far} {n} {element} outside room filled e = filled_more (omega (arith, length-map xs f)) filled (e ∙ sym (map_at f xs n outside other room))

  pub mapped_all : {so_far : List B} {n : ℕ} → length xs ≤ n → Filled other (map f xs) n so_far → so_far ≡ map f xs
  mapped_all {so_far} {n} all filled = filled-all (omega (arith, length-map xs f)) filled
