-- Two texts are the same exactly when their bytes are, which is what `==` says.
use Prim.Native.Nat.{ℕ}
use mathlib.Core.Path.{◌≡◌, refl, sym, ap, subst}
use mathlib.Core.Bool.{Bool, true, false, not}
use mathlib.Core.List.{List}
use lib.ListN.{length, get_or}
use lib.Seq.{ext_get_or}
use lib.Dec.{eqb}
use lib.Pointwise.{pointwise}
use native.Mathlib.Omega.{arith}
use borrow.Author.Tests.{eq-eqb, eqb-true, not-true, not-false}
use Rattle.std.specs.Cmp.Lexicographic.{same_text, other_text}
use Rattle.std.specs.Prelude.{nat_eq}
use Rattle.kit.specs.Loops.{any}
use Rattle.kit.proofs.Cases.{on, and_both}
use Rattle.kit.proofs.Loops.{any_none, scan-none}
use Rattle.same_text.specs.Same.{differs_at, is_same_text}

pub same_bytes : (text words : List ℕ) → is_same_text text words ≡ true → text ≡ words
unfolding is_same_text
same_bytes text words e =
    let (long, none) = and_both (eqb (length text) (length words)) (not (any (differs_at text words) 0 (length words))) e in
    let equal : length text ≡ length words = eqb-true (length text) (length words) long in
    ext_get_or 0 text words equal
    (λ i p. eqb-true (get_or text i 0) (get_or words i 0)
    (not-false (eqb (get_or text i 0) (get_or words i 0)) (any_none (differs_at text words) 0 (length words) (not-true (any (differs_at text words) 0 (length words)) none) i (omega arith) (omega arith))))

same-itself : (text : List ℕ) → is_same_text text text ≡ true
unfolding is_same_text
same-itself text =
    rw (
      eq-eqb (length text) (length text) refl,
      scan-none (differs_at text text) (λ i. true) false 0 (length text) (λ j p q. ap not (eq-eqb (get_or text j 0) (get_or text j 0) refl)),
    )
    refl

-- what `==` answers
pub same_told : (answer : Bool) (text words : List ℕ) → answer ≡ pointwise nat_eq text words → answer ≡ is_same_text text words
same_told true text words e = let one = same_text text words e in subst (λ other. true ≡ is_same_text text other) one (sym (same-itself text))
same_told false text words e =
    on (is_same_text text words)
    (λ same. absurd (other_text text words e (same_bytes text words same)))
    (λ other. sym other)
