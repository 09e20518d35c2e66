-- Whether two lists of numbers are the same, as a test that the checker computes; and what the test says.
use Prim.Native.Nat.{ℕ}
use mathlib.Core.Path.{◌≡◌, refl, ap₂}
use mathlib.Core.Bool.{Bool, true, false, ◌&&◌}
use mathlib.Core.List.{List, [], ◌∷◌}
use lib.Dec.{eqb}
use borrow.Author.Tests.{eqb-true}
use Rattle.kit.proofs.Cases.{clash, given, and_both}

unfoldable pub same : List ℕ → List ℕ → Bool
same [] [] = true
same [] (y ∷ b) = false
same (x ∷ a) [] = false
same (x ∷ a) (y ∷ b) = eqb x y && same a b

pub same_equal : (a b : List ℕ) → same a b ≡ true → a ≡ b
unfolding same
same_equal [] [] e = refl
same_equal [] (y ∷ b) e = absurd (clash e refl)
same_equal (x ∷ a) [] e = absurd (clash e refl)
same_equal (x ∷ a) (y ∷ b) e = given (and_both (eqb x y) (same a b) e) (λ (here, there). ap₂ ◌∷◌ (eqb-true x y here) (same_equal a b there))
