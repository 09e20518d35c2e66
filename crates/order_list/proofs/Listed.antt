-- What the search of an order number in the list answers, and the same among the twenty order numbers at hand.
use Prim.Native.Nat.{ℕ, ◌<◌}
use mathlib.Core.Path.{◌≡◌}
use mathlib.Core.Bool.{true, false}
use mathlib.Core.List.{List}
use lib.Dec.{eqb}
use lib.ListN.{length, get_or}
use borrow.Author.Tests.{eqb-true, eqb-false, eq-eqb}
use Rattle.kit.proofs.Cases.{given}
use Rattle.kit.proofs.Each.{length-one-each, one-each_at}
use Rattle.kit.proofs.Loops.{found-there, found_none, found_when}
use Rattle.order_list.specs.Lists.{order_at, listed_at, is_listed, numbers_of}

module _ (list : List ℕ) (n o : ℕ) where
  pub listed-there : is_listed list n o ≡ true → (listed_at list n o < n) × ((order_at list (listed_at list n o)).number ≡ o)
  unfolding listed_at
  listed-there h = given (found-there (λ j. eqb (order_at list j).number o) n h) (λ (p, e). (p, eqb-true _ o e))

  pub listed-none : (j : ℕ) → is_listed list n o ≡ false → j < n → (order_at list j).number ≡ o → ⊥
  unfolding listed_at
  listed-none j h p = eqb-false _ o (found_none (λ i. eqb (order_at list i).number o) n j h p)

  pub listed_when : (j : ℕ) → j < n → (order_at list j).number ≡ o → is_listed list n o ≡ true
  unfolding listed_at
  listed_when j p e = found_when (λ i. eqb (order_at list i).number o) n j p (eq-eqb _ o e)

-- ---- the order numbers at hand

module _ (list : List ℕ) where
  pub numbers-long : length (numbers_of list) ≡ 20
  unfolding numbers_of
  numbers-long = length-one-each (λ j. (order_at list j).number) 20

  pub number_at : (j : ℕ) → j < 20 → get_or (numbers_of list) j 0 ≡ (order_at list j).number
  unfolding numbers_of
  number_at = one-each_at (λ j. (order_at list j).number) 20 0
