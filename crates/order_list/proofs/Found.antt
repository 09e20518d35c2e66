-- What the search among twenty order numbers answers: the same as a search of what they stand for. Of the numbers of a list it is where
-- the number is listed, as far as twenty orders; and from that where it is listed among fewer or more.
use Prim.Native.Nat.{ℕ, zero, suc, ◌+◌, ◌<◌, ◌≤◌}
use mathlib.Core.Path.{◌≡◌, refl, ap, ◌∙◌}
use mathlib.Core.Bool.{Bool, true, false}
use mathlib.Core.List.{List}
use lib.Dec.{eqb}
use lib.ListN.{get_or}
use native.Mathlib.Omega.{arith}
use borrow.Author.Tests.{lt-ltb, le-ltb}
use Rattle.kit.specs.Loops.{scan, find}
use Rattle.kit.proofs.Loops.{scan-at, scan-none, find-before, found-there}
use Rattle.order_list.specs.Lists.{order_at, listed_at, is_listed, numbers_of, found_at}
use Rattle.order_list.proofs.Listed.{number_at}

-- tests that agree find the same
same-find : (f g : ℕ → Bool) (m k n : ℕ) → ((i : ℕ) → k ≤ i → i < k + n → f i ≡ g i) → scan f (λ i. i) m k n ≡ scan g (λ i. i) m k n
unfolding scan
same-find f g m k zero same = refl
same-find f g m k (suc n) same = rw (same k (omega arith) (omega arith), same-find f g m (k + 1) n (λ i p q. same i (omega arith) (omega arith))) refl

pub found_as : (numbers : List ℕ) (of : ℕ → ℕ) → ((i : ℕ) → i < 20 → get_or numbers i 0 ≡ of i) → (o : ℕ)
    → found_at numbers o ≡ find (λ i. eqb (of i) o) 20
unfolding found_at
found_as numbers of same o =
    same-find (λ i. eqb (get_or numbers i 0) o) (λ i. eqb (of i) o) 20 0 20 (λ i p q. ap (λ (x : ℕ). eqb x o) (same i (omega arith)))

module _ (list : List ℕ) (o : ℕ) where
  pub found-listed : found_at (numbers_of list) o ≡ listed_at list 20 o
  unfolding listed_at
  found-listed = found_as (numbers_of list) (λ i. (order_at list i).number) (number_at list) o

  -- found among m, and so among n if it stands that early
  pub listed_in : (m n : ℕ) → listed_at list m o < m → listed_at list m o < n → listed_at list n o ≡ listed_at list m o
  unfolding listed_at
  listed_in m n p q =
      scan-at (λ i. eqb (order_at list i).number o) (λ i. i) n 0 n (listed_at list m o) (omega arith) (omega arith)
      (found-there (λ i. eqb (order_at list i).number o) m (lt-ltb (listed_at list m o) m p)).1
      (λ j a b. find-before (λ i. eqb (order_at list i).number o) m j b)

  -- found among m no earlier than n, and so not among n
  pub listed-past : (m n : ℕ) → n ≤ listed_at list m o → listed_at list n o ≡ n
  unfolding listed_at
  listed-past m n p =
      scan-none (λ i. eqb (order_at list i).number o) (λ i. i) n 0 n (λ j a b. find-before (λ i. eqb (order_at list i).number o) m j (omega arith))

  -- R-07: whether it is listed among the first j, by where it was found
  module _ (j at : ℕ) (most : j ≤ 20) (found : at ≡ found_at (numbers_of list) o) where
    there : at ≡ listed_at list 20 o
    there = found ∙ found-listed

    pub listed_early : at < j → is_listed list j o ≡ true
    listed_early p = lt-ltb (listed_at list j o) j (omega (arith, there, listed_in 20 j (omega (arith, there)) (omega (arith, there))))

    pub listed-late : j ≤ at → is_listed list j o ≡ false
    listed-late p = le-ltb (listed_at list j o) j (omega (arith, listed-past 20 j (omega (arith, there))))
