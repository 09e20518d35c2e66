-- Laws of membership, and the pigeonhole: of n different numbers one stands outside any list that is shorter than n.
use Prim.Native.Nat.{ℕ, zero, suc, ◌+◌, ◌<◌}
use mathlib.Core.Path.{◌≡◌, refl, sym, ap, ◌∙◌}
use mathlib.Core.Bool.{true, false, ◌||◌}
use mathlib.Core.List.{List, [], ◌∷◌, ◌++◌, map}
use native.Mathlib.Omega.{arith}
use native.Mathlib.Nat.{not-suc-le-zero}
use lib.Dec.{eqb}
use lib.ListN.{length, get_or}
use borrow.Author.Tests.{eqb-true, eqb-false, eq-eqb, ne_eqb}
use Rattle.kit.specs.Member.{member, without}
use Rattle.kit.proofs.Cases.{on, clash, given}

pub member_append : (x : ℕ) (a b : List ℕ) → member x (a ++ b) ≡ member x a || member x b
member_append x [] b = refl
member_append x (y ∷ a) b = on (eqb x y) (λ e. rw e refl) (λ e. rw e (member_append x a b))

-- what stands at an index of a list is a member of it, and so is what is made of it of what is made of the list
pub member-map : {A : Type 0} (of : A → ℕ) (other : A) (l : List A) (i : ℕ) → i < length l → member (of (get_or l i other)) (map of l) ≡ true
member-map of other [] i p = absurd (omega arith)
member-map of other (x ∷ l) zero p = rw (eq-eqb (of x) (of x) refl) refl
member-map of other (x ∷ l) (suc i) p =
    on (eqb (of (get_or l i other)) (of x)) (λ e. rw e refl) (λ e. rw e (member-map of other l i (omega arith)))

pub length_without : (x : ℕ) (l : List ℕ) → member x l ≡ true → suc (length (without x l)) ≡ length l
length_without x [] h = absurd (clash h refl)
length_without x (y ∷ l) h = on (eqb x y) (λ e. rw e refl) (λ e. rw e (ap suc (length_without x l (rw e at h))))

pub member-without : (x y : ℕ) (l : List ℕ) → (y ≡ x → ⊥) → member y (without x l) ≡ member y l
member-without x y [] n = refl
member-without x y (z ∷ l) n =
    on (eqb x z)
    (λ e. rw (e, ne_eqb y z (λ q. n (q ∙ sym (eqb-true x z e)))))
    (λ e. rw (e, member-without x y l n))

pub pigeonhole : (f : ℕ → ℕ) (n : ℕ) → ((i j : ℕ) → i < n → j < n → f i ≡ f j → i ≡ j) → (l : List ℕ) → length l < n
    → (i : ℕ) × (i < n) × (member (f i) l ≡ false)
pigeonhole f zero inj l h = absurd (not-suc-le-zero h)
pigeonhole f (suc n) inj l h =
    on (member (f n) l)
    (λ e.
    given (pigeonhole f n (λ i j p q. inj i j (omega arith) (omega arith)) (without (f n) l) (omega (arith, length_without (f n) l e)))
    (λ (i, p, q). (i, omega arith, sym (member-without (f n) (f i) l (λ s. omega (arith, inj i n (omega arith) (omega arith) s))) ∙ q)))
    (λ e. (n, omega arith, e))

-- the numbers below m, for the pigeonhole over a bound
below : ℕ → List ℕ
below zero = []
below (suc m) = m ∷ below m

length-below : (m : ℕ) → length (below m) ≡ m
unfolding below
length-below zero = refl
length-below (suc m) = ap suc (length-below m)

member_below : (x m : ℕ) → x < m → member x (below m) ≡ true
unfolding below
member_below x zero p = absurd (not-suc-le-zero p)
member_below x (suc m) p = on (eqb x m) (λ e. rw e refl) (λ e. rw e (member_below x m (omega (arith, eqb-false x m e))))

-- so n different numbers are not all below m, where m is less than n
pub too_many : (f : ℕ → ℕ) (n m : ℕ) → ((i j : ℕ) → i < n → j < n → f i ≡ f j → i ≡ j) → ((i : ℕ) → i < n → f i < m) → m < n → ⊥
too_many f n m inj small h =
    given (pigeonhole f n inj (below m) (omega (arith, length-below m))) (λ (i, p, outside). clash (member_below (f i) m (small i p)) outside)
