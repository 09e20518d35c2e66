-- Arrays that a closure makes, one element after another, where a call of the closure leaves it as it was: by `array::from_fn`, and by an
-- array's `map`.
use Prim.Native.Nat.{ℕ, zero, suc, ◌+◌, ◌<◌, ◌≤◌}
use mathlib.Core.Path.{◌≡◌, ap, sym, ◌∙◌, subst}
use mathlib.Core.List.{List, [], ◌∷◌, map}
use lib.Dec.{eqb}
use lib.ListN.{length, get_or, length-map}
use lib.Seq.{ext_get_or}
use native.Mathlib.Omega.{arith}
use borrow.Author.Tests.{eqb-true, eqb-false}
use denote.Param.Members.{Mut, Called}
use Rattle.std.specs.Array.{IsFromFnResult, IsFromFnResultFrom, IsMapOf, MapsFrom}
use Rattle.kit.proofs.Cases.{on}
use Rattle.kit.specs.Each.{each}
use Rattle.kit.proofs.Each.{length-one-each, one-each_at}
use Rattle.kit.proofs.Maps.{map_at}

-- `array::from_fn`
module _ {F B : Type 0} (g : Mut F (ℕ × Unit {0}) B) (f : F) (of : ℕ → B) (m : ℕ)
    (tells : (i : ℕ) (y : B) (q : F) → i < m → Called g f (i, tt) y q → (q ≡ f) × (y ≡ of i)) where
  from : (ys : List B) (d : B) (i n j : ℕ) → i + n ≤ m → IsFromFnResultFrom g f ys i n → i ≤ j → j < i + n → get_or ys j d ≡ of j
  from ys d i zero j all made p r = absurd (omega arith)
  from ys d i (suc n) j all (q, y, (here, at), called, rest) p r =
      let told : (q ≡ f) × (y ≡ of i) = tells i y q (omega arith) called in
      on (eqb i j)
      (λ e. subst (λ k. get_or ys k d ≡ of k) (eqb-true i j e) (at d ∙ told.1))
      (λ e. from ys d (i + 1) n j (omega arith) (subst (λ s. IsFromFnResultFrom g s ys (i + 1) n) told.0 rest) (omega (arith, eqb-false i j e)) (omega arith))

  pub made-at : (ys : List B) (d : B) (j : ℕ) → IsFromFnResult g f ys m → j < m → get_or ys j d ≡ of j
  made-at ys d j made p = from ys d 0 m j (omega arith) made.each (omega arith) (omega arith)

  pub made_each : (ys : List B) → B → IsFromFnResult g f ys m → ys ≡ each (λ i. of i ∷ []) 0 m
  made_each ys d made =
      ext_get_or d ys (each (λ i. of i ∷ []) 0 m) (made.long ∙ sym (length-one-each of m))
      (λ k p. let inside : k < m = omega (arith, made.long) in made-at ys d k made inside ∙ sym (one-each_at of m d k inside))

  -- of the elements of another array
  pub made_map : {A : Type 0} (h : A → B) (xs : List A) (c : A) → length xs ≡ m → ((i : ℕ) → of i ≡ h (get_or xs i c)) → (ys : List B) → B → IsFromFnResult g f ys m
      → ys ≡ map h xs
  made_map h xs c long same ys d made =
      ext_get_or d ys (map h xs) (made.long ∙ sym (length-map xs h ∙ long)) (λ k p.
      let inside : k < m = omega (arith, made.long) in
      made-at ys d k made inside ∙ (same k ∙ sym (map_at h xs k c d (omega (arith, long)))))

-- an array's `map`
module _ {F A B : Type 0} (g : Mut F (A × Unit {0}) B) (f : F) (of : A → B) (tells : (x : A) (y : B) (q : F) → Called g f (x, tt) y q → (q ≡ f) × (y ≡ of x)) where
  mapped : (xs : List A) (ys : List B) (c : A) (d : B) (i n j : ℕ) → MapsFrom g f xs ys i n → i ≤ j → j < i + n → get_or ys j d ≡ of (get_or xs j c)
  mapped xs ys c d i zero j made p r = absurd (omega arith)
  mapped xs ys c d i (suc n) j (q, x, y, (_, from), (_, to), called, rest) p r =
      let told : (q ≡ f) × (y ≡ of x) = tells x y q called in
      on (eqb i j)
      (λ e. subst (λ k. get_or ys k d ≡ of (get_or xs k c)) (eqb-true i j e) (to d ∙ (told.1 ∙ ap of (sym (from c)))))
      (λ e. mapped xs ys c d (i + 1) n j (subst (λ s. MapsFrom g s xs ys (i + 1) n) told.0 rest) (omega (arith, eqb-false i j e)) (omega arith))

  pub mapped-all : (xs : List A) (ys : List B) (c : A) (d : B) (n : ℕ) → length xs ≡ n → IsMapOf g f xs ys n → ys ≡ map of xs
  mapped-all xs ys c d n long made =
      ext_get_or d ys (map of xs) (made.long ∙ sym (length-map xs of ∙ long)) (λ i p.
      let inside : i < n = omega (arith, made.long) in
      mapped xs ys c d 0 n i made.each (omega arith) (omega arith) ∙ sym (map_at of xs i c d (omega (arith, long))))
