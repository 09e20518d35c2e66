-- Several elements stored one after another (`sets`): what stands among them, and what stands outside.
use Prim.Native.Nat.{ℕ, zero, suc, ◌+◌, ◌<◌, ◌≤◌}
use mathlib.Core.Path.{◌≡◌, refl, sym, ap, ◌∙◌, subst}
use mathlib.Core.Logic.{◌⊎◌, inl, inr}
use mathlib.Core.List.{List, [], ◌∷◌}
use lib.Dec.{eqb, ltb}
use lib.ListN.{length, get_or, set, length-set}
use lib.Seq.{get_or-set_same, get_or-set_other, set_out, sets}
use native.Mathlib.Omega.{arith}
use native.Mathlib.Nat.{add-zero}
use borrow.Author.Tests.{eqb-true, eqb-false, ltb-true, ltb-false}
use Rattle.kit.proofs.Cases.{on}

-- past the end nothing is stored
pub sets-past : {A : Type 0} (stored l : List A) (at : ℕ) → length l ≤ at → sets l at stored ≡ l
sets-past [] l at h = refl
sets-past (a ∷ stored) l at h = ap (λ m. sets m (suc at) stored) (set_out l at a h) ∙ sets-past stored l (suc at) (omega arith)

-- several stores, each at its own distance from a place, are one run
abbrev pub stores : {A : Type 0} → List A → ℕ → ℕ → List A → List A
stores l at k [] = l
stores l at k (a ∷ more) = stores (set l (at + k) a) at (suc k) more

stores-sets : {A : Type 0} (more l : List A) (at k : ℕ) → stores l at k more ≡ sets l (at + k) more
stores-sets [] l at k = refl
stores-sets (a ∷ more) l at k =
    let next : at + suc k ≡ suc (at + k) = omega arith in
    stores-sets more (set l (at + k) a) at (suc k) ∙ ap (λ (i : ℕ). sets (set l (at + k) a) i more) next

pub stored-sets : {A : Type 0} (l : List A) (at : ℕ) (a : A) (more : List A) → stores (set l at a) at 1 more ≡ sets l at (a ∷ more)
stored-sets l at a more =
    let next : at + 1 ≡ suc at = omega arith in
    stores-sets more (set l at a) at 1 ∙ ap (λ (i : ℕ). sets (set l at a) i more) next

module _ {A : Type 0} (other : A) where
  pub sets-out : (stored l : List A) (at i : ℕ) → (i < at) ⊎ (at + length stored ≤ i) → get_or (sets l at stored) i other ≡ get_or l i other
  sets-out [] l at i h = refl
  sets-out (a ∷ stored) l at i (inl h) = sets-out stored (set l at a) (suc at) i (inl (omega arith)) ∙ get_or-set_other l at i a other (omega arith)
  sets-out (a ∷ stored) l at i (inr h) = sets-out stored (set l at a) (suc at) i (inr (omega arith)) ∙ get_or-set_other l at i a other (omega arith)

  pub sets_in : (stored l : List A) (at j : ℕ) → j < length stored → at + length stored ≤ length l → get_or (sets l at stored) (at + j) other ≡ get_or stored j other
  sets_in [] l at j h room = absurd (omega arith)
  sets_in (a ∷ stored) l at zero h room =
      rw add-zero (sets-out stored (set l at a) (suc at) at (inl (omega arith)) ∙ get_or-set_same l at a other (omega arith))
  sets_in (a ∷ stored) l at (suc j) h room =
      subst (λ t. get_or (sets l at (a ∷ stored)) t other ≡ get_or stored j other) (omega arith)
      (sets_in stored (set l at a) (suc at) j (omega arith) (omega (arith, length-set l at a)))

  -- what holds of each element, and of each that is stored, holds of each afterwards
  set-each : (P : A → Type 0) (l : List A) (at : ℕ) (a : A) → P a → ((i : ℕ) → P (get_or l i other)) → (i : ℕ) → P (get_or (set l at a) i other)
  set-each P l at a own each i =
      on (eqb i at)
      (λ e.
      on (ltb at (length l))
      (λ inside. subst P (sym (ap (λ k. get_or (set l at a) k other) (eqb-true i at e) ∙ get_or-set_same l at a other (ltb-true at (length l) inside))) own)
      (λ past. subst (λ m. P (get_or m i other)) (sym (set_out l at a (ltb-false at (length l) past))) (each i)))
      (λ e. subst P (sym (get_or-set_other l at i a other (eqb-false i at e))) (each i))

  pub sets-each : (P : A → Type 0) (stored l : List A) (at : ℕ) → ((i : ℕ) → i < length stored → P (get_or stored i other)) → ((i : ℕ) → P (get_or l i other)) → (i : ℕ) → P (get_or (sets l at stored) i other)
  sets-each P [] l at own each i = each i
  sets-each P (a ∷ stored) l at own each i =
      sets-each P stored (set l at a) (suc at) (λ k p. own (suc k) (omega arith)) (set-each P l at a (own 0 (omega arith)) each) i
