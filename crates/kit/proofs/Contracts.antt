-- The law by which a contract admits one answer: what a contract says to be equal to one thing is equal. It holds of an answer, of a
-- next state and of a buffer alike; two outcomes of putting the same bytes into the same buffer agree by it in both.
use Prim.Native.Nat.{ℕ}
use mathlib.Core.Path.{◌≡◌, sym, ◌∙◌}
use mathlib.Core.List.{List}
use seplogic.Ra.Ura.{Ura}
use base.Logic.{ent}
use contract.Monad.{conj, conj_l, conj_r, fact, fact_i, fact_use}
use Rattle.kit.specs.Put.{Poured}

pub agree : {A : Type 0} {x y z : A} → x ≡ z → y ≡ z → x ≡ y
agree p q = p ∙ sym q

pub agree-poured : {before bytes after other : List ℕ} {at next past : ℕ} → Poured before at bytes after next → Poured before at bytes other past → (next ≡ past) × (after ≡ other)
agree-poured p q = (agree p.past q.past, agree p.stored q.stored)

-- what two facts give, as it is asserted in a model
pub both_facts : {M : Type 1} (𝓤 : Ura M) (φ ψ χ : Type 0) → (φ → ψ → χ) → ent 𝓤 (conj 𝓤 (fact 𝓤 φ) (fact 𝓤 ψ)) (fact 𝓤 χ)
both_facts 𝓤 φ ψ χ f =
    fact_use 𝓤 φ (conj_l 𝓤 (fact 𝓤 φ) (fact 𝓤 ψ)) (λ x. fact_use 𝓤 ψ (conj_r 𝓤 (fact 𝓤 φ) (fact 𝓤 ψ)) (λ y. fact_i 𝓤 χ (conj 𝓤 (fact 𝓤 φ) (fact 𝓤 ψ)) (f x y)))
