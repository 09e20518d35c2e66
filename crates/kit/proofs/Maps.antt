-- A list mapped, read at an index inside it, whatever stands for what lies outside; and a list of one value, read anywhere.
use Prim.Native.Nat.{ℕ, zero, suc, ◌<◌}
use mathlib.Core.Path.{◌≡◌, refl}
use mathlib.Core.List.{List, [], ◌∷◌, map}
use lib.Dec.{ltb}
use lib.ListN.{length, get_or, replicate, length-replicate, get_or-replicate, get_or-eq_default}
use native.Mathlib.Nat.{not-suc-le-zero}
use native.Mathlib.Omega.{arith}
use borrow.Author.Tests.{ltb-true, ltb-false}
use Rattle.kit.proofs.Cases.{on}

pub map_at : {A B : Type 0} (f : A → B) (l : List A) (k : ℕ) (other : A) (otherwise : B) → k < length l → get_or (map f l) k otherwise ≡ f (get_or l k other)
map_at f [] k other otherwise p = absurd (not-suc-le-zero p)
map_at f (x ∷ l) zero other otherwise p = refl
map_at f (x ∷ l) (suc k) other otherwise p = map_at f l k other otherwise (omega arith)

-- past its end too, where that value stands for what lies outside
pub replicate-at : {A : Type 0} (n i : ℕ) (x : A) → get_or (replicate n x) i x ≡ x
replicate-at n i x =
    on (ltb i n)
    (λ e. get_or-replicate n i x x (ltb-true i n e))
    (λ e. get_or-eq_default (replicate n x) x {n = i} (omega (arith, length-replicate n x, ltb-false i n e)))
