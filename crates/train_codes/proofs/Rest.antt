-- The bytes of a list from an index on, tested one after another.
use Rattle.std.proofs.Common.{◌≡◌, ℕ, zero, suc, ◌+◌, ◌<◌, ◌≤◌, Bool, List, length, get_or, take, drop, refl, arith}
use Rattle.std.proofs.lemmas.List.{drop_more}
use Rattle.std.specs.List.{list_any}
use Rattle.kit.specs.Loops.{any, scan}
use Rattle.kit.proofs.Cases.{on}

pub any_list : (test : ℕ → Bool) (t : List ℕ) (n k : ℕ) → k + n ≤ length t → any (λ i. test (get_or t i 0)) k n ≡ list_any test (take n (drop k t))
unfolding scan
any_list test t zero k e = refl
any_list test t (suc n) k e =
    let inside : k < length t = omega arith in
    rw (drop_more t k 0 inside) (on (test (get_or t k 0)) (λ h. rw h refl) (λ h. rw h (any_list test t n (k + 1) (omega arith))))
