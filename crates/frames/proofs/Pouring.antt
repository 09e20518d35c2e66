-- The whole output of a whole input, poured from the buffer's start on, call by call: what is poured so far and what is still to come make
-- the whole. These are laws that docs/PORT.md names: the code puts its output on sheets now, the laws hold as they did.
use Prim.Native.Nat.{ℕ, ◌≤◌}
use mathlib.Core.Path.{◌≡◌, refl, sym, ap, ◌∙◌}
use mathlib.Core.List.{List, [], ◌++◌, append-nil, append_assoc}
use lib.ListN.{length}
use native.Mathlib.Omega.{arith}
use Rattle.kit.specs.Put.{Poured}
use Rattle.kit.proofs.Put.{poured-none, poured-then, poured_as, poured-length}

pub record Pouring (before whole after : List ℕ) (at : ℕ) (later : List ℕ) : Type 0 where
  pub so_far : List ℕ
  pub poured : Poured before 0 so_far after at
  pub together : so_far ++ later ≡ whole

pub pouring_start : {l whole : List ℕ} → Pouring l whole l 0 whole
pouring_start {l} = record { so_far = []; poured = poured-none l 0 (omega arith); together = refl }

pub pouring_more : {l whole m n a later : List ℕ} {j k : ℕ} → Pouring l whole m j (a ++ later) → Poured m j a n k → Pouring l whole n k later
pouring_more {a = a} {later} p q =
    record { so_far = p.so_far ++ a; poured = poured-then p.poured q; together = append_assoc p.so_far a later ∙ p.together }

-- what is still to come, under another name
pub pouring_as : {l whole m later other : List ℕ} {j : ℕ} → later ≡ other → Pouring l whole m j later → Pouring l whole m j other
pouring_as e p = record { so_far = p.so_far; poured = p.poured; together = ap (λ x. p.so_far ++ x) (sym e) ∙ p.together }

pub pouring_last : {l whole m : List ℕ} {j : ℕ} → Pouring l whole m j [] → Poured l 0 whole m j
pouring_last p = poured_as (sym p.together ∙ append-nil p.so_far) p.poured

pub pouring_end : {l whole m n a : List ℕ} {j k : ℕ} → Pouring l whole m j a → Poured m j a n k → Poured l 0 whole n k
pouring_end {a = a} p q = pouring_last (pouring_more (pouring_as (sym (append-nil a)) p) q)

pub pouring_length : {l whole m later : List ℕ} {j : ℕ} → Pouring l whole m j later → length m ≡ length l
pouring_length p = poured-length p.poured

-- the place is within the buffer
pub pouring_room : {l whole m later : List ℕ} {j : ℕ} → Pouring l whole m j later → j ≤ length m
pouring_room p = omega (arith, p.poured.past, poured-length p.poured)
