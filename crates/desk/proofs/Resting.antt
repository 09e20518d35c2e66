-- D-12 on the lists themselves: the numbers that rest are exactly those of the orders that ended in this step or in one of the
-- rest - 1 accepted steps before. Nothing older looks as if it rested, however long the desk has run (A-05).
use Prim.Native.Nat.{ℕ, zero, suc, ◌+◌, ◌*◌, ◌/◌, ◌<◌, ◌≤◌}
use mathlib.Core.Path.{◌≡◌, sym, ap, ◌∙◌, subst}
use mathlib.Core.Logic.{◌↔◌}
use mathlib.Core.Bool.{true}
use mathlib.Core.List.{List, [], ◌∷◌}
use native.Mathlib.Omega.{arith}
use Rattle.kit.proofs.Cases.{given}
use Rattle.condition.specs.Slots.{slot_count}
use Rattle.orders.proofs.Lists.{fair}
use Rattle.resting.specs.Rests.{ended_at, is_resting}
use Rattle.resting.specs.declared.Ended.{Ended}
use Rattle.resting.proofs.Rested.{resting-some, resting_when}
use Rattle.desk.proofs.Runs.{desk_run, AllAccepted, EndedAgo}
use Rattle.desk.proofs.Seating.{inside}
use Rattle.desk.proofs.Stepping.{Sound, Entry, begun, moved, entry, rests, moves}
use Rattle.desk.proofs.Tracing.{run_sound, fresh-ended}

module _ (rest rows : ℕ) (enough : rest ≤ rows) (few : rows ≤ 11) where
  -- an entry in row k is of an order that ended k steps ago
  pub entry-ended : (h : List (List ℕ)) (r x : ℕ) → AllAccepted rest rows h → 1 ≤ x → (ended_at (desk_run rest rows h).ended r).number ≡ x → EndedAgo rest rows h x (r / slot_count)
  unfolding desk_run
  entry-ended [] r x a p e = absurd (omega (arith, rw fresh-ended at e))
  entry-ended (l ∷ h) r x (q, a) p e =
      go (λ before. entry-ended h before x a p) (entry rest rows enough few (desk_run rest rows h) s l (fair (desk_run rest rows h).places l q) r (omega arith))
    where
      s : Sound rows (desk_run rest rows h)
      s = run_sound rest rows enough few h a

      go : ((before : ℕ) → (ended_at (desk_run rest rows h).ended before).number ≡ x → EndedAgo rest rows h x (before / slot_count))
          → Entry rest rows enough few (desk_run rest rows h) s l (fair (desk_run rest rows h).places l q) r
          → EndedAgo rest rows (l ∷ h) x (r / slot_count)
      go older (begun small named absent there) =
          let row : 0 ≡ r / slot_count = omega arith in
          subst (λ k. EndedAgo rest rows (l ∷ h) x k) row (r, named, sym (ap (λ (y : Ended). y.number) there) ∙ e, absent)
      go older (moved before back small there) =
          let row : suc (before / slot_count) ≡ r / slot_count = omega arith in
          subst (λ k. EndedAgo rest rows (l ∷ h) x k) row (older before (sym (ap (λ (y : Ended). y.number) there) ∙ e))

  -- and of an order that ended k steps ago there is one in row k
  pub ended_entry_lem : (h : List (List ℕ)) (x k : ℕ) → AllAccepted rest rows h → k < rows → EndedAgo rest rows h x k
      → (r : ℕ) × (r < slot_count * rows) × (r / slot_count ≡ k) × ((ended_at (desk_run rest rows h).ended r).number ≡ x)
  unfolding desk_run
  ended_entry_lem [] x k a p e = absurd e
  ended_entry_lem (l ∷ h) x zero (q, a) p (i, named, number, absent) =
      let s : Sound rows (desk_run rest rows h) = run_sound rest rows enough few h a in
      let small : i < slot_count = inside s.orderly i named in (
        i,
        omega arith,
        omega arith,
        rests rest rows enough few (desk_run rest rows h) s l (fair (desk_run rest rows h).places l q) (omega arith) i named absent ∙ number,
      )
  ended_entry_lem (l ∷ h) x (suc k) (q, a) p e =
      given (ended_entry_lem h x k a (omega arith) e)
      (λ (r, small, row, number). (
        slot_count + r,
        omega arith,
        omega arith,
        ap (λ (y : Ended). y.number) (moves rest rows enough few (desk_run rest rows h) (run_sound rest rows enough few h a) l (fair (desk_run rest rows h).places l q) r (omega arith)) ∙ number,
      ))

  -- D-12: a number rests exactly when an order that had it ended in this step or in one of the rest - 1 before
  pub resting-exactly : (h : List (List ℕ)) (x : ℕ) → AllAccepted rest rows h → 1 ≤ x
      → (is_resting rest (desk_run rest rows h).step (desk_run rest rows h).ended x ≡ true) ↔ ((k : ℕ) × (k < rest) × EndedAgo rest rows h x k)
  resting-exactly h x a p =
      let s : Sound rows (desk_run rest rows h) = run_sound rest rows enough few h a in (
        λ e.
            given (resting-some rest (desk_run rest rows h).step (desk_run rest rows h).ended x e)
            (λ (r, small, number, young).
            (r / slot_count, omega (arith, (s.aged r (omega arith)).1), entry-ended h r x a p number)),
        λ (k, young, e).
            given (ended_entry_lem h x k a (omega arith) e)
            (λ (r, small, row, number).
            resting_when rest (desk_run rest rows h).step (desk_run rest rows h).ended x r (omega (arith, s.kept)) number (omega (arith, (s.aged r (omega arith)).1))),
      )
