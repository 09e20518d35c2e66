-- A desk that a making and earlier calls gave is the desk of a run of accepted lists, and so it is sound.
use Prim.Native.Nat.{ℕ}
use mathlib.Core.Path.{◌≡◌, refl, sym, ap, ◌∙◌, subst}
use mathlib.Core.List.{List, [], ◌∷◌}
use lib.Dec.{eqb}
use native.Mathlib.Omega.{arith}
use borrow.Author.Tests.{eqb-true, eqb-false, ne_eqb}
use Rattle.kit.proofs.Cases.{on}
use Rattle.wire.proofs.Answers.{verdict-accepted, verdict-refused}
use Rattle.wire.specs.Verdicts.{verdict_accepted as accepted, verdict_refused}
use Rattle.orders.specs.Orders.{list_refusal}
use Rattle.desk.specs.declared.Desk.{Desk}
use Rattle.desk.specs.Desks.{base_rest, accept_of, Made, made_fresh, called}
use Rattle.desk.proofs.Runs.{desk_run, AllAccepted}
use Rattle.desk.specs.Steps.{step_of}
use Rattle.desk.proofs.Stepping.{Sound}
use Rattle.desk.proofs.Tracing.{run_sound}

module _ (figure : ℕ) (desk : Desk) (list : List ℕ) where
  -- D-02: an accepted list makes a step
  pub accepts : list_refusal desk.places list ≡ 0 → accept_of figure desk list ≡ record { verdict = accepted; desk = step_of figure desk list }
  unfolding accept_of
  accepts e = rw e (λ i. record { verdict = verdict-accepted 0 refl i; desk = step_of figure desk list })

  -- D-18, R-24: a refused one changes nothing, the rests included
  pub refuses : (list_refusal desk.places list ≡ 0 → ⊥) → accept_of figure desk list ≡ record { verdict = verdict_refused (list_refusal desk.places list); desk = desk }
  unfolding accept_of
  refuses n = rw (ne_eqb (list_refusal desk.places list) 0 n) (λ i. record { verdict = verdict-refused (list_refusal desk.places list) n i; desk = desk })

-- the accepted lists of a desk that was made
pub made-run : {desk : Desk} → Made desk → (h : List (List ℕ)) × AllAccepted base_rest base_rest h × (desk ≡ desk_run base_rest base_rest h)
unfolding desk_run
made-run made_fresh = ([], tt, refl)
made-run (called {desk} m list) = go (made-run m)
  where
    go : (h : List (List ℕ)) × AllAccepted base_rest base_rest h × (desk ≡ desk_run base_rest base_rest h)
        → (h : List (List ℕ)) × AllAccepted base_rest base_rest h × ((accept_of base_rest desk list).desk ≡ desk_run base_rest base_rest h)
    go (h, a, e) =
        on (eqb (list_refusal desk.places list) 0)
        (λ z.
        let zero : list_refusal desk.places list ≡ 0 = eqb-true (list_refusal desk.places list) 0 z in
        (list ∷ h, (subst (λ (d : Desk). list_refusal d.places list ≡ 0) e zero, a), ap (λ r. r.desk) (accepts base_rest desk list zero) ∙ ap (λ (d : Desk). step_of base_rest d list) e))
        (λ z. (h, a, ap (λ r. r.desk) (refuses base_rest desk list (eqb-false (list_refusal desk.places list) 0 z)) ∙ e))

pub made-sound : {desk : Desk} → Made desk → Sound base_rest desk
made-sound m = go (made-run m)
  where
    go : {desk : Desk} → (h : List (List ℕ)) × AllAccepted base_rest base_rest h × (desk ≡ desk_run base_rest base_rest h) → Sound base_rest desk
    go (h, a, e) = subst (Sound base_rest) (sym e) (run_sound base_rest base_rest (omega arith) (omega arith) h a)
