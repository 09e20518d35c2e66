-- In which step an order ended, by the desk's own calls, as specs/Step.antt says it, and by the accepted lists, as the desk's promises do.
use Prim.Native.Nat.{ℕ, zero, suc, ◌+◌, ◌-◌, ◌<◌, ◌≤◌}
use mathlib.Core.Path.{◌≡◌, refl, sym, ap, ◌∙◌, subst}
use mathlib.Core.Logic.{◌↔◌}
use mathlib.Core.Bool.{true, false}
use mathlib.Core.List.{List, [], ◌∷◌, ◌++◌}
use lib.ListN.{length, get_or}
use native.Mathlib.Omega.{arith}
use Rattle.kit.proofs.Cases.{on, clash, given}
use Rattle.order_list.specs.Lists.{stands}
use Rattle.places.specs.Places.{place_at}
use Rattle.resting.specs.Rests.{is_resting}
use Rattle.desk.specs.Desks.{base_rest as eight}
use Rattle.desk.proofs.Runs.{desk_run, AllAccepted, EndedAgo}
use Rattle.desk.specs.declared.Desk.{Desk}
use Rattle.desk.proofs.Resting.{resting-exactly}
use Rattle.desk.proofs.Seating.{inside}
use Rattle.desk.proofs.Tracing.{run_sound}
use Rattle.claims.specs.Calls.{Present, accepted, steps_made, up_to, desk_of}
use Rattle.claims.specs.Step.{number_in, EndedIn, NumberRests}
use Rattle.claims.proofs.History.{present-stands, stands-present, desk_run_lem, up_to-all, made-up_to, history-next}

-- ---- an order that ended so many steps ago ended in some list, with so many after it

pub record Ending (lists : List (List ℕ)) (number ago : ℕ) : Type 0 where
  pub between : List (List ℕ)
  pub ending : List ℕ
  pub older : List (List ℕ)
  pub i : ℕ
  pub joins : lists ≡ between ++ (ending ∷ older)
  pub many : length between ≡ ago
  pub live : 1 ≤ (place_at (desk_run eight eight older).places i).order
  pub had : number_in (desk_run eight eight older) i ≡ number
  pub absent : stands ending (place_at (desk_run eight eight older).places i).order ≡ false

pub ending_of : (lists : List (List ℕ)) (number ago : ℕ) → EndedAgo eight eight lists number ago → Ending lists number ago
ending_of [] number ago e = absurd e
ending_of (list ∷ lists) number zero (i, live, had, absent) =
    record { between = []; ending = list; older = lists; i = i; joins = refl; many = refl; live = live; had = had; absent = absent }
ending_of (list ∷ lists) number (suc ago) e =
    given (ending_of lists number ago e)
    (λ it.
    record {
      between = list ∷ it.between;
      ending = it.ending;
      older = it.older;
      i = it.i;
      joins = ap (λ l. list ∷ l) it.joins;
      many = ap suc it.many;
      live = it.live;
      had = it.had;
      absent = it.absent;
    })

ended_young : (lists : List (List ℕ)) (number ago : ℕ) → EndedAgo eight eight lists number ago → ago < length lists
ended_young [] number ago e = absurd e
ended_young (list ∷ lists) number zero e = omega arith
ended_young (list ∷ lists) number (suc ago) e = omega (arith, ended_young lists number ago e)

-- ---- and by the calls

module _ (calls : List (List ℕ)) where
  abbrev pub history : ℕ → List (List ℕ)
  history n = accepted eight (up_to eight calls n)

  desk-is : (n : ℕ) → desk_of eight calls n ≡ desk_run eight eight (history n)
  desk-is n = (desk_run_lem eight (up_to eight calls n)).0

  good : (n : ℕ) → AllAccepted eight eight (history n)
  good n = (desk_run_lem eight (up_to eight calls n)).1

  -- ---- in the newest of the steps

  module _ (n number : ℕ) (list : List ℕ) (next : history (n + 1) ≡ list ∷ history n) where
    abbrev named : ℕ → ℕ
    named i = (place_at (desk_run eight eight (history n)).places i).order

    ended-now : EndedIn calls (n + 1) number → EndedAgo eight eight (history (n + 1)) number 0
    ended-now (m, order, i, is, made, (some, small, same), had, absent) =
        let e : m ≡ n = omega arith in
        let here : named i ≡ order = ap (λ (d : Desk). (place_at d.places i).order) (sym (ap (desk_of eight calls) e ∙ desk-is n)) ∙ same in
        subst (λ (l : List (List ℕ)). EndedAgo eight eight l number 0) (sym next) (
          i,
          omega arith,
          ap (λ (d : Desk). number_in d i) (sym (ap (desk_of eight calls) e ∙ desk-is n)) ∙ had,
          on (stands list order)
              (λ e. absurd (absent (subst (λ (l : List (List ℕ)). Present (get_or l 0 []) order) (sym next) (stands-present list order e))))
              (λ e. subst (λ o. stands list o ≡ false) (sym here) e),
        )

    now-ended : n + 1 ≤ steps_made eight calls → EndedAgo eight eight (history (n + 1)) number 0 → EndedIn calls (n + 1) number
    now-ended made e = go (subst (λ (l : List (List ℕ)). EndedAgo eight eight l number 0) next e)
      where
        go : EndedAgo eight eight (list ∷ history n) number 0 → EndedIn calls (n + 1) number
        go (i, some, had, absent) = (
          n,
          named i,
          i,
          omega arith,
          made,
          (
            some,
            inside (run_sound eight eight (omega arith) (omega arith) (history n) (good n)).orderly i some,
            ap (λ (d : Desk). (place_at d.places i).order) (desk-is n),
          ),
          ap (λ (d : Desk). number_in d i) (desk-is n) ∙ had,
          λ present.
              clash
              (present-stands list (named i) (subst (λ (l : List (List ℕ)). Present (get_or l 0 []) (named i)) next present))
              absent,
        )

  -- before the first step nothing has ended
  never_ended : (number : ℕ) → EndedAgo eight eight (history 0) number 0 → ⊥
  never_ended number e = omega (arith, ended_young (history 0) number 0 e, made-up_to eight calls 0 (omega arith))

  -- ---- in any step

  pub ended-then : (f ago number : ℕ) → f + ago ≤ steps_made eight calls → EndedIn calls f number ↔ EndedAgo eight eight (history (f + ago)) number ago
  ended-then zero zero number h = (λ (n, order, i, is, made, has, had, absent). absurd (omega arith), λ e. absurd (never_ended number e))
  ended-then (suc n) zero number h =
      let e : n + 1 ≡ suc n = omega arith in
      let same : n + 1 ≡ suc n + 0 = omega arith in
      given (history-next eight calls n (omega arith))
      (λ (list, next).
      let first : history (n + 1) ≡ list ∷ history n = ap history e ∙ next in (
        λ ended.
            subst (λ m. EndedAgo eight eight (history m) number 0) same
            (ended-now n number list first (subst (λ f. EndedIn calls f number) (sym e) ended)),
        λ ago.
            subst (λ f. EndedIn calls f number) e
            (now-ended n number list first (omega arith) (subst (λ m. EndedAgo eight eight (history m) number 0) (sym same) ago)),
      ))
  ended-then f (suc ago) number h = go (ended-then f ago number (omega arith)) (history-next eight calls (f + ago) (omega arith))
    where
      go : EndedIn calls f number ↔ EndedAgo eight eight (history (f + ago)) number ago
          → (list : List ℕ) × (history (suc (f + ago)) ≡ list ∷ history (f + ago))
          → EndedIn calls f number ↔ EndedAgo eight eight (history (f + suc ago)) number (suc ago)
      go same (list, next) =
          let e : suc (f + ago) ≡ f + suc ago = omega arith in
          subst (λ (l : List (List ℕ)). EndedIn calls f number ↔ EndedAgo eight eight l number (suc ago)) (sym next ∙ ap history e) same

  -- an order ended in step f exactly when it ended so many steps before the newest one
  pub ended-exactly : (f ago number : ℕ) → f + ago ≡ steps_made eight calls → EndedIn calls f number ↔ EndedAgo eight eight (accepted eight calls) number ago
  ended-exactly f ago number h =
      subst (λ (l : List (List ℕ)). EndedIn calls f number ↔ EndedAgo eight eight l number ago)
      (ap history h ∙ ap (accepted eight) (up_to-all eight calls (steps_made eight calls) (omega arith))) (ended-then f ago number (omega arith))

  -- D-12: and so of the numbers that rest
  pub rests-exactly : (number : ℕ) → NumberRests calls number ↔ ((ago : ℕ) × (ago < eight) × EndedAgo eight eight (accepted eight calls) number ago)
  rests-exactly number = (
    λ (f, (n, order, i, is, made, has, had, absent), young).
        (steps_made eight calls - f, omega arith, (ended-exactly f (steps_made eight calls - f) number (omega arith)).0 (n, order, i, is, made, has, had, absent)),
    λ (ago, young, e).
        let early = ended_young (accepted eight calls) number ago e in
        (steps_made eight calls - ago, (ended-exactly (steps_made eight calls - ago) ago number (omega arith)).1 e, omega arith),
  )

-- D-12, A-05: what a desk keeps of ended numbers says which of them rest
pub rests-kept : (calls lists : List (List ℕ)) → accepted eight calls ≡ lists → (number : ℕ) → 1 ≤ number
    → (is_resting eight (desk_run eight eight lists).step (desk_run eight eight lists).ended number ≡ true) ↔ NumberRests calls number
rests-kept calls lists are number p =
    subst (λ (l : List (List ℕ)). (is_resting eight (desk_run eight eight l).step (desk_run eight eight l).ended number ≡ true) ↔ NumberRests calls number) are
    (λ e. (rests-exactly calls number).1 (kept.0 e), λ r. kept.1 ((rests-exactly calls number).0 r))
  where
    kept : (is_resting eight (desk_run eight eight (accepted eight calls)).step (desk_run eight eight (accepted eight calls)).ended number ≡ true)
        ↔ ((ago : ℕ) × (ago < eight) × EndedAgo eight eight (accepted eight calls) number ago)
    kept = resting-exactly eight eight (omega arith) (omega arith) (accepted eight calls) number (desk_run_lem eight calls).1 p
