-- What a step does is proved, of every run of calls: one step (OneStep.antt), the tables after it, and the numbers that rest.
use Prim.Native.Nat.{ℕ, ◌+◌, ◌-◌, ◌<◌, ◌≤◌}
use mathlib.Core.Path.{◌≡◌, refl, sym, ap, ◌∙◌, subst}
use mathlib.Core.Logic.{◌↔◌}
use mathlib.Core.Bool.{true}
use mathlib.Core.List.{List, [], ◌∷◌, map}
use lib.Dec.{eqb, ltb}
use lib.ListN.{length, length-map, get_or}
use native.Mathlib.Omega.{arith}
use borrow.Author.Tests.{eqb-true, eqb-false, ltb-true, ltb-false}
use Rattle.kit.proofs.Cases.{on, clash, given}
use Rattle.kit.proofs.Member.{pigeonhole}
use Rattle.wire.specs.Verdicts.{verdict_accepted as passed, verdict_refused, ruled_accepted, ruling_of, verdict_in}
use Rattle.wire.proofs.Answers.{ruling_apart, verdict-number}
use Rattle.places.specs.Places.{free_place, place_at}
use Rattle.places.proofs.Live.{live_when}
use Rattle.orders.specs.Orders.{list_refusal}
use Rattle.numbers.specs.Numbers.{next_number}
use Rattle.numbers.proofs.Search.{number-none, permitted-only}
use Rattle.resting.specs.Rests.{is_resting}
use Rattle.resting.specs.declared.Ended.{Ended}
use Rattle.resting.proofs.Rested.{covers-resting}
use Rattle.desk.specs.Desks.{Accepting, answer_in, base_rest as eight, fresh_with, accept_of, Made, called}
use Rattle.desk.proofs.Runs.{desk_run, AllAccepted, EndedAgo}
use Rattle.desk.specs.Steps.{step_of}
use Rattle.desk.specs.declared.Desk.{Desk}
use Rattle.desk.proofs.Making.{accepts, made-sound}
use Rattle.desk.proofs.Promises as promises
use Rattle.desk.proofs.Seating.{inside, ordered}
use Rattle.desk.proofs.Tracing.{fresh_at}
use Rattle.claims.specs.Calls.{desk_after, accepted, steps_made, up_to, desk_of}
use Rattle.claims.specs.Step.{number_in, EndedIn, NumberRests, OneStep, TheStep}
use Rattle.claims.proofs.Ended.{ending_of, ended-then, rests-kept}
use Rattle.claims.proofs.History.{calls_made, desk_run_lem}
use Rattle.claims.proofs.StepDetermined.{alike}
use Rattle.claims.proofs.OneStep.{fresh-says, one-step}

-- R-26: the calls of a fresh desk
made_calls : {desk : Desk} → Made desk → (calls : List (List ℕ)) × (desk ≡ desk_after eight calls)
unfolding desk_after
made_calls Made.made_fresh = ([], refl)
made_calls (called {desk} m list) = given (made_calls m) (λ (calls, e). (list ∷ calls, ap (λ (d : Desk). (accept_of eight d list).desk) e))

fresh-after : fresh_with eight ≡ desk_after eight []
unfolding desk_after
fresh-after = refl

one_call_more : (calls : List (List ℕ)) (list : List ℕ) → (accept_of eight (desk_after eight calls) list).desk ≡ desk_after eight (list ∷ calls)
unfolding desk_after
one_call_more calls list = refl

-- D-02: by the contract, an accepted list makes one step
unrefused_when : (desk : Desk) (list : List ℕ) → (accept_of eight desk list).verdict ≡ passed → list_refusal desk.places list ≡ 0
unfolding accept_of
unrefused_when desk list e = verdict-number passed e

steps-one : (calls : List (List ℕ)) (desk : Desk) (list : List ℕ) (answer : Accepting) → answer ≡ accept_of eight desk list → desk ≡ desk_after eight calls
    → answer.verdict ≡ passed → OneStep calls desk list answer.desk
steps-one calls desk list answer is same accepts-it =
    let history = desk_run_lem eight calls in
    let lists = accepted eight calls in
    let before : desk ≡ desk_run eight eight lists = same ∙ history.0 in
    let zero-refusal : list_refusal desk.places list ≡ 0 = unrefused_when desk list (ap (λ (a : Accepting). a.verdict) (sym is) ∙ accepts-it) in
    let after : answer.desk ≡ step_of eight (desk_run eight eight lists) list = ap (λ (a : Accepting). a.desk) (is ∙ accepts eight desk list zero-refusal) ∙ ap (λ (d : Desk). step_of eight d list) before in
    subst (λ (d : Desk). OneStep calls d list answer.desk) (sym before)
    (subst (λ (d : Desk). OneStep calls (desk_run eight eight lists) list d) (sym after)
    (one-step calls list (subst (λ (d : Desk). list_refusal d.places list ≡ 0) before zero-refusal)))

-- D-12: a number that rests is 1 or more
rests-positive : (calls : List (List ℕ)) (number : ℕ) → NumberRests calls number → 1 ≤ number
rests-positive calls number (f, (n, order, i, is, made, (some, small, same), had, absent), young) =
    omega (arith, had, ((made-sound (calls_made (up_to eight calls n))).orderly.numbered i (omega arith)).0)

module _ (calls : List (List ℕ)) where
  abbrev desk : Desk
  desk = desk_after eight calls

  kept : Made desk
  kept = calls_made calls

  resting : (number : ℕ) → 1 ≤ number → (is_resting eight desk.step desk.ended number ≡ true) ↔ NumberRests calls number
  resting number p =
      subst (λ (d : Desk). (is_resting eight d.step d.ended number ≡ true) ↔ NumberRests calls number) (sym (desk_run_lem eight calls).0)
      (rests-kept calls (accepted eight calls) refl number p)

  -- D-14
  few_rest : (numbers : List ℕ) → ((i k : ℕ) → i < length numbers → k < length numbers → get_or numbers i 0 ≡ get_or numbers k 0 → i ≡ k)
      → ((i : ℕ) → i < length numbers → NumberRests calls (get_or numbers i 0)) → length numbers ≤ 160
  few_rest numbers different rest_all =
      on (ltb 160 (length numbers))
      (λ e.
      given
      (pigeonhole (λ i. get_or numbers i 0) (length numbers) different (map (λ (x : Ended). x.number) desk.ended)
      (omega (arith, length-map desk.ended (λ (x : Ended). x.number), (promises.few_rest kept).0, ltb-true 160 (length numbers) e)))
      (λ (i, small, out).
      let number = get_or numbers i 0 in
      absurd
      (clash
      (covers-resting eight desk.step desk.ended number ((resting number (rests-positive calls number (rest_all i small))).1 (rest_all i small)))
      out)))
      (λ e. ltb-false 160 (length numbers) e)

  -- D-15
  one_permitted : (number : ℕ) × (1 ≤ number) × (number ≤ 255) × ((i : ℕ) → number_in desk i ≡ number → ⊥) × (NumberRests calls number → ⊥)
  one_permitted =
      let test = is_resting eight desk.step desk.ended in
      let number = next_number test desk.places desk.last in
      let range = promises.found-range kept in
      given (permitted-only test desk.places number (promises.number-found kept))
      (λ (idle, rested). (
        number,
        range.0,
        range.1,
        λ i e.
            let orderly = (made-sound kept).orderly in
            number-none desk.places number i idle (inside orderly i (ordered orderly i (omega (arith, e, range.0)))) e,
        λ r. clash ((resting number range.0).1 r) rested,
      ))

  -- D-13
  eight_tables : (f number : ℕ) → EndedIn calls f number → (m i : ℕ) → f ≤ m → m - f ≤ 7 → m ≤ steps_made eight calls → number_in (desk_of eight calls m) i ≡ number → ⊥
  eight_tables f number ended m i late soon made same =
      let upward : f + (m - f) ≡ m = omega arith in
      let lists = accepted eight (up_to eight calls m) in
      let run = desk_run_lem eight (up_to eight calls m) in
      given (ending_of lists number (m - f) (subst (λ n. EndedAgo eight eight (accepted eight (up_to eight calls n)) number (m - f)) upward ((ended-then calls f (m - f) number (omega arith)).0 ended)))
      (λ it.
      promises.eight_tables it.between it.older it.ending it.i i (subst (AllAccepted eight eight) it.joins run.1) (omega (arith, it.many)) it.live
      it.absent
      (ap (λ (l : List (List ℕ)). number_in (desk_run eight eight l) i) (sym it.joins) ∙ (ap (λ (d : Desk). number_in d i) (sym run.0) ∙ (same ∙ sym it.had))))

-- D-17: after an empty list each slot is free
module _ {desk : Desk} (m : Made desk) where
  empties : (i : ℕ) → place_at (accept_of eight desk []).desk.places i ≡ free_place
  empties i =
      let places = (accept_of eight desk []).desk.places in
      let orderly = (made-sound (called m [])).orderly in
      orderly.free i
      (on (eqb (place_at places i).order 0)
      (λ e. eqb-true (place_at places i).order 0 e)
      (λ e.
      let some : 1 ≤ (place_at places i).order = omega (arith, eqb-false (place_at places i).order 0 e) in
      absurd (clash (live_when places (place_at places i).order i (inside orderly i some) refl) (promises.empty-ends m (place_at places i).order some))))

pub step : TheStep
step =
    record {
      fresh = λ κs handed desk lasts p.
          subst (λ (d : Desk). (d ≡ desk_after eight []) × (d.step ≡ 0) × (d.last ≡ 0) × ((i : ℕ) → place_at d.places i ≡ free_place)) (sym p)
          (fresh-after, fresh-says.0, fresh-says.1, fresh_at eight);
      goes_on = λ κs (desk, (list, _)) answer lasts p calls same.
          ap (λ (a : Accepting). a.desk) p ∙ (ap (λ (d : Desk). (accept_of eight d list.now).desk) same ∙ one_call_more calls list.now);
      by_calls = λ desk. (made_calls, λ (calls, e). subst Made (sym e) (calls_made calls));
      steps_so = λ κs (desk, (list, _)) answer lasts p calls same accepts-it. steps-one calls desk list.now (answer_in answer) p same (ruling_apart (verdict_in answer.verdict) passed accepts-it);
      determined = λ calls list one other. alike calls (desk_after eight calls) list one other (made-sound (calls_made calls)).below;
      eight_tables = λ calls f number ended m i late soon. eight_tables calls f number ended m i late (omega arith);
      few_rest = λ calls numbers different rest_all. omega (arith, few_rest calls numbers different rest_all);
      one_permitted = one_permitted;
      empty = λ κs (desk, (list, _)) answer lasts p m none.
          subst (λ (a : Accepting). (ruling_of a.verdict ≡ ruled_accepted) × ((i : ℕ) → place_at a.desk.places i ≡ free_place)) (sym (p ∙ ap (accept_of eight desk) none))
          (ap ruling_of (promises.empty-accepted m), empties m);
      refused = λ κs (desk, (list, _)) answer lasts p number e.
          ap (λ (a : Accepting). a.desk) p ∙ promises.refused-unchanged desk list.now number (ap (λ (a : Accepting). a.verdict) (sym p) ∙ ruling_apart (verdict_in answer.verdict) (verdict_refused number) e);
    }
