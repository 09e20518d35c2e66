-- One step as the page tells it: each sentence from what the desk promises of a step and of the turns of new orders.
use Prim.Native.Nat.{ℕ, zero, suc, ◌+◌, ◌<◌, ◌≤◌}
use mathlib.Core.Path.{◌≡◌, refl, sym, ap, ◌∙◌, subst}
use mathlib.Core.Logic.{inl, inr, ◌↔◌}
use mathlib.Core.Bool.{true}
use mathlib.Core.List.{List, [], ◌∷◌, ◌++◌}
use lib.Dec.{eqb}
use lib.ListN.{length, get_or}
use native.Mathlib.Omega.{arith}
use borrow.Author.Tests.{eqb-true, eqb-false}
use Rattle.kit.proofs.Cases.{on, clash, given}
use Rattle.condition.specs.Slots.{body_of, coded_of, settled, kind_of}
use Rattle.order_list.specs.Lists.{stands, order_at, order_count, order_named}
use Rattle.order_list.specs.declared.Order.{Order}
use Rattle.places.specs.Places.{free_place, place_at, is_live}
use Rattle.places.specs.declared.Place.{Place}
use Rattle.orders.specs.Orders.{list_refusal, Fair}
use Rattle.orders.proofs.Lists.{fair, listed_self}
use Rattle.resting.specs.Rests.{is_resting}
use Rattle.desk.specs.Desks.{base_rest as eight, fresh_with}
use Rattle.desk.proofs.Runs.{desk_run, AllAccepted, InNewest, EndedAgo, OneNotLive}
use Rattle.desk.specs.Steps.{next_step, step_of}
use Rattle.desk.specs.declared.Desk.{Desk}
use Rattle.desk.proofs.Promises as promises
use Rattle.desk.proofs.Seating.{inside, made-coded}
use Rattle.desk.proofs.Stepping.{Sound, next-orderly, next_step_lem, keeps, live-listed, has_words}
use Rattle.desk.proofs.Tracing.{fresh_at, run_none, run_more, run_sound, live_newest}
use Rattle.claims.specs.Calls.{Present, accepted, steps_made, list_in}
use Rattle.claims.specs.Step.{HasSlot, Live, number_in, IsNew, TakenAtTurn, EndedIn, NumberRests, LastGiven, none_yet, OneNew, OneStep}
use Rattle.claims.proofs.Arriving.{live_test, test_live, unlive_test, one_more, new-order, last-after}
use Rattle.claims.proofs.Ended.{ending_of, ended-exactly, rests-exactly, rests-kept}
use Rattle.claims.proofs.History.{present-stands, stands-present, newest_present, desk_run_lem, up_to-all}

-- before the first turn the last number given is that of the steps before
first-last : (before : Desk) (list : List ℕ) (after : Desk) {last : ℕ} → LastGiven before list after 0 last → last ≡ before.last
first-last before list after none_yet = refl

-- where no step was made no list was accepted
none-listed : (lists : List (List ℕ)) → length lists ≡ 0 → lists ≡ []
none-listed [] e = refl
none-listed (list ∷ lists) e = absurd (omega arith)

pub fresh-says : ((fresh_with eight).step ≡ 0) × ((fresh_with eight).last ≡ 0)
unfolding fresh_with
fresh-says = (refl, refl)

-- ---- one step

module _ (calls : List (List ℕ)) (list : List ℕ) (unrefused : list_refusal (desk_run eight eight (accepted eight calls)).places list ≡ 0) where
  abbrev lists : List (List ℕ)
  lists = accepted eight calls

  good : AllAccepted eight eight lists
  good = (desk_run_lem eight calls).1

  abbrev before : Desk
  before = desk_run eight eight lists

  abbrev after : Desk
  after = step_of eight before list

  abbrev named : ℕ → ℕ
  named j = (order_at list j).number

  sound : Sound eight before
  sound = run_sound eight eight (omega arith) (omega arith) lists good

  listed : Fair before.places list
  listed = fair before.places list unrefused

  -- D-03
  rises : after.step ≡ next_step before.step
  rises = next_step_lem eight eight (omega arith) (omega arith) before sound list listed

  -- D-06 to D-08
  live : (order : ℕ) → Live after order ↔ Present list order
  live order = (
    λ (i, (some, small, same)).
        stands-present list order (sym (exactly some) ∙ live_test after order (i, (some, small, same))),
    λ (j, p, same).
        let some : 1 ≤ order = omega (arith, listed.named j p) in
        test_live after order some (exactly some ∙ present-stands list order (j, p, same)),
  )
    where
      exactly : 1 ≤ order → is_live after.places order ≡ stands list order
      exactly some = live-listed eight eight (omega arith) (omega arith) before sound list listed order some

  words : (j i : ℕ) → j < order_count list → HasSlot after (named j) i
      → coded_of (place_at after.places i).slot
      ≡ settled (record { number = number_in after i; kind = (order_at list j).kind; first = (order_at list j).first; second = (order_at list j).second })
  words j i p (some, small, same) =
      let order : order_named list (place_at after.places i).order ≡ order_at list j = ap (order_named list) same ∙ ap (order_at list) (listed_self before.places list j listed p) in
      let numbered = ((next-orderly eight eight (omega arith) (omega arith) before sound list listed).numbered i (omega arith)).0 in
      ap (λ body. coded_of (record { number = number_in after i; body = body }))
      (has_words eight eight (omega arith) (omega arith) before sound list listed i (omega arith) ∙ ap (λ (o : Order). body_of o.kind o.first o.second) order)
      ∙ made-coded listed p (number_in after i) numbered

  -- D-07
  stays : (order i : ℕ) → HasSlot before order i → Present list order
      → HasSlot after order i × (number_in after i ≡ number_in before i) × (kind_of (place_at after.places i).slot ≡ kind_of (place_at before.places i).slot)
  stays order i (some, small, same) present =
      given
      (keeps eight eight (omega arith) (omega arith) before sound list listed i (omega arith)
      (subst (λ o. stands list o ≡ true) (sym same) (present-stands list order present)))
      (λ s. ((some, small, s.order ∙ same), s.number, s.kind))

  -- D-11
  one_first : steps_made eight calls ≡ 0 → 1 ≤ order_count list → (i : ℕ) × HasSlot after (named 0) i × (number_in after i ≡ 1)
  one_first unstepped some =
      let given-one = new-order calls list unrefused 0 (omega arith, λ (i, (one, small, same)). omega (arith, vacant i)) in
      let slot = given-one.slot in (
        slot,
        given-one.has,
        on (eqb (number_in after slot) 1)
            (λ e. eqb-true (number_in after slot) 1 e)
            (λ e.
            absurd
            (given-one.first 1 (omega arith) (omega arith)
            (inl (omega (arith, first-last before list after given-one.last_given ∙ last-zero), omega (arith, given-one.range.0, eqb-false (number_in after slot) 1 e))) (no_slot, no_rest))),
      )
    where
      none : lists ≡ []
      none = none-listed lists unstepped

      fresh : before ≡ fresh_with eight
      fresh = ap (desk_run eight eight) none ∙ run_none eight eight

      last-zero : before.last ≡ 0
      last-zero = ap (λ (desk : Desk). desk.last) fresh ∙ fresh-says.1

      vacant : (i : ℕ) → (place_at before.places i).order ≡ 0
      vacant i = ap (λ (desk : Desk). (place_at desk.places i).order) fresh ∙ ap (λ (x : Place). x.order) (fresh_at eight i)

      no_slot : (k : ℕ) → TakenAtTurn before list after 0 k → number_in after k ≡ 1 → ⊥
      no_slot k (inl (order, (one, small, same), present)) e = omega (arith, vacant k)
      no_slot k (inr (m, below, new, has)) e = omega arith

      none_ended_lem : (ago : ℕ) × (ago < eight) × EndedAgo eight eight (list ∷ []) 1 ago → ⊥
      none_ended_lem (zero, young, (i, one, number, absent)) = omega (arith, ap (λ (desk : Desk). (place_at desk.places i).order) (run_none eight eight) ∙ ap (λ (x : Place). x.order) (fresh_at eight i))
      none_ended_lem (suc ago, young, e) = e

      no_rest : NumberRests (list ∷ calls) 1 → ⊥
      no_rest r =
          none_ended_lem
          (subst (λ (l : List (List ℕ)). (ago : ℕ) × (ago < eight) × EndedAgo eight eight l 1 ago) (one_more calls list unrefused ∙ ap (λ l. list ∷ l) none)
          ((rests-exactly (list ∷ calls) 1).0 r))

  -- D-16
  comes_back : (j : ℕ) → j < order_count list → (Present (list_in eight calls (steps_made eight calls)) (named j) → ⊥) → IsNew before list j
  comes_back j p absent = (
    p,
    λ (i, (some, small, same)).
        let newest : InNewest (named j) lists = subst (λ o. InNewest o lists) same (live_newest eight eight (omega arith) (omega arith) lists i good (omega arith)) in
        absurd
        (absent
        (subst (λ (c : List (List ℕ)). Present (get_or (accepted eight c) 0 []) (named j)) (sym (up_to-all eight calls (steps_made eight calls) (omega arith)))
        (newest_present (named j) lists newest))),
  )

  -- P5
  is-run : after ≡ desk_run eight eight (list ∷ lists)
  is-run = sym (run_more eight eight list lists)

  one-new : (j : ℕ) → OneNew before list j → OneNotLive before.places list j
  one-new j ((inlist, none), only) =
      record {
        inlist = inlist;
        new = unlive_test before (named j) (listed.named j inlist) none;
        others = λ k p other.
            on (is_live before.places (named k)) (λ e. e) (λ e. absurd (other (only k (p, λ live. clash (live_test before (named k) live) e))));
      }

  passed_over : (f : ℕ) → EndedIn calls f 1 → steps_made eight calls + 1 ≡ f + 7 → (i : ℕ) → number_in after i ≡ 1 → ⊥
  passed_over f ended now i one =
      given (ending_of lists 1 6 ((ended-exactly calls f 6 1 (omega arith)).0 ended))
      (λ it.
      promises.p5-passed_over it.older it.ending it.i it.live it.had it.absent it.between list
      (subst (λ (l : List (List ℕ)). AllAccepted eight eight (list ∷ l)) it.joins (unrefused, good)) it.many i
      (subst (λ (l : List (List ℕ)). number_in (desk_run eight eight (list ∷ l)) i ≡ 1) it.joins (ap (λ (desk : Desk). number_in desk i) (sym is-run) ∙ one)))

  gets_one : (f : ℕ) → EndedIn calls f 1 → steps_made eight calls + 1 ≡ f + 8 → before.last ≡ 255 → (j : ℕ) → OneNew before list j
      → (i : ℕ) × HasSlot after (named j) i × (number_in after i ≡ 1)
  gets_one f ended now last j new =
      given (ending_of lists 1 7 ((ended-exactly calls f 7 1 (omega arith)).0 ended))
      (λ it.
      given
      (promises.p5-given it.older it.ending it.i it.live it.had it.absent it.between list
      (subst (λ (l : List (List ℕ)). AllAccepted eight eight (list ∷ l)) it.joins (unrefused, good)) it.many
      (subst (λ (l : List (List ℕ)). (desk_run eight eight l).last ≡ 255) it.joins last) j
      (subst (λ (l : List (List ℕ)). OneNotLive (desk_run eight eight l).places list j) it.joins (one-new j new)))
      (λ (i, order, number).
      let back : desk_run eight eight (list ∷ (it.between ++ (it.ending ∷ it.older))) ≡ after = ap (λ (l : List (List ℕ)). desk_run eight eight (list ∷ l)) (sym it.joins) ∙ sym is-run in
      let same : (place_at after.places i).order ≡ named j = ap (λ (desk : Desk). (place_at desk.places i).order) (sym back) ∙ order in
      let some : 1 ≤ named j = listed.named j new.0.0 in (
        i,
        (some, inside (next-orderly eight eight (omega arith) (omega arith) before sound list listed) i (omega arith), same),
        ap (λ (desk : Desk). number_in desk i) (sym back) ∙ number,
      )))

  rests : (number : ℕ) → 1 ≤ number → (is_resting eight after.step after.ended number ≡ true) ↔ NumberRests (list ∷ calls) number
  unfolding desk_run
  rests number p = rests-kept (list ∷ calls) (list ∷ lists) (one_more calls list unrefused) number p

  -- D-06: a slot that no order has
  empty : (i : ℕ) → ((order : ℕ) → HasSlot after order i → ⊥) → place_at after.places i ≡ free_place
  empty i none =
      let orderly = next-orderly eight eight (omega arith) (omega arith) before sound list listed in
      orderly.free i
      (on (eqb (place_at after.places i).order 0)
      (λ e. eqb-true (place_at after.places i).order 0 e)
      (λ e.
      let some : 1 ≤ (place_at after.places i).order = omega (arith, eqb-false (place_at after.places i).order 0 e) in
      absurd (none (place_at after.places i).order (some, inside orderly i some, refl))))

  pub one-step : OneStep calls before list after
  one-step =
      record {
        counts = record { rises = λ p. rises ∙ omega arith; round = λ p. rises ∙ omega arith; below = omega (arith, rises) };
        stay =
            record {
              live = live;
              single = λ order i k (some, small, same) (some-too, small-too, same-too).
                  (next-orderly eight eight (omega arith) (omega arith) before sound list listed).single i k (omega arith) (same ∙ sym same-too);
              empty = empty;
              keeps = stays;
              words = words;
            };
        arrive =
            record {
              new = new-order calls list unrefused;
              last = last-after calls list unrefused;
              one_first = one_first;
              comes_back = comes_back;
            };
        rests = rests;
        p5 = record { passed_over = passed_over; gets_one = gets_one };
      }
