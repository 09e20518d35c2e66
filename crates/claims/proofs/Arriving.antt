-- The new orders of a step, in the words of specs/Step.antt: which slots are taken and which numbers are permitted when an order has its
-- turn, and what it is given.
use Prim.Native.Nat.{ℕ, zero, suc, ◌+◌, ◌<◌, ◌≤◌}
use mathlib.Core.Path.{◌≡◌, refl, sym, ap, ◌∙◌, subst}
use mathlib.Core.Logic.{inl, inr, ◌↔◌}
use mathlib.Core.Bool.{Bool, true, false}
use mathlib.Core.List.{List, ◌∷◌}
use native.Mathlib.Omega.{arith}
use Rattle.kit.proofs.Cases.{on, clash, given}
use Rattle.condition.specs.Slots.{slot_count}
use Rattle.order_list.specs.Lists.{stands, order_at, order_count}
use Rattle.places.specs.Places.{place_at, place_of, lowest_free, is_live}
use Rattle.places.specs.declared.Place.{Place}
use Rattle.places.proofs.Live.{live-there, live_when, free-there, free-before}
use Rattle.orders.specs.Orders.{list_refusal, Fair}
use Rattle.orders.proofs.Lists.{fair}
use Rattle.numbers.specs.Numbers.{has_number, is_permitted, next_number, number_after}
use Rattle.numbers.proofs.Round.{between-before}
use Rattle.numbers.proofs.Search.{FirstPermitted, number-none, number-some, permitted_when, permitted-only}
use Rattle.desk.specs.Desks.{base_rest as eight}
use Rattle.desk.proofs.Runs.{desk_run, AllAccepted}
use Rattle.desk.specs.Steps.{step_of}
use Rattle.desk.specs.declared.Desk.{Desk}
use Rattle.desk.proofs.NewOrders as new-orders
use Rattle.desk.proofs.NewOrders.{run-last}
use Rattle.desk.proofs.Seating.{inside, ordered}
use Rattle.desk.proofs.Stepping.{Sound, next-orderly}
use Rattle.desk.proofs.Tracing.{run_sound}
use Rattle.claims.specs.Calls.{accepted}
use Rattle.claims.specs.Step.{HasSlot, Live, number_in, IsNew, TakenAtTurn, NumberRests, PermittedAtTurn, LastGiven, none_yet, passing, giving, Between, NewOrder}
use Rattle.claims.proofs.Ended.{rests-kept}
use Rattle.claims.proofs.History.{present-stands, stands-present, accepts-one, desk_run_lem}

-- ---- the page's words and the tests of the definitions

pub live_test : (desk : Desk) (order : ℕ) → Live desk order → is_live desk.places order ≡ true
live_test desk order (i, (named, small, same)) = live_when desk.places order i small same

pub test_live : (desk : Desk) (order : ℕ) → 1 ≤ order → is_live desk.places order ≡ true → Live desk order
test_live desk order p e = given (live-there desk.places order e) (λ (small, same). (place_of desk.places order, (p, small, same)))

pub unlive_test : (desk : Desk) (order : ℕ) → 1 ≤ order → (Live desk order → ⊥) → is_live desk.places order ≡ false
unlive_test desk order p none = on (is_live desk.places order) (λ e. absurd (none (test_live desk order p e))) (λ e. e)

-- ---- a list that is accepted after these calls

module _ (calls : List (List ℕ)) (list : List ℕ) (unrefused : list_refusal (desk_run eight eight (accepted eight calls)).places list ≡ 0) where
  abbrev lists : List (List ℕ)
  lists = accepted eight calls

  good : AllAccepted eight eight lists
  good = (desk_run_lem eight calls).1

  -- D-02: it makes a step
  pub one_more : accepted eight (list ∷ calls) ≡ list ∷ lists
  one_more = (accepts-one eight calls list (subst (λ (d : Desk). list_refusal d.places list ≡ 0) (sym (desk_run_lem eight calls).0) unrefused)).1

  abbrev before : Desk
  before = desk_run eight eight lists

  abbrev after : Desk
  after = step_of eight before list

  abbrev named : ℕ → ℕ
  named j = (order_at list j).number

  sound : Sound eight before
  sound = run_sound eight eight (omega arith) (omega arith) lists good

  listed : Fair before.places list
  listed = fair before.places list unrefused

  -- the places when order j has its turn, and the last number given then
  abbrev turned : ℕ → List Place
  turned j = (new-orders.turn_of eight eight (omega arith) (omega arith) before sound list listed j).places

  abbrev last_at : ℕ → ℕ
  last_at j = (new-orders.turn_of eight eight (omega arith) (omega arith) before sound list listed j).last

  abbrev resting : ℕ → Bool
  resting = new-orders.resting eight eight (omega arith) (omega arith) before sound list listed

  -- D-12: what rests in this step
  rests-now : (number : ℕ) → 1 ≤ number → (resting number ≡ true) ↔ NumberRests (list ∷ calls) number
  unfolding desk_run step_of
  rests-now number p = rests-kept (list ∷ calls) (list ∷ lists) one_more number p

  to_the_end : (j k : ℕ) → j ≤ order_count list → 1 ≤ (place_at (turned j) k).order → place_at after.places k ≡ place_at (turned j) k
  to_the_end = new-orders.to_the_end eight eight (omega arith) (omega arith) before sound list listed

  -- ---- at the turn of order j

  module _ (j : ℕ) (p : j ≤ order_count list) where
    -- D-08: the slots that are taken
    taken-there : (k : ℕ) → TakenAtTurn before list after j k → 1 ≤ (place_at (turned j) k).order
    taken-there k t = (new-orders.taken-exactly eight eight (omega arith) (omega arith) before sound list listed j k p).1 (go t)
      where
        go : TakenAtTurn before list after j k → new-orders.TakenBy eight eight (omega arith) (omega arith) before sound list listed j k
        go (inl (order, (some, small, same), present)) = inl (omega arith, subst (λ o. stands list o ≡ true) (sym same) (present-stands list order present))
        go (inr (m, below, (inlist, none), (some, small, same))) = inr (m, below, unlive_test before (named m) some none, same)

    taken_here : (k : ℕ) → 1 ≤ (place_at (turned j) k).order → TakenAtTurn before list after j k
    taken_here k q = go ((new-orders.taken-exactly eight eight (omega arith) (omega arith) before sound list listed j k p).0 q)
      where
        go : new-orders.TakenBy eight eight (omega arith) (omega arith) before sound list listed j k → TakenAtTurn before list after j k
        go (inl (some, e)) = inl ((place_at before.places k).order, (some, inside sound.orderly k some, refl), stands-present list (place_at before.places k).order e)
        go (inr (m, below, unlive, order)) =
            let some : 1 ≤ named m = listed.named m (omega arith) in
            inr (
              m,
              below,
              (omega arith, λ live. clash (live_test before (named m) live) unlive),
              (some, inside (next-orderly eight eight (omega arith) (omega arith) before sound list listed) k (omega arith), order),
            )

    -- D-12: the numbers that are permitted
    permitted-here : (number : ℕ) → 1 ≤ number → is_permitted resting (turned j) number ≡ true → PermittedAtTurn calls before list after j number
    permitted-here number positive e =
        given (permitted-only resting (turned j) number e)
        (λ (idle, rested). (
          λ k t same.
              let some : 1 ≤ (place_at (turned j) k).order = taken-there k t in
              number-none (turned j) number k idle (inside (new-orders.orderly-at eight eight (omega arith) (omega arith) before sound list listed j p) k some)
              (ap (λ (x : Place). x.slot.number) (sym (to_the_end j k p some)) ∙ same),
          λ r. clash ((rests-now number positive).1 r) rested,
        ))

    permitted-there : (number : ℕ) → 1 ≤ number → PermittedAtTurn calls before list after j number → is_permitted resting (turned j) number ≡ true
    permitted-there number positive (none, rested) =
        permitted_when resting (turned j) number
        (on (has_number (turned j) number)
        (λ e.
        given (number-some (turned j) number e)
        (λ (k, small, same).
        let some : 1 ≤ (place_at (turned j) k).order = ordered (new-orders.orderly-at eight eight (omega arith) (omega arith) before sound list listed j p) k (omega arith) in
        absurd (none k (taken_here k some) (ap (λ (x : Place). x.slot.number) (to_the_end j k p some) ∙ same))))
        (λ e. e))
        (on (resting number) (λ e. absurd (rested ((rests-now number positive).0 e))) (λ e. e))

  -- ---- what a new order is given

  module _ (j : ℕ) (new : IsNew before list j) where
    abbrev number : ℕ
    number = next_number resting (turned j) (last_at j)

    abbrev slot : ℕ
    slot = lowest_free (turned j)

    given-slot : (slot < slot_count) × ((place_at after.places slot).order ≡ named j) × (number_in after slot ≡ number)
    given-slot =
        given
        (new-orders.given-slot eight eight (omega arith) (omega arith) before sound list listed j new.0 (unlive_test before (named j) (listed.named j new.0) new.1))
        (λ (small, there). (small, ap (λ (x : Place). x.order) there, ap (λ (x : Place). x.slot.number) there))

    has-slot : HasSlot after (named j) slot
    has-slot = (listed.named j new.0, given-slot.0, given-slot.1)

    found : FirstPermitted resting (turned j) (last_at j) number
    found = new-orders.finds eight eight (omega arith) (omega arith) before sound list listed j new.0

  -- D-09: the last number given at each turn
  last_at_lem : (j : ℕ) → j ≤ order_count list → LastGiven before list after j (last_at j)
  last_at_lem zero p =
      subst (λ n. LastGiven before list after 0 n)
      (sym (ap (λ s. s.last) (new-orders.begins eight eight (omega arith) (omega arith) before sound list listed))) none_yet
  last_at_lem (suc j) p =
      let e : j + 1 ≡ suc j = omega arith in
      let inlist : j < order_count list = omega arith in
      on (is_live before.places (named j))
      (λ live.
      subst (λ n. LastGiven before list after (suc j) n)
      (sym (new-orders.last-live eight eight (omega arith) (omega arith) before sound list listed j inlist live) ∙ ap last_at e)
      (passing (last_at_lem j (omega arith)) (test_live before (named j) (listed.named j inlist) live)))
      (λ unlive.
      let new : IsNew before list j = (inlist, λ live. clash (live_test before (named j) live) unlive) in
      subst (λ n. LastGiven before list after (suc j) n)
      ((given-slot j new).2 ∙ (sym (new-orders.last-new eight eight (omega arith) (omega arith) before sound list listed j inlist unlive) ∙ ap last_at e))
      (giving (slot j new) new (has-slot j new)))

  last-small : (j : ℕ) → j ≤ order_count list → last_at j ≤ 255
  last-small = new-orders.last-small eight eight (omega arith) (omega arith) before sound list listed (run-last eight eight (omega arith) (omega arith) lists good)

  pub last-after : LastGiven before list after (order_count list) after.last
  last-after =
      subst (λ n. LastGiven before list after (order_count list) n) (sym (new-orders.at-end eight eight (omega arith) (omega arith) before sound list listed).1)
      (last_at_lem (order_count list) (omega arith))

  pub new-order : (j : ℕ) → IsNew before list j → NewOrder calls before list after j
  new-order j new =
      let inlist : j ≤ order_count list = omega (arith, new.0) in
      let is : number_in after (slot j new) ≡ number j new = (given-slot j new).2 in
      let find = found j new in
      let after-others : number j new ≡ number_after (last_at j) find.others = find.after in
      record {
        slot = slot j new;
        has = has-slot j new;
        free = λ t. omega (arith, taken-there j inlist (slot j new) t, free-there (turned j) (given-slot j new).0);
        lowest = λ k below. taken_here j inlist k (free-before (turned j) k (omega arith));
        range = (omega (arith, is, after-others), omega (arith, is, after-others));
        permitted =
            permitted-here j inlist (number_in after (slot j new)) (omega (arith, is, after-others))
            (subst (λ n. is_permitted resting (turned j) n ≡ true) (sym (is ∙ after-others)) find.permitted);
        last = last_at j;
        last_given = last_at_lem j inlist;
        first = λ other low high between permitted.
            given
            (between-before (last_at j) find.others other (last-small j inlist) find.few low (omega arith)
            (subst (λ n. Between (last_at j) other n) (is ∙ after-others) between))
            (λ (others, fewer, same).
            clash (permitted-there j inlist other low permitted) (subst (λ n. is_permitted resting (turned j) n ≡ false) same (find.passed others fewer)));
      }
