-- The desk's side of demand 3: the calls of a fresh desk make a run of accepted lists, and of two tables at most as many steps apart
-- as the rest, a number with its type is in both exactly when its order stood in every accepted list from the one to the other.
use Prim.Native.Nat.{ℕ, zero, suc, ◌+◌, ◌-◌, ◌%◌, ◌<◌, ◌≤◌}
use mathlib.Core.Path.{◌≡◌, refl, sym, ap, ◌∙◌, subst}
use mathlib.Core.Logic.{◌↔◌}
use mathlib.Core.Bool.{Bool, true, false, cond}
use mathlib.Core.List.{List, [], ◌∷◌, ◌++◌}
use lib.Dec.{eqb, ltb}
use lib.ListN.{length, get_or}
use native.Mathlib.Omega.{arith}
use native.Mathlib.Nat.{add-zero}
use borrow.Author.Tests.{eqb-true, eqb-false, ne_eqb, ltb-true, ltb-false, lt-ltb, le-ltb}
use Rattle.kit.proofs.Cases.{on, given}
use Rattle.condition.specs.Slots.{is_occupied, kind_of, slot_count}
use Rattle.wire.specs.Steps.{steps}
use Rattle.wire.specs.Verdicts.{verdict_accepted as Passed, number_of}
use Rattle.condition.proofs.Coding.{held_occupied}
use Rattle.telegram.specs.Tables.{table_slot}
use Rattle.order_list.specs.Lists.{stands, order_count, listed_at}
use Rattle.order_list.proofs.Listed.{listed-there, listed_when}
use Rattle.places.specs.Places.{place_at}
use Rattle.orders.specs.Orders.{list_refusal}
use Rattle.desk.specs.Desks.{base_rest, accept_of, Made, made_fresh, called}
use Rattle.desk.proofs.Runs.{desk_run, AllAccepted, Stood, InNewest}
use Rattle.desk.specs.Steps.{step_of}
use Rattle.desk.specs.declared.Desk.{Desk}
use Rattle.desk.proofs.Making.{accepts, refuses}
use Rattle.desk.proofs.Seating.{ordered}
use Rattle.desk.proofs.Stepping.{Sound}
use Rattle.desk.proofs.Tables.{table_at, table-held, table-long, table-distinct}
use Rattle.desk.proofs.Tracing.{at, run_none, run_more, run_sound, run_step, same_number, persists, live_newest, newest_live}
use Rattle.picture.specs.Pictures.{clashes}
use Rattle.picture.proofs.Clashing.{no_clash}
use Rattle.marks.proofs.Carrying.{InPicture}
use Rattle.claims.specs.Calls.{Present, desk_after, accepted, steps_made, up_to, desk_of, table_in, order_in, StoodIn, StoodFrom}

-- R-26: a desk of any calls was made by them
pub calls_made : (calls : List (List ℕ)) → Made (desk_after base_rest calls)
unfolding desk_after
calls_made [] = made_fresh
calls_made (list ∷ calls) = called (calls_made calls) list

-- ---- present in a list, and the search that the definitions make

pub present-stands : (list : List ℕ) (order : ℕ) → Present list order → stands list order ≡ true
present-stands list order (j, p, e) = listed_when list (order_count list) order j p e

pub stands-present : (list : List ℕ) (order : ℕ) → stands list order ≡ true → Present list order
stands-present list order e = given (listed-there list (order_count list) order e) (λ (p, same). (listed_at list (order_count list) order, p, same))

present_newest : (order : ℕ) (lists : List (List ℕ)) → Present (get_or lists 0 []) order → InNewest order lists
present_newest order [] (j, p, e) = omega arith
present_newest order (list ∷ earlier) present = present-stands list order present

pub newest_present : (order : ℕ) (lists : List (List ℕ)) → InNewest order lists → Present (get_or lists 0 []) order
newest_present order [] e = absurd e
newest_present order (list ∷ earlier) e = stands-present list order e

module _ (rest : ℕ) where
  -- ---- one call more

  abbrev listed : Bool → List (List ℕ) → List ℕ → List (List ℕ)
  listed test calls list = cond test (list ∷ accepted rest calls) (accepted rest calls)

  -- an accepted call makes a step
  pub accepted-more : (calls : List (List ℕ)) (list : List ℕ) (desk : Desk) → accept_of rest (desk_after rest calls) list ≡ record { verdict = Passed; desk = desk }
      → (desk_after rest (list ∷ calls) ≡ desk) × (accepted rest (list ∷ calls) ≡ list ∷ accepted rest calls)
  unfolding desk_after accepted
  accepted-more calls list desk call = (ap (λ a. a.desk) call, ap (λ a. listed (eqb (number_of a.verdict) 0) calls list) call)

  abbrev pub refusal : List (List ℕ) → List ℕ → ℕ
  refusal calls list = list_refusal (desk_after rest calls).places list

  pub accepts-one : (calls : List (List ℕ)) (list : List ℕ) → refusal calls list ≡ 0
      → (desk_after rest (list ∷ calls) ≡ step_of rest (desk_after rest calls) list) × (accepted rest (list ∷ calls) ≡ list ∷ accepted rest calls)
  accepts-one calls list e = accepted-more calls list (step_of rest (desk_after rest calls) list) (accepts rest (desk_after rest calls) list e)

  -- a refused one makes none
  refuses-one : (calls : List (List ℕ)) (list : List ℕ) → (refusal calls list ≡ 0 → ⊥)
      → (desk_after rest (list ∷ calls) ≡ desk_after rest calls) × (accepted rest (list ∷ calls) ≡ accepted rest calls)
  unfolding desk_after accepted
  refuses-one calls list n =
      let call = refuses rest (desk_after rest calls) list n in (
        ap (λ a. a.desk) call,
        ap (λ a. listed (eqb (number_of a.verdict) 0) calls list) call ∙ ap (λ t. listed t calls list) (ne_eqb (refusal calls list) 0 n),
      )

  -- one call more: accepted or refused
  abbrev one_call : {C : Type 0} (calls : List (List ℕ)) (list : List ℕ) → (refusal calls list ≡ 0 → C) → ((refusal calls list ≡ 0 → ⊥) → C) → C
  one_call calls list yes' no' = on (eqb (refusal calls list) 0) (λ e. yes' (eqb-true (refusal calls list) 0 e)) (λ e. no' (eqb-false (refusal calls list) 0 e))

  -- the calls make a run of accepted lists
  pub desk_run_lem : (calls : List (List ℕ)) → (desk_after rest calls ≡ desk_run rest rest (accepted rest calls)) × AllAccepted rest rest (accepted rest calls)
  unfolding desk_after accepted
  desk_run_lem [] = (sym (run_none rest rest), tt)
  desk_run_lem (list ∷ calls) = go (desk_run_lem calls)
    where
      go : (desk_after rest calls ≡ desk_run rest rest (accepted rest calls)) × AllAccepted rest rest (accepted rest calls)
          → (desk_after rest (list ∷ calls) ≡ desk_run rest rest (accepted rest (list ∷ calls))) × AllAccepted rest rest (accepted rest (list ∷ calls))
      go (same, good) =
          one_call calls list
          (λ e.
          rw (accepts-one calls list e).1
          ((accepts-one calls list e).0 ∙ (ap (λ desk. step_of rest desk list) same ∙ sym (run_more rest rest list (accepted rest calls))), (subst (λ (desk : Desk). list_refusal desk.places list ≡ 0) same e, good)))
          (λ n. rw (refuses-one calls list n).1 ((refuses-one calls list n).0 ∙ same, good))

  made_more : (calls : List (List ℕ)) (list : List ℕ) → steps_made rest (list ∷ calls) ≤ steps_made rest calls + 1
  made_more calls list =
      one_call calls list
      (λ e. omega (arith, ap length (accepts-one calls list e).1))
      (λ n. omega (arith, ap length (refuses-one calls list n).1))

  -- ---- the calls up to a step

  abbrev history : List (List ℕ) → ℕ → List (List ℕ)
  history calls n = accepted rest (up_to rest calls n)

  pub up_to-before : (calls : List (List ℕ)) (list : List ℕ) (n : ℕ) → n < steps_made rest (list ∷ calls) → up_to rest (list ∷ calls) n ≡ up_to rest calls n
  unfolding up_to
  up_to-before calls list n h = rw (lt-ltb n (steps_made rest (list ∷ calls)) h) refl

  pub up_to-all : (calls : List (List ℕ)) (n : ℕ) → steps_made rest calls ≤ n → up_to rest calls n ≡ calls
  unfolding up_to
  up_to-all [] n h = refl
  up_to-all (list ∷ calls) n h = rw (le-ltb n (steps_made rest (list ∷ calls)) h) refl

  none_made : steps_made rest [] ≡ 0
  unfolding accepted
  none_made = refl

  -- the calls up to step n made n steps
  pub made-up_to : (calls : List (List ℕ)) (n : ℕ) → n ≤ steps_made rest calls → steps_made rest (up_to rest calls n) ≡ n
  made-up_to [] n h = ap (λ c. steps_made rest c) (up_to-all [] n (omega (arith, none_made))) ∙ omega (arith, none_made)
  made-up_to (list ∷ calls) n h =
      on (ltb n (steps_made rest (list ∷ calls)))
      (λ e.
      let less : n < steps_made rest (list ∷ calls) = ltb-true n (steps_made rest (list ∷ calls)) e in
      ap (λ c. steps_made rest c) (up_to-before calls list n less) ∙ made-up_to calls n (omega (arith, made_more calls list)))
      (λ e.
      let all : steps_made rest (list ∷ calls) ≤ n = ltb-false n (steps_made rest (list ∷ calls)) e in
      ap (λ c. steps_made rest c) (up_to-all (list ∷ calls) n all) ∙ omega arith)

  -- the step after has one list more
  pub history-next : (calls : List (List ℕ)) (k : ℕ) → suc k ≤ steps_made rest calls → (list : List ℕ) × (history calls (suc k) ≡ list ∷ history calls k)
  unfolding accepted
  history-next [] k h = absurd (omega arith)
  history-next (list ∷ calls) k h =
      let before : up_to rest (list ∷ calls) k ≡ up_to rest calls k = up_to-before calls list k (omega arith) in
      on (ltb (suc k) (steps_made rest (list ∷ calls)))
      (λ e.
      let less : suc k < steps_made rest (list ∷ calls) = ltb-true (suc k) (steps_made rest (list ∷ calls)) e in
      given (history-next calls k (omega (arith, made_more calls list)))
      (λ (l, same). (l, ap (accepted rest) (up_to-before calls list (suc k) less) ∙ (same ∙ ap (λ c. l ∷ accepted rest c) (sym before)))))
      (λ e.
      let all : steps_made rest (list ∷ calls) ≤ suc k = ltb-false (suc k) (steps_made rest (list ∷ calls)) e in
      let now : history (list ∷ calls) (suc k) ≡ accepted rest (list ∷ calls) = ap (accepted rest) (up_to-all (list ∷ calls) (suc k) all) in
      one_call calls list
      (λ z.
      let was : up_to rest calls k ≡ calls = up_to-all calls k (omega (arith, ap length (accepts-one calls list z).1)) in
      (list, now ∙ ((accepts-one calls list z).1 ∙ ap (λ c. list ∷ accepted rest c) (sym (before ∙ was)))))
      (λ z.
      let made : steps_made rest calls ≡ suc k = omega (arith, ap length (refuses-one calls list z).1) in
      given (history-next calls k (omega arith))
      (λ (l, same).
      (l, now ∙ ((refuses-one calls list z).1 ∙ (sym (ap (accepted rest) (up_to-all calls (suc k) (omega arith))) ∙ (same ∙ ap (λ c. l ∷ accepted rest c) (sym before))))))))

  -- ---- the lists from one step to another

  module _ (calls : List (List ℕ)) where
    -- the lists after step m up to step m + k, and what standing in them means
    pub record Span (m k : ℕ) : Type 0 where
      pub lists : List (List ℕ)
      pub joins : history calls (m + k) ≡ lists ++ history calls m
      pub many : length lists ≡ k
      pub to : (order : ℕ) → Stood order lists → InNewest order (history calls m) → StoodFrom rest calls order m (m + k)
      pub from : (order : ℕ) → StoodFrom rest calls order m (m + k) → Stood order lists × InNewest order (history calls m)

    pub span : (m k : ℕ) → m + k ≤ steps_made rest calls → Span m k
    span m zero h =
        record {
          lists = [];
          joins = ap (history calls) (add-zero m);
          many = refl;
          to = λ order s i j a b.
              let e : m ≡ j = omega arith in
              subst (λ t. StoodIn rest calls order t) e (newest_present order (history calls m) i);
          from = λ order t. (tt, present_newest order (history calls m) (t m (omega arith) (omega arith)));
        }
    span m (suc k) h = go (span m k (omega arith)) (history-next calls (m + k) (omega arith))
      where
        go : Span m k → (list : List ℕ) × (history calls (suc (m + k)) ≡ list ∷ history calls (m + k)) → Span m (suc k)
        go s (list, more) =
            let e : suc (m + k) ≡ m + suc k = omega arith in
            record {
              lists = list ∷ s.lists;
              joins = ap (history calls) (sym e) ∙ (more ∙ ap (λ l. list ∷ l) s.joins);
              many = ap suc s.many;
              to = λ order (here, before) i j a b.
                  on (eqb j (suc (m + k)))
                  (λ z.
                  subst (λ t. StoodIn rest calls order t) (sym (eqb-true j (suc (m + k)) z))
                  (newest_present order (history calls (suc (m + k))) (subst (InNewest order) (sym more) here)))
                  (λ z. s.to order before i j a (omega (arith, eqb-false j (suc (m + k)) z)));
              from = λ order t.
                  given (s.from order (λ j a b. t j a (omega arith)))
                  (λ (stood, i). ((subst (InNewest order) more (present_newest order (history calls (suc (m + k))) (t (suc (m + k)) (omega arith) (omega arith))), stood), i));
            }

  -- ---- the tables of a run, the rest being 11 or less
  module _ (few : rest ≤ 11) (calls : List (List ℕ)) where
    desk-is : (n : ℕ) → desk_of rest calls n ≡ desk_run rest rest (history calls n)
    desk-is n = (desk_run_lem (up_to rest calls n)).0

    good : (n : ℕ) → AllAccepted rest rest (history calls n)
    good n = (desk_run_lem (up_to rest calls n)).1

    pub sound : (n : ℕ) → Sound rest (desk_of rest calls n)
    sound n = subst (Sound rest) (sym (desk-is n)) (run_sound rest rest (omega arith) few (history calls n) (good n))

    -- the desk of step n has step number n, around 8,192
    pub step_is : (n : ℕ) → n ≤ steps_made rest calls → (desk_of rest calls n).step ≡ n % steps
    step_is n made =
        ap (λ (desk : Desk). desk.step) (desk-is n) ∙ (run_step rest rest (omega arith) few (history calls n) ∙ ap (λ k. k % steps) (made-up_to calls n made))

    pub table-twenty : (n : ℕ) → length (table_in rest calls n) ≡ slot_count
    table-twenty n = table-long (sound n)

    pub table-apart : (n : ℕ) → clashes (table_in rest calls n) ≡ false
    table-apart n =
        no_clash (table_in rest calls n)
        (λ i j p a b same. table-distinct (sound n) i j p ((held_occupied (table_slot (table_in rest calls n) i) (table-held (sound n) i)).0 a) same)

    -- a slot is occupied exactly when an order has it
    pub occupied_ordered : (n i : ℕ) → (is_occupied (table_slot (table_in rest calls n) i) ≡ true) ↔ (1 ≤ order_in rest calls n i)
    occupied_ordered n i =
        let number : (table_slot (table_in rest calls n) i).number ≡ (place_at (desk_of rest calls n).places i).slot.number = ap (λ x. x.number) (table_at (desk_of rest calls n) i) in
        let both = held_occupied (table_slot (table_in rest calls n) i) (table-held (sound n) i) in (
          λ o. ordered (sound n).orderly i (omega (arith, both.0 o)),
          λ o. both.1 (omega (arith, ((sound n).orderly.numbered i o).0)),
        )

    -- ---- two tables

    -- the same number with the same type is in the earlier table
    abbrev pub Again : ℕ → ℕ → ℕ → Type 0
    Again m n i = InPicture (table_in rest calls m) (table_slot (table_in rest calls n) i)

    module _ (m n i : ℕ) (m≤n : m ≤ n) (n≤m : n ≤ m + rest) (made : n ≤ steps_made rest calls) (live : 1 ≤ order_in rest calls n i) where
      between : Span calls m (n - m)
      between = span calls m (n - m) (omega arith)

      abbrev then : Desk
      then = desk_run rest rest (history calls m)

      abbrev now : Desk
      now = desk_run rest rest (between.lists ++ history calls m)

      joined : history calls n ≡ between.lists ++ history calls m
      joined =
          let e : m + (n - m) ≡ n = omega arith in
          sym (ap (history calls) e) ∙ between.joins

      now-is : desk_of rest calls n ≡ now
      now-is = desk-is n ∙ ap (desk_run rest rest) joined

      all-good : AllAccepted rest rest (between.lists ++ history calls m)
      all-good = subst (AllAccepted rest rest) joined (good n)

      slot-then : (j : ℕ) → table_slot (table_in rest calls m) j ≡ (at then j).slot
      slot-then j = table_at (desk_of rest calls m) j ∙ ap (λ (desk : Desk). (at desk j).slot) (desk-is m)

      slot-now : table_slot (table_in rest calls n) i ≡ (at now i).slot
      slot-now = table_at (desk_of rest calls n) i ∙ ap (λ (desk : Desk). (at desk i).slot) now-is

      order-now : order_in rest calls n i ≡ (at now i).order
      order-now = ap (λ (desk : Desk). (at desk i).order) now-is

      sound-now : Sound rest now
      sound-now = subst (Sound rest) now-is (sound n)

      stood : Stood (order_in rest calls n i) between.lists → InNewest (order_in rest calls n i) (history calls m) → StoodFrom rest calls (order_in rest calls n i) m n
      stood a b =
          let e : m + (n - m) ≡ n = omega arith in
          subst (λ k. StoodFrom rest calls (order_in rest calls n i) m k) e (between.to (order_in rest calls n i) a b)

      pub again-stood : Again m n i → StoodFrom rest calls (order_in rest calls n i) m n
      again-stood (j, small, number, kind) =
          let same : (at now i).slot.number ≡ (at then j).slot.number =
          ap (λ x. x.number) (sym slot-now) ∙ (sym number ∙ ap (λ x. x.number) (slot-then j)) in
          let positive : 1 ≤ (at now i).slot.number = (sound-now.orderly.numbered i (omega (arith, order-now))).0 in
          given (same_number rest rest (omega arith) few between.lists (history calls m) j i all-good (omega (arith, between.many)) (omega arith) same)
          (λ (through, place, order).
          let own : (at then j).order ≡ order_in rest calls n i = sym order ∙ sym order-now in
          stood
          (subst (λ o. Stood o between.lists) own through)
          (subst (λ o. InNewest o (history calls m)) own (live_newest rest rest (omega arith) few (history calls m) j (good m) (omega arith))))

      pub stood-again : StoodFrom rest calls (order_in rest calls n i) m n → Again m n i
      stood-again through =
          let e : n ≡ m + (n - m) = omega arith in
          given (between.from (order_in rest calls n i) (subst (λ k. StoodFrom rest calls (order_in rest calls n i) m k) e through))
          (λ (stood, newest).
          given (newest_live rest rest (omega arith) few (history calls m) (order_in rest calls n i) (good m) live newest)
          (λ (j, small, is).
          given (persists rest rest (omega arith) few between.lists (history calls m) j all-good (omega (arith, is)) (subst (λ o. Stood o between.lists) (sym is) stood))
          (λ (number, order, kind).
          let place : j ≡ i = sound-now.orderly.single j i (omega (arith, order, is)) (order ∙ (is ∙ order-now)) in
          let at_i : (at now j).slot ≡ (at now i).slot = ap (λ k. (at now k).slot) place in (
            j,
            small,
            ap (λ x. x.number) (slot-then j) ∙ (sym number ∙ (ap (λ x. x.number) at_i ∙ ap (λ x. x.number) (sym slot-now))),
            ap kind_of (slot-then j) ∙ (sym kind ∙ (ap kind_of at_i ∙ ap kind_of (sym slot-now))),
          ))))
