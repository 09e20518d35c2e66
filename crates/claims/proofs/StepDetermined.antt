-- What the page tells of a step determines it: two desks of which it is true are alike. New orders are gone through in list order: those
-- before have the same slots and numbers in both, so the same slots are taken and the same numbers permitted at the turn of the next, and
-- there is one lowest free slot and one first permitted number.
use Prim.Native.Nat.{ℕ, zero, suc, ◌+◌, ◌<◌}
use mathlib.Core.Path.{◌≡◌, refl, sym, ap, ◌∙◌, subst}
use mathlib.Core.Logic.{◌⊎◌, inl, inr, ◌↔◌}
use mathlib.Core.Bool.{Bool, true}
use mathlib.Core.List.{List}
use lib.Dec.{eqb, ltb}
use native.Mathlib.Omega.{arith}
use borrow.Author.Tests.{eqb-true, eqb-false, ltb-true, ltb-false}
use Rattle.kit.proofs.Cases.{on, clash, given}
use Rattle.condition.specs.Slots.{slot_count, coded_of, settled}
use Rattle.order_list.specs.Lists.{order_at, order_count}
use Rattle.places.specs.Places.{place_at, is_live}
use Rattle.places.specs.declared.Place.{Place}
use Rattle.resting.specs.Rests.{is_resting}
use Rattle.wire.specs.Steps.{steps}
use Rattle.desk.specs.Desks.{base_rest as eight}
use Rattle.desk.specs.declared.Desk.{Desk}
use Rattle.claims.specs.Calls.{Present}
use Rattle.claims.specs.Step.{HasSlot, Live, number_in, IsNew, TakenAtTurn, LastGiven, none_yet, passing, giving, Between, NewOrder, OneStep, Alike}
use Rattle.claims.proofs.Arriving.{live_test, test_live}

-- of two different numbers one lies between the last one given and the other
between-one : (last a b : ℕ) → (a ≡ b → ⊥) → Between last a b ⊎ Between last b a
between-one last a b differ =
    on (ltb a b)
    (λ less.
    let a<b = ltb-true a b less in
    on (ltb last a)
    (λ e. inl (inl (ltb-true last a e, a<b)))
    (λ e.
    on (ltb last b)
    (λ f. inr (inr (ltb-false last a e, inl (ltb-true last b f))))
    (λ f. inl (inr (ltb-false last b f, inr a<b)))))
    (λ more.
    let b<a : b < a = omega (arith, ltb-false a b more, differ) in
    on (ltb last b)
    (λ e. inr (inl (ltb-true last b e, b<a)))
    (λ e.
    on (ltb last a)
    (λ f. inl (inr (ltb-false last b e, inl (ltb-true last a f))))
    (λ f. inr (inr (ltb-false last a f, inr b<a)))))

module _ (calls : List (List ℕ)) (before : Desk) (list : List ℕ) where
  abbrev named : ℕ → ℕ
  named j = (order_at list j).number

  -- what holds of two desks after the step, once the first j orders have had their turns
  abbrev Agree : Desk → Desk → ℕ → Type 0
  Agree one other j = (m : ℕ) → m < j → IsNew before list m → (i : ℕ) × HasSlot one (named m) i × HasSlot other (named m) i × (number_in one i ≡ number_in other i)

  swap : (one other : Desk) (j : ℕ) → Agree one other j → Agree other one j
  swap one other j agree m p new = given (agree m p new) (λ (i, here, there, same). (i, there, here, sym same))

  -- ---- one turn

  module _ (one other : Desk) (first : OneStep calls before list one) (second : OneStep calls before list other) (j : ℕ) (agree : Agree one other j) where
    taken_too : (k : ℕ) → TakenAtTurn before list one j k → TakenAtTurn before list other j k × (number_in one k ≡ number_in other k)
    taken_too k (inl (order, has, present)) = (inl (order, has, present), (first.stay.keeps order k has present).1 ∙ sym (second.stay.keeps order k has present).1)
    taken_too k (inr (m, below, new, has)) =
        given (agree m below new)
        (λ (i, here, there, same).
        let e : i ≡ k = first.stay.single (named m) i k here has in
        (inr (m, below, new, subst (HasSlot other (named m)) e there), subst (λ i. number_in one i ≡ number_in other i) e same))

    last-same : {a b : ℕ} → LastGiven before list one j a → LastGiven before list other j b → a ≡ b
    last-same = go j agree
      where
        go : (j : ℕ) → Agree one other j → {a b : ℕ} → LastGiven before list one j a → LastGiven before list other j b → a ≡ b
        go j agree none_yet none_yet = refl
        go (suc j) agree (passing l live) (passing k live-too) = go j (λ m p. agree m (omega arith)) l k
        go (suc j) agree (passing l live) (giving k (p, unlive) has) = absurd (unlive live)
        go (suc j) agree (giving i (p, unlive) has) (passing k live) = absurd (unlive live)
        go (suc j) agree (giving i new has) (giving k new-too has-too) =
            given (agree j (omega arith) new)
            (λ (s, here, there, same).
            ap (number_in one) (first.stay.single (named j) i s has here) ∙ (same ∙ ap (number_in other) (second.stay.single (named j) s k there has-too)))

  -- of two desks after the step, the first takes no lower slot than the second, and no number that comes sooner
  module _ (one other : Desk) (first : OneStep calls before list one) (second : OneStep calls before list other) (j : ℕ) (agree : Agree one other j)
      (new : IsNew before list j) where
    abbrev this : NewOrder calls before list one j
    this = first.arrive.new j new

    abbrev that : NewOrder calls before list other j
    that = second.arrive.new j new

    no_lower : this.slot < that.slot → ⊥
    no_lower less = this.free (taken_too other one second first j (swap one other j agree) this.slot (that.lowest this.slot less)).0

    no_sooner : Between that.last (number_in one this.slot) (number_in other that.slot) → ⊥
    no_sooner between =
        that.first (number_in one this.slot) this.range.0 this.range.1 between
        (λ k t e. given (taken_too other one second first j (swap one other j agree) k t) (λ (t-too, same). this.permitted.0 k t-too (sym same ∙ e)), this.permitted.1)

  module _ (one other : Desk) (first : OneStep calls before list one) (second : OneStep calls before list other) where
    next : (j : ℕ) → Agree one other j → (new : IsNew before list j)
        → (i : ℕ) × HasSlot one (named j) i × HasSlot other (named j) i × (number_in one i ≡ number_in other i)
    next j agree new = (
      this.slot,
      this.has,
      subst (HasSlot other (named j)) (sym slot) that.has,
      number ∙ ap (number_in other) (sym slot),
    )
      where
        this : NewOrder calls before list one j
        this = first.arrive.new j new

        that : NewOrder calls before list other j
        that = second.arrive.new j new

        slot : this.slot ≡ that.slot
        slot =
            on (ltb this.slot that.slot)
            (λ e. absurd (no_lower one other first second j agree new (ltb-true this.slot that.slot e)))
            (λ e.
            on (ltb that.slot this.slot)
            (λ f. absurd (no_lower other one second first j (swap one other j agree) new (ltb-true that.slot this.slot f)))
            (λ f. omega (arith, ltb-false this.slot that.slot e, ltb-false that.slot this.slot f)))

        last : this.last ≡ that.last
        last = last-same one other first second j agree this.last_given that.last_given

        clashes : Between that.last (number_in one this.slot) (number_in other that.slot) ⊎ Between that.last (number_in other that.slot) (number_in one this.slot) → ⊥
        clashes (inl b) = no_sooner one other first second j agree new b
        clashes (inr b) =
            no_sooner other one second first j (swap one other j agree) new
            (subst (λ n. Between n (number_in other that.slot) (number_in one this.slot)) (sym last) b)

        number : number_in one this.slot ≡ number_in other that.slot
        number =
            on (eqb (number_in one this.slot) (number_in other that.slot))
            (λ e. eqb-true (number_in one this.slot) (number_in other that.slot) e)
            (λ e. absurd (clashes (between-one that.last (number_in one this.slot) (number_in other that.slot) (eqb-false (number_in one this.slot) (number_in other that.slot) e))))

    all : (j : ℕ) → Agree one other j
    all zero m p new = absurd (omega arith)
    all (suc j) m p new =
        on (eqb m j)
        (λ e.
        let here = eqb-true m j e in
        subst (λ k. (i : ℕ) × HasSlot one (named k) i × HasSlot other (named k) i × (number_in one i ≡ number_in other i)) (sym here)
        (next j (all j) (subst (IsNew before list) here new)))
        (λ e. all j m (omega (arith, eqb-false m j e)) new)

    -- ---- the table

    same-slot : (order i : ℕ) → HasSlot one order i → HasSlot other order i × (number_in one i ≡ number_in other i)
    same-slot order i (some, small, same) = go ((first.stay.live order).0 (i, (some, small, same)))
      where
        stayed : Live before order → Present list order → HasSlot other order i × (number_in one i ≡ number_in other i)
        stayed (k, has) present =
            let one-too = first.stay.keeps order k has present in
            let other-too = second.stay.keeps order k has present in
            let e : k ≡ i = first.stay.single order k i one-too.0 (some, small, same) in
            subst (λ k. HasSlot other order k × (number_in one k ≡ number_in other k)) e (other-too.0, one-too.1 ∙ sym other-too.1)

        go : Present list order → HasSlot other order i × (number_in one i ≡ number_in other i)
        go (j, p, e) =
            on (is_live before.places order)
            (λ live. stayed (test_live before order some live) (j, p, e))
            (λ unlive.
            given (all (suc j) j (omega arith) (p, λ live. clash (live_test before order (subst (Live before) e live)) unlive))
            (λ (k, here, there, number).
            let is : k ≡ i = first.stay.single order k i (subst (λ o. HasSlot one o k) e here) (some, small, same) in
            subst (λ k. HasSlot other order k × (number_in one k ≡ number_in other k)) is (subst (λ o. HasSlot other o k) e there, number)))

    same-words : (order i : ℕ) → HasSlot one order i → coded_of (place_at one.places i).slot ≡ coded_of (place_at other.places i).slot
    same-words order i has = go ((first.stay.live order).0 (i, has)) (same-slot order i has)
      where
        go : Present list order → HasSlot other order i × (number_in one i ≡ number_in other i) → coded_of (place_at one.places i).slot ≡ coded_of (place_at other.places i).slot
        go (j, p, e) (there, number) =
            first.stay.words j i p (subst (λ o. HasSlot one o i) (sym e) has)
            ∙ (ap (λ n. settled (record { number = n; kind = (order_at list j).kind; first = (order_at list j).first; second = (order_at list j).second })) number
            ∙ sym (second.stay.words j i p (subst (λ o. HasSlot other o i) (sym e) there)))

-- a slot has an order, or has none
filled : (desk : Desk) (i : ℕ) → HasSlot desk (place_at desk.places i).order i ⊎ ((order : ℕ) → HasSlot desk order i → ⊥)
filled desk i =
    on (eqb (place_at desk.places i).order 0)
    (λ e. inr (λ order (some, small, same). omega (arith, eqb-true (place_at desk.places i).order 0 e)))
    (λ e.
    on (ltb i slot_count)
    (λ f. inl (omega (arith, eqb-false (place_at desk.places i).order 0 e), ltb-true i slot_count f, refl))
    (λ f. inr (λ order (some, small, same). omega (arith, ltb-false i slot_count f))))

-- two tests that are true when the same is
same_test : {P : Type 0} (a b : Bool) → (a ≡ true) ↔ P → (b ≡ true) ↔ P → a ≡ b
same_test a b p q =
    on a (λ e. e ∙ sym (q.1 (p.0 e))) (λ e. on b (λ f. absurd (clash (p.1 (q.0 f)) e)) (λ f. e ∙ sym f))

pub alike : (calls : List (List ℕ)) (before : Desk) (list : List ℕ) (one other : Desk) → before.step < steps → OneStep calls before list one
    → OneStep calls before list other → Alike one other
alike calls before list one other below first second =
    record {
      step =
          on (eqb (before.step + 1) steps)
          (λ e. let round = eqb-true (before.step + 1) steps e in first.counts.round round ∙ sym (second.counts.round round))
          (λ e.
          let more : before.step + 1 < steps = omega (arith, eqb-false (before.step + 1) steps e) in
          first.counts.rises more ∙ sym (second.counts.rises more));
      last = last-same calls before list one other first second (order_count list) (all calls before list one other first second (order_count list)) first.arrive.last second.arrive.last;
      orders = λ i. (place i (filled one i) (filled other i)).0;
      table = λ i. (place i (filled one i) (filled other i)).1;
      rests = λ number p.
          same_test (is_resting eight one.step one.ended number) (is_resting eight other.step other.ended number) (first.rests number p)
          (second.rests number p);
    }
  where
    place : (i : ℕ) → HasSlot one (place_at one.places i).order i ⊎ ((order : ℕ) → HasSlot one order i → ⊥)
        → HasSlot other (place_at other.places i).order i ⊎ ((order : ℕ) → HasSlot other order i → ⊥)
        → ((place_at one.places i).order ≡ (place_at other.places i).order)
        × (coded_of (place_at one.places i).slot ≡ coded_of (place_at other.places i).slot)
    place i (inl has) there = (
      sym (same-slot calls before list one other first second (place_at one.places i).order i has).0.2,
      same-words calls before list one other first second (place_at one.places i).order i has,
    )
    place i (inr none) (inl has) =
        absurd (none (place_at other.places i).order (same-slot calls before list other one second first (place_at other.places i).order i has).0)
    place i (inr none) (inr none-too) =
        let e : place_at one.places i ≡ place_at other.places i = first.stay.empty i none ∙ sym (second.stay.empty i none-too) in
        (ap (λ (x : Place). x.order) e, ap (λ (x : Place). coded_of x.slot) e)
