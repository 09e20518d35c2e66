-- Who stays and who ends in a step. An order that stays keeps its slot, its number and its type, and takes the list's words; the
-- places of the others are free. The places that this leaves are as orderly as those before.
use Prim.Native.Nat.{ℕ, ◌<◌, ◌≤◌}
use mathlib.Core.Path.{◌≡◌, refl, sym, ap, ◌∙◌, subst}
use mathlib.Core.Logic.{◌⊎◌, inl, inr}
use mathlib.Core.Bool.{true}
use mathlib.Core.List.{List, map}
use lib.ListN.{length-map}
use native.Mathlib.Omega.{arith}
use Rattle.orders.specs.Orders.{Fair}
use Rattle.kit.proofs.Cases.{on}
use Rattle.condition.specs.Slots.{coded_of, MayHold}
use Rattle.order_list.specs.Lists.{stands, order_named, order_at, order_count, listed_at}
use Rattle.places.specs.Places.{free_place, place_at, place_of, is_live}
use Rattle.places.specs.declared.Place.{Place}
use Rattle.order_list.proofs.Listed.{listed-there}
use Rattle.places.proofs.Live.{live_when}
use Rattle.orders.proofs.Lists.{type_kept}
use Rattle.leaving.specs.Leaving.{body_in}
use Rattle.desk.specs.Steps.{stays, kept_place}
use Rattle.leaving.proofs.Left.{kept-stays, kept-ends}
use Rattle.desk.proofs.Endings.{kept_at}
use Rattle.desk.proofs.Seating.{Distinct, Orderly, inside, live_at, made_held, made-kind}

module _ {places : List Place} (o : Orderly places) {list : List ℕ} (fair : Fair places list) where
  -- what a place is whose order stays: slot, number and type are as before, and the words are the list's (D-07)
  pub record Stayed (i : ℕ) (place : Place) : Type 0 where
    pub was : 1 ≤ (place_at places i).order
    pub listed : stands list (place_at places i).order ≡ true
    pub order : place.order ≡ (place_at places i).order
    pub number : place.slot.number ≡ (place_at places i).slot.number
    pub body : place.slot.body ≡ body_in (order_named list (place_at places i).order)
    pub kind : (coded_of place.slot).kind ≡ (coded_of (place_at places i).slot).kind
    pub held : MayHold place.slot

  module _ (i : ℕ) (listed : stands list (place_at places i).order ≡ true) where
    abbrev entry : ℕ
    entry = listed_at list (order_count list) (place_at places i).order

    there : (entry < order_count list) × ((order_at list entry).number ≡ (place_at places i).order)
    there = listed-there list (order_count list) (place_at places i).order listed

    positive : 1 ≤ (place_at places i).order
    positive = omega (arith, there.1, fair.named entry there.0)

    abbrev number : ℕ
    number = (place_at places i).slot.number

    -- refusal 8: its type is the one that it had
    same_kind : (coded_of (record { number = number; body = body_in (order_at list entry) })).kind ≡ (coded_of (place_at places i).slot).kind
    same_kind =
        let at_i : place_of places (order_at list entry).number ≡ i = ap (place_of places) there.1 ∙ live_at o i positive in
        let live : is_live places (order_at list entry).number ≡ true = live_when places (order_at list entry).number i (inside o i positive) (sym there.1) in
        made-kind fair there.0 number (o.numbered i positive).0
        ∙ (sym (type_kept places list entry fair there.0 live) ∙ ap (λ k. (coded_of (place_at places k).slot).kind) at_i)

    pub stayed : Stayed i (kept_place list (place_at places i))
    stayed =
        subst (λ (x : Place). Stayed i x) (sym (kept-stays list (order_count list) (place_at places i) listed))
        (record { was = positive; listed = listed; order = refl; number = refl; body = refl; kind = same_kind; held = made_held fair there.0 number (o.numbered i positive).0 })

  abbrev kept : List Place
  kept = map (kept_place list) places

  abbrev Case : ℕ → Type 0
  Case i = Stayed i (place_at kept i) ⊎ (place_at kept i ≡ free_place)

  pub case : (i : ℕ) → Case i
  case i =
      on (stays list (place_at places i))
      (λ e. inl (subst (λ (x : Place). Stayed i x) (sym (kept_at fair places i)) (stayed i e)))
      (λ e. inr (kept_at fair places i ∙ kept-ends list (order_count list) (place_at places i) e))

  kept_free : (i : ℕ) → Case i → (place_at kept i).order ≡ 0 → place_at kept i ≡ free_place
  kept_free i (inl s) z = absurd (omega (arith, s.order, s.was))
  kept_free i (inr e) z = e

  kept-numbered : (i : ℕ) → Case i → 1 ≤ (place_at kept i).order → (1 ≤ (place_at kept i).slot.number) × ((place_at kept i).slot.number ≤ 255)
  kept-numbered i (inl s) p = rw s.number (o.numbered i s.was)
  kept-numbered i (inr e) p = absurd (omega (arith, rw e at p))

  kept-distinct : (of : Place → ℕ) → of free_place ≡ 0 → ((i : ℕ) → Stayed i (place_at kept i) → of (place_at kept i) ≡ of (place_at places i)) → Distinct of places
      → (i j : ℕ) → Case i → Case j → 1 ≤ of (place_at kept i) → of (place_at kept i) ≡ of (place_at kept j) → i ≡ j
  kept-distinct of zero same distinct i j (inl s) (inl t) p q = distinct i j (omega (arith, same i s)) (sym (same i s) ∙ (q ∙ same j t))
  kept-distinct of zero same distinct i j (inl s) (inr e) p q = absurd (omega (arith, ap of e ∙ zero))
  kept-distinct of zero same distinct i j (inr e) t p q = absurd (omega (arith, ap of e ∙ zero))

  kept-held : (i : ℕ) → Case i → MayHold (place_at kept i).slot
  kept-held i (inl s) = s.held
  kept-held i (inr e) = rw e refl

  pub kept-orderly : Orderly kept
  kept-orderly =
      record {
        twenty = length-map places (kept_place list) ∙ o.twenty;
        free = λ i. kept_free i (case i);
        numbered = λ i. kept-numbered i (case i);
        apart = λ i j. kept-distinct (λ place. place.slot.number) refl (λ k s. s.number) o.apart i j (case i) (case j);
        single = λ i j. kept-distinct (λ place. place.order) refl (λ k s. s.order) o.single i j (case i) (case j);
        held = λ i. kept-held i (case i);
      }

  pub kept-listed : (i : ℕ) → 1 ≤ (place_at kept i).order → stands list (place_at kept i).order ≡ true
  kept-listed i p = go (case i) p
    where
      go : Case i → 1 ≤ (place_at kept i).order → stands list (place_at kept i).order ≡ true
      go (inl s) p = rw s.order s.listed
      go (inr e) p = absurd (omega (arith, rw e at p))
