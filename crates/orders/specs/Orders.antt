-- The refusals of a list of orders: document 01, "Refusal numbers", rows 1 to 8.
use Rattle.condition.specs.Slots.{coded_of, slot_count}
use Rattle.std.specs.Prelude.{ℕ, ◌%◌, ◌<◌, ◌≤◌, ◌≡◌, Bool, true, false, not, ◌&&◌, List, [], ◌∷◌, map, eqb, ltb, length}
use Rattle.kit.specs.Each.{each}
use Rattle.kit.specs.Ladder.{ladder}
use Rattle.kinds.specs.Words.{is_type, second_allowed}
use Rattle.order_list.specs.Lists.{order_at, order_count, is_listed}
use Rattle.order_list.specs.declared.Order.{Order}
use Rattle.places.specs.Places.{place_at, orders_of, place_of, is_live}
use Rattle.places.specs.declared.Place.{Place}

-- R-08: the types of what stands in the twenty places, in their order; 0 where nothing does
abbrev pub types_of : List Place → List ℕ
types_of places = map (λ (place : Place). (coded_of place.slot).kind) places

-- what is said of any twenty places whose orders and types these are
abbrev pub OfPlaces : List ℕ → List ℕ → (List Place → Type 0) → Type 0
OfPlaces live types says = (places : List Place) → length places ≡ slot_count → live ≡ orders_of places → types ≡ types_of places → says places

-- R-08: live order with another type
unfoldable pub is_retyped : List Place → Order → Bool
is_retyped places order =
    is_live places order.number && not (eqb (coded_of (place_at places (place_of places order.number)).slot).kind order.kind)

-- R-03: order number 0
-- R-04: type not 1 to 9
-- R-05: spare byte not zero
-- R-06: second word not allowed for the type
-- R-07: order number already in this list
-- R-08: live order with another type
unfoldable pub order_rows : List Place → List ℕ → ℕ → List (Bool × ℕ)
order_rows places list j =
    let order = order_at list j in
    (eqb order.number 0, 3)
    ∷ (not (is_type order.kind), 4)
    ∷ (not (eqb order.spare 0), 5)
    ∷ (not (second_allowed order.kind order.first order.second), 6)
    ∷ (is_listed list j order.number, 7)
    ∷ (is_retyped places order, 8)
    ∷ []

-- R-01: list length not a multiple of 10
-- R-02: list over 200 bytes
-- R-18: then the first bad order, within it 3, 4, 5, 6, 7, 8
unfoldable pub list_rows : List Place → List ℕ → List (Bool × ℕ)
list_rows places list =
    (not (eqb (length list % 10) 0), 1) ∷ (ltb 200 (length list), 2) ∷ each (order_rows places list) 0 (order_count list)

-- R-18, R-23: the first of these rows that holds, or 0
abbrev pub list_refusal : List Place → List ℕ → ℕ
list_refusal places list = ladder 0 (list_rows places list)

-- D-01, R-01 to R-08: what a list is that no row refuses (proofs/Lists.antt `fair`): whole orders and at most twenty; each with an order number
-- of its own, a type, a zero byte and an allowed second word; and where it is live, with the type that it had
pub record Fair (places : List Place) (list : List ℕ) : Type 0 where
  pub whole : length list % 10 ≡ 0
  pub short : order_count list ≤ slot_count
  pub named : (j : ℕ) → j < order_count list → 1 ≤ (order_at list j).number
  pub typed : (j : ℕ) → j < order_count list → is_type (order_at list j).kind ≡ true
  pub plain : (j : ℕ) → j < order_count list → (order_at list j).spare ≡ 0
  pub allowed : (j : ℕ) → j < order_count list → second_allowed (order_at list j).kind (order_at list j).first (order_at list j).second ≡ true
  pub distinct : (i j : ℕ) → i < j → j < order_count list → (order_at list i).number ≡ (order_at list j).number → ⊥
  pub same_type : (j : ℕ) → j < order_count list → is_retyped places (order_at list j) ≡ false
