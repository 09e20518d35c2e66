-- Runs of a desk: the accepted lists, the newest first. Proofs about several steps speak of runs; refused lists leave the desk as it is
-- (D-18), so a run has none. The pages of `claims` speak of a desk's own calls instead, and claims/proofs ties the two together.
use Prim.Native.Nat.{ℕ, zero, suc, ◌<◌, ◌≤◌}
use mathlib.Core.Path.{◌≡◌}
use mathlib.Core.Bool.{true, false}
use mathlib.Core.List.{List, [], ◌∷◌}
use Rattle.order_list.specs.Lists.{order_at, order_count, stands}
use Rattle.places.specs.Places.{place_at, is_live}
use Rattle.places.specs.declared.Place.{Place}
use Rattle.orders.specs.Orders.{list_refusal}
use Rattle.desk.specs.declared.Desk.{Desk}
use Rattle.desk.specs.Desks.{fresh_with}
use Rattle.desk.specs.Steps.{step_of}

-- D-02: the desk after these lists, which keeps so many rows of ended numbers
unfoldable pub desk_run : ℕ → ℕ → List (List ℕ) → Desk
desk_run rest rows [] = fresh_with rows
desk_run rest rows (list ∷ earlier) = step_of rest (desk_run rest rows earlier) list

-- D-02: each of the lists is accepted when its turn comes
abbrev pub AllAccepted : ℕ → ℕ → List (List ℕ) → Type 0
AllAccepted rest rows [] = Unit
AllAccepted rest rows (list ∷ earlier) = (list_refusal (desk_run rest rows earlier).places list ≡ 0) × AllAccepted rest rows earlier

-- M-3c: an order stood in each of the lists
abbrev pub Stood : ℕ → List (List ℕ) → Type 0
Stood order [] = Unit
Stood order (list ∷ earlier) = (stands list order ≡ true) × Stood order earlier

-- M-3c, M-3d: an order stood in the newest of the lists; a fresh desk's table counts as an empty list
abbrev pub InNewest : ℕ → List (List ℕ) → Type 0
InNewest order [] = ⊥
InNewest order (list ∷ earlier) = stands list order ≡ true

-- D-12: an order that had the number ended so many steps before the newest one; 0 is the newest one itself
abbrev pub EndedAgo : ℕ → ℕ → List (List ℕ) → ℕ → ℕ → Type 0
EndedAgo rest rows [] number ago = ⊥
EndedAgo rest rows (list ∷ earlier) number zero =
    let before = (desk_run rest rows earlier).places in
    (i : ℕ) × (1 ≤ (place_at before i).order) × ((place_at before i).slot.number ≡ number) × (stands list (place_at before i).order ≡ false)
EndedAgo rest rows (list ∷ earlier) number (suc ago) = EndedAgo rest rows earlier number ago

-- P5: of the orders of a list, one is not live: order j
pub record OneNotLive (places : List Place) (list : List ℕ) (j : ℕ) : Type 0 where
  pub inlist : j < order_count list
  pub new : is_live places (order_at list j).number ≡ false
  pub others : (k : ℕ) → k < order_count list → (k ≡ j → ⊥) → is_live places (order_at list k).number ≡ true
