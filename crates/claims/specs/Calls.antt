-- A fresh desk and its calls: lists of any bytes, those that it refuses among them, the newest first.
use Rattle.std.specs.Prelude.{ℕ, ◌<◌, ◌≤◌, ◌≡◌, Bool, cond, List, [], ◌∷◌, eqb, ltb, length, get_or}
use Rattle.wire.specs.Verdicts.{number_of}
use Rattle.condition.specs.declared.slots.Slot.{Slot}
use Rattle.order_list.specs.Lists.{order_at, order_count}
use Rattle.places.specs.Places.{place_at}
use Rattle.desk.specs.Desks.{fresh_with, accept_of, table_of}
use Rattle.desk.specs.declared.Desk.{Desk}

-- D-01, D-06: an order is present in a list
abbrev pub Present : List ℕ → ℕ → Type 0
Present list order = (j : ℕ) × (j < order_count list) × ((order_at list j).number ≡ order)

-- for how many steps an ended number rests: 8 in document 01
module _ (rest : ℕ) where
  -- D-04, R-26: the desk after these calls
  unfoldable pub desk_after : List (List ℕ) → Desk
  desk_after [] = fresh_with rest
  desk_after (list ∷ calls) = (accept_of rest (desk_after calls) list).desk

  -- M-1a: whether it accepts a list after these calls, by its own answer
  abbrev pub is_accepted : List (List ℕ) → List ℕ → Bool
  is_accepted calls list = eqb (number_of (accept_of rest (desk_after calls) list).verdict) 0

  -- D-02: the lists that it accepted; each made one step
  unfoldable pub accepted : List (List ℕ) → List (List ℕ)
  accepted [] = []
  accepted (list ∷ calls) = cond (is_accepted calls list) (list ∷ accepted calls) (accepted calls)

  -- D-03: how many steps it has made
  abbrev pub steps_made : List (List ℕ) → ℕ
  steps_made calls = length (accepted calls)

  -- the calls that there were when it had made n steps
  unfoldable pub up_to : List (List ℕ) → ℕ → List (List ℕ)
  up_to [] n = []
  up_to (list ∷ calls) n = cond (ltb n (steps_made (list ∷ calls))) (up_to calls n) (list ∷ calls)

  -- the calls of one run
  module _ (calls : List (List ℕ)) where
    -- D-02: the desk of step n, and its table
    abbrev pub desk_of : ℕ → Desk
    desk_of n = desk_after (up_to calls n)

    abbrev pub table_in : ℕ → List Slot
    table_in n = table_of (desk_of n)

    -- D-06: the order of the condition in slot i of that table; 0 where the slot is empty
    abbrev pub order_in : ℕ → ℕ → ℕ
    order_in n i = (place_at (desk_of n).places i).order

    -- D-02: the accepted list of step n, the newest then; D-05, M-3d: that of step 0, a fresh desk's, counts as empty
    abbrev pub list_in : ℕ → List ℕ
    list_in n = get_or (accepted (up_to calls n)) 0 []

    -- M-3c: an order stood in the accepted list of step n
    abbrev pub StoodIn : ℕ → ℕ → Type 0
    StoodIn order n = Present (list_in n) order

    -- M-3c, A-23: it stood in every accepted list from step m to step n, both among them
    abbrev pub StoodFrom : ℕ → ℕ → ℕ → Type 0
    StoodFrom order m n = (k : ℕ) → m ≤ k → k ≤ n → StoodIn order k
