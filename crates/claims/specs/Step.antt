-- What a step does. Document 01, "The list and the step":
--
--   "An accepted list makes one step:
--   - The step number rises by one; 8,191 is followed by 0. A fresh desk is at step 0 with all slots empty. [..]
--   - A live order absent from the list has ended and its slot is free. An order present keeps its slot and number and takes the new
--     words.
--   - New orders, in list order, take the lowest free slot and the first permitted number after the last one given. 255 is followed
--     by 1; 0 is never given. A fresh desk gives 1 first.
--   - A number is permitted if no live order has it and no order that had it ended in this step or in the seven accepted steps before.
--     So eight tables in a row go without it. At most 160 numbers rest at once, hence a permitted one always exists and the desk never
--     answers that it has no number.
--   - An order that ends and comes back is new.
--   An empty list is accepted and ends everything. A refused list makes no step and shortens no rest."
--
-- How a step is reckoned, the contracts say: by `step_of` (desk/specs/Steps.antt) and, below it, `ended_numbers`, `seated_all`, `lowest_free`
-- and `next_number`. This page says what comes of it, without any of these: of the desk before the step, the list, and the desk after, by
-- their slots, numbers and lists alone; of the steps before, by the desk's own calls: its table and its list of each step, and how many
-- it has made (Calls.antt). Where it is told that what a desk keeps of ended numbers is right, it is read by `is_resting`, as the desk reads
-- it. What one call does is said of the contracts of `Desk::fresh` and `Desk::accept` (Functions.antt); what is told of many steps is said
-- of the desk of these calls, `desk_after`, which `fresh` and `goes_on` below tie to those contracts. proofs/Step.antt proves it.
use Rattle.std.specs.Prelude.{ℕ, zero, suc, ◌+◌, ◌<◌, ◌≤◌, ◌≡◌, ◌⊎◌, ◌↔◌, true, List, [], ◌∷◌, length, get_or}
use Rattle.wire.specs.Steps.{steps}
use Rattle.wire.specs.Verdicts.{ruled_accepted, ruled_refused, ruling_of}
use Rattle.condition.specs.Slots.{slot_count, coded_of, kind_of, settled}
use Rattle.order_list.specs.Lists.{order_at, order_count}
use Rattle.places.specs.Places.{free_place, place_at}
use Rattle.resting.specs.Rests.{is_resting}
use Rattle.desk.specs.Desks.{base_rest as eight, Made}
use Rattle.desk.specs.declared.Desk.{Desk}
use Rattle.claims.specs.Calls.{Present, desk_after, steps_made, desk_of, list_in}
use Rattle.claims.specs.Functions.{OfFreshDesk, OfAccept}

-- ---- what is spoken of

-- A-01: an order has slot i of a desk's table
abbrev pub HasSlot : Desk → ℕ → ℕ → Type 0
HasSlot desk order i = (1 ≤ order) × (i < slot_count) × ((place_at desk.places i).order ≡ order)

-- D-06: an order is live: it has a slot
abbrev pub Live : Desk → ℕ → Type 0
Live desk order = (i : ℕ) × HasSlot desk order i

-- D-07: the number in slot i; 0 where it is empty
abbrev pub number_in : Desk → ℕ → ℕ
number_in desk i = (place_at desk.places i).slot.number

-- D-08, D-16: order j of the list is new: it was not live before the step
abbrev pub IsNew : Desk → List ℕ → ℕ → Type 0
IsNew before list j = (j < order_count list) × (Live before (order_at list j).number → ⊥)

-- D-06, D-08: slot k is taken when order j of the list has its turn: an order has it that stays, or one that is new and stands earlier in
-- the list. So the slots of those that have ended are free before the first new order has its turn.
abbrev pub TakenAtTurn : Desk → List ℕ → Desk → ℕ → ℕ → Type 0
TakenAtTurn before list after j k =
    ((order : ℕ) × HasSlot before order k × Present list order)
    ⊎ ((m : ℕ) × (m < j) × IsNew before list m × HasSlot after (order_at list m).number k)

-- D-06, D-12: of the calls of a fresh desk, the newest first: an order that had the number ended in step f. It has a slot in the step before,
-- with that number there, and is absent from the list of step f.
abbrev pub EndedIn : List (List ℕ) → ℕ → ℕ → Type 0
EndedIn calls f number =
    (n order i : ℕ) × (f ≡ n + 1) × (f ≤ steps_made eight calls) × HasSlot (desk_of eight calls n) order i × (number_in (desk_of eight calls n) i ≡ number)
    × (Present (list_in eight calls f) order → ⊥)

-- D-12: a number rests after these calls: an order that had it ended in the newest step or in one of the seven before it
abbrev pub NumberRests : List (List ℕ) → ℕ → Type 0
NumberRests calls number = (f : ℕ) × EndedIn calls f number × (steps_made eight calls < f + eight)

-- D-12: a number is permitted when order j has its turn: none of the orders that have a slot then has it, and it does not rest, what ends in
-- this step counted
abbrev pub PermittedAtTurn : List (List ℕ) → Desk → List ℕ → Desk → ℕ → ℕ → Type 0
PermittedAtTurn calls before list after j number =
    ((k : ℕ) → TakenAtTurn before list after j k → number_in after k ≡ number → ⊥) × (NumberRests (list ∷ calls) number → ⊥)

-- D-09: the last number given when order j has its turn: that of the nearest new order before it in the list; where there is none, the last
-- one given before this step
pub data LastGiven (before : Desk) (list : List ℕ) (after : Desk) : ℕ → ℕ → Type 0 where
  none_yet : LastGiven before list after zero before.last
  passing : {j last : ℕ} → LastGiven before list after j last → Live before (order_at list j).number → LastGiven before list after (suc j) last
  giving : {j : ℕ} (i : ℕ) → IsNew before list j → HasSlot after (order_at list j).number i → LastGiven before list after (suc j) (number_in after i)

-- D-09, D-10: a number lies between the last one given and another, going round: 255 is followed by 1
abbrev pub Between : ℕ → ℕ → ℕ → Type 0
Between last number other = ((last < number) × (number < other)) ⊎ ((other ≤ last) × ((last < number) ⊎ (number < other)))

-- ---- "The step number rises by one; 8,191 is followed by 0."

pub record StepCounts (before after : Desk) : Type 0 where
  -- D-03
  pub rises : before.step + 1 < steps → after.step ≡ before.step + 1
  pub round : before.step + 1 ≡ steps → after.step ≡ 0
  pub below : after.step < steps

-- ---- "A live order absent from the list has ended and its slot is free. An order present keeps its slot and number and takes the new
-- words."

pub record OrdersStay (before : Desk) (list : List ℕ) (after : Desk) : Type 0 where
  -- D-06 to D-08: the live orders are exactly the list's; each has one slot, and a slot that none has is empty
  pub live : (order : ℕ) → Live after order ↔ Present list order
  pub single : (order i k : ℕ) → HasSlot after order i → HasSlot after order k → i ≡ k
  pub empty : (i : ℕ) → ((order : ℕ) → HasSlot after order i → ⊥) → place_at after.places i ≡ free_place
  -- D-07: one that stays keeps slot, number and type
  pub keeps : (order i : ℕ) → HasSlot before order i → Present list order
      → HasSlot after order i × (number_in after i ≡ number_in before i) × (kind_of (place_at after.places i).slot ≡ kind_of (place_at before.places i).slot)
  -- D-07, D-08, K-11, CR1-2: each has the list's type and words, with the bits of a second word that are not considered held as
  -- zero
  pub words : (j i : ℕ) → j < order_count list → HasSlot after (order_at list j).number i
      → let listed = order_at list j in
      coded_of (place_at after.places i).slot ≡ settled (record { number = number_in after i; kind = listed.kind; first = listed.first; second = listed.second })

-- ---- "New orders, in list order, take the lowest free slot and the first permitted number after the last one given. 255 is followed by
-- 1; 0 is never given. A fresh desk gives 1 first."

-- what order j of the list is given, if it is new
pub record NewOrder (calls : List (List ℕ)) (before : Desk) (list : List ℕ) (after : Desk) (j : ℕ) : Type 0 where
  -- D-08: a slot that is free at its turn, and no lower one is
  pub slot : ℕ
  pub has : HasSlot after (order_at list j).number slot
  pub free : TakenAtTurn before list after j slot → ⊥
  pub lowest : (k : ℕ) → k < slot → TakenAtTurn before list after j k
  -- D-09, D-10, D-12: a number from 1 to 255 that is permitted at its turn, and none is that lies between the last one given and it
  pub range : (1 ≤ number_in after slot) × (number_in after slot ≤ 255)
  pub permitted : PermittedAtTurn calls before list after j (number_in after slot)
  pub last : ℕ
  pub last_given : LastGiven before list after j last
  pub first : (number : ℕ) → 1 ≤ number → number ≤ 255 → Between last number (number_in after slot) → PermittedAtTurn calls before list after j number → ⊥

pub record OrdersArrive (calls : List (List ℕ)) (before : Desk) (list : List ℕ) (after : Desk) : Type 0 where
  -- D-08 to D-10, D-12
  pub new : (j : ℕ) → IsNew before list j → NewOrder calls before list after j
  -- D-09: and the next step goes on from the last number that this one gave
  pub last : LastGiven before list after (order_count list) after.last
  -- D-11: where no step was made before
  pub one_first : steps_made eight calls ≡ 0 → 1 ≤ order_count list → (i : ℕ) × HasSlot after (order_at list 0).number i × (number_in after i ≡ 1)
  -- D-16: "An order that ends and comes back is new.": so is every order that is absent from the list of the step before this one
  pub comes_back : (j : ℕ) → j < order_count list → (Present (list_in eight calls (steps_made eight calls)) (order_at list j).number → ⊥) → IsNew before list j

-- ---- P5: "Last given 255; number 1 ended in step f; one new order comes. In step f+7 it is passed over; if it comes in step f+8 instead,
-- it gets 1."

-- of the orders of the list one is new: order j
abbrev pub OneNew : Desk → List ℕ → ℕ → Type 0
OneNew before list j = IsNew before list j × ((k : ℕ) → IsNew before list k → k ≡ j)

pub record P5ForEveryStep (calls : List (List ℕ)) (before : Desk) (list : List ℕ) (after : Desk) : Type 0 where
  -- this step is f+7
  pub passed_over : (f : ℕ) → EndedIn calls f 1 → steps_made eight calls + 1 ≡ f + 7 → (i : ℕ) → number_in after i ≡ 1 → ⊥
  -- this step is f+8
  pub gets_one : (f : ℕ) → EndedIn calls f 1 → steps_made eight calls + 1 ≡ f + 8 → before.last ≡ 255 → (j : ℕ) → OneNew before list j
      → (i : ℕ) × HasSlot after (order_at list j).number i × (number_in after i ≡ 1)

-- ---- one step: an accepted list, after these calls of a fresh desk, the newest first

pub record OneStep (calls : List (List ℕ)) (before : Desk) (list : List ℕ) (after : Desk) : Type 0 where
  pub counts : StepCounts before after
  pub stay : OrdersStay before list after
  pub arrive : OrdersArrive calls before list after
  -- D-12, A-05: what the desk keeps of ended numbers says exactly which of them rest, however long it has run
  pub rests : (number : ℕ) → 1 ≤ number → (is_resting eight after.step after.ended number ≡ true) ↔ NumberRests (list ∷ calls) number
  pub p5 : P5ForEveryStep calls before list after

-- two desks are alike in all that is told above: step number, last number given, the order, number, type and words of each slot, and which
-- numbers rest
pub record Alike (one other : Desk) : Type 0 where
  pub step : one.step ≡ other.step
  pub last : one.last ≡ other.last
  pub orders : (i : ℕ) → (place_at one.places i).order ≡ (place_at other.places i).order
  pub table : (i : ℕ) → coded_of (place_at one.places i).slot ≡ coded_of (place_at other.places i).slot
  pub rests : (number : ℕ) → 1 ≤ number → is_resting eight one.step one.ended number ≡ is_resting eight other.step other.ended number

-- ---- all steps, the calls of a fresh desk standing the newest first

pub record TheStep : Type 0 where
  -- "A fresh desk is at step 0 with all slots empty." (D-04) It has given no number (D-11).
  pub fresh : OfFreshDesk (λ desk. (desk ≡ desk_after eight []) × (desk.step ≡ 0) × (desk.last ≡ 0) × ((i : ℕ) → place_at desk.places i ≡ free_place))
  -- R-26: a call leaves the desk of one call more, whether its list is accepted or refused
  pub goes_on : OfAccept (λ desk list answer. (calls : List (List ℕ)) → desk ≡ desk_after eight calls → answer.desk ≡ desk_after eight (list ∷ calls))
  -- R-26: a desk that a making and earlier calls gave is one that a fresh desk became by some calls
  pub by_calls : (desk : Desk) → Made desk ↔ ((calls : List (List ℕ)) × (desk ≡ desk_after eight calls))
  -- "An accepted list makes one step" (D-02)
  pub steps_so : OfAccept (λ desk list answer. (calls : List (List ℕ)) → desk ≡ desk_after eight calls → ruling_of answer.verdict ≡ ruled_accepted
      → OneStep calls desk list answer.desk)
  -- and what is told of a step leaves nothing of it open: desks of which it is true are alike
  pub determined : (calls : List (List ℕ)) (list : List ℕ) (one other : Desk) → OneStep calls (desk_after eight calls) list one
      → OneStep calls (desk_after eight calls) list other → Alike one other
  -- "So eight tables in a row go without it.": the tables of steps f to f + 7, where an order that had the number ended in step f (D-13)
  pub eight_tables : (calls : List (List ℕ)) (f number : ℕ) → EndedIn calls f number
      → (m i : ℕ) → f ≤ m → m < f + 8 → m ≤ steps_made eight calls → number_in (desk_of eight calls m) i ≡ number → ⊥
  -- "At most 160 numbers rest at once" (D-14): of numbers that rest, all different, there are no more
  pub few_rest : (calls : List (List ℕ)) (numbers : List ℕ)
      → ((i k : ℕ) → i < length numbers → k < length numbers → get_or numbers i 0 ≡ get_or numbers k 0 → i ≡ k)
      → ((i : ℕ) → i < length numbers → NumberRests calls (get_or numbers i 0))
      → length numbers ≤ 160
  -- "hence a permitted one always exists" (D-15); that each new order finds one is `NewOrder`
  pub one_permitted : (calls : List (List ℕ))
      → (number : ℕ) × (1 ≤ number) × (number ≤ 255) × ((i : ℕ) → number_in (desk_after eight calls) i ≡ number → ⊥) × (NumberRests calls number → ⊥)
  -- "An empty list is accepted and ends everything." (D-17)
  pub empty : OfAccept (λ desk list answer. Made desk → list ≡ [] → (ruling_of answer.verdict ≡ ruled_accepted) × ((i : ℕ) → place_at answer.desk.places i ≡ free_place))
  -- "A refused list makes no step and shortens no rest." (D-18)
  pub refused : OfAccept (λ desk list answer. (number : ℕ) → ruling_of answer.verdict ≡ ruled_refused number → answer.desk ≡ desk)
