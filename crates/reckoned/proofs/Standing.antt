-- Runs of both ends, computed.
use Prim.Native.Nat.{ℕ, zero, suc, ◌+◌, ◌%◌, ◌<◌, ◌≤◌}
use mathlib.Core.Path.{◌≡◌, refl, sym, ap, ap₂, ◌∙◌}
use mathlib.Core.List.{List, [], ◌∷◌, map}
use lib.Dec.{ltb}
use lib.ListN.{length, replicate, length-replicate}
use native.Mathlib.Omega.{arith}
use borrow.Author.Tests.{ltb-true, ltb-false}
use Rattle.kit.specs.Each.{each}
use Rattle.kit.specs.Ladder.{ladder}
use Rattle.kit.specs.Loops.{scan, fold}
use Rattle.kit.proofs.Cases.{on}
use Rattle.condition.specs.Slots.{body_of, coded_of}
use Rattle.wire.specs.Steps.{steps, gap_of}
use Rattle.wire.specs.Verdicts.{verdict_accepted, verdict_of}
use Rattle.kinds.specs.Words.{is_considered, second_allowed, second_held}
use Rattle.condition.specs.declared.slots.Body.TheVariants.{Area}
use Rattle.order_list.specs.Lists.{order_at, listed_at}
use Rattle.places.specs.Places.{free_place, place_of}
use Rattle.orders.specs.Orders.{order_rows, is_retyped, list_rows}
use Rattle.places.specs.declared.Place.{Place}
use Rattle.resting.specs.Rests.{none_ended, rests_by, is_resting}
use Rattle.numbers.specs.Numbers.{has_number, next_number}
use Rattle.desk.specs.Desks.{base_rest, fresh_with, accept_of, packet_of as deskTelegram}
use Rattle.leaving.specs.Leaving.{kept_among, ended_entry, ended_among}
use Rattle.desk.specs.Steps.{step_of}
use Rattle.arriving.specs.Arriving.{seated, seated_all}
use Rattle.desk.specs.declared.Desk.{Desk}
use Rattle.claims.specs.Calls.{desk_after, accepted, steps_made, up_to, desk_of}
use Rattle.claims.specs.Demand3.{fleet_binding, vehicle}
use Rattle.claims.specs.Ends.{message_of, listener_after}
use Rattle.claims.specs.Hearings.{Item}
use Rattle.claims.specs.Regular.{wholly}
use Rattle.telegram.specs.Telegrams.{read_of, bytes_of}
use Rattle.listener.specs.Listeners.{carries, heard_all, hear_of}
use Rattle.listener.specs.Answers.{Told}
use Rattle.claims.proofs.History.{accepted-more, up_to-before, up_to-all}
use Rattle.reckoned.specs.Reckoned.{order_bytes, order_list}
use Rattle.reckoned.specs.Standing.{standing_lists, then_five, answers}

-- order n with number n, type 1
abbrev pub entry : ℕ → Place
entry n = record { order = n; slot = record { number = n; body = Area 1 0 0 } }

-- the desk of a standing list: order 1 with number 1 in slot 0, nothing ended
abbrev pub stood : ℕ → Desk
stood step =
    record {
      places = entry 1 ∷ replicate 19 free_place;
      ended = replicate 160 none_ended;
      last = 1;
      step = step;
    }

-- and after the list of five: order 5 has number 5 in slot 4
abbrev pub fived : ℕ → Desk
fived step = record { places = entry 1 ∷ entry 2 ∷ entry 3 ∷ entry 4 ∷ entry 5 ∷ replicate 15 free_place; ended = replicate 160 none_ended; last = 5; step = step }

-- what the checker computes: the first call of a standing list, each later one, and the list of five
computed : (accept_of base_rest (fresh_with base_rest) (order_bytes 1) ≡ record { verdict = verdict_accepted; desk = stood 1 })
    × ((step : ℕ) → accept_of base_rest (stood step) (order_bytes 1) ≡ record { verdict = verdict_accepted; desk = stood ((step + 1) % steps) })
    × ((step : ℕ) → accept_of base_rest (stood step) (order_list 5 1) ≡ record { verdict = verdict_accepted; desk = fived ((step + 1) % steps) })
unfolding order_bytes order_list accept_of verdict_of coded_of fresh_with each ladder scan fold body_of second_held is_considered second_allowed order_at listed_at place_of order_rows is_retyped list_rows rests_by is_resting has_number next_number gap_of kept_among ended_entry ended_among seated seated_all step_of
computed = (refl, (λ step. refl), (λ step. refl))

-- ---- the desk of each step

standing-is : (k : ℕ) → (desk_after base_rest (standing_lists (suc k)) ≡ stood ((suc k) % steps)) × (accepted base_rest (standing_lists (suc k)) ≡ standing_lists (suc k))
unfolding standing_lists desk_after accepted
standing-is zero = accepted-more base_rest [] (order_bytes 1) (stood 1) computed.0
standing-is (suc k) = go (standing-is k)
  where
    go : (desk_after base_rest (standing_lists (suc k)) ≡ stood ((suc k) % steps)) × (accepted base_rest (standing_lists (suc k)) ≡ standing_lists (suc k))
        → (desk_after base_rest (standing_lists (suc (suc k))) ≡ stood ((suc (suc k)) % steps)) × (accepted base_rest (standing_lists (suc (suc k))) ≡ standing_lists (suc (suc k)))
    go (desk, lists) =
        let call = ap (λ d. accept_of base_rest d (order_bytes 1)) desk ∙ computed.1 ((suc k) % steps) in
        let next : (suc k % steps + 1) % steps ≡ suc (suc k) % steps = omega arith in
        let step = accepted-more base_rest (standing_lists (suc k)) (order_bytes 1) (stood (((suc k) % steps + 1) % steps)) call in
        (step.0 ∙ ap stood next, step.1 ∙ ap (λ l. order_bytes 1 ∷ l) lists)

pub standing-made : (k : ℕ) → steps_made base_rest (standing_lists k) ≡ k
unfolding standing_lists accepted
standing-made zero = refl
standing-made (suc k) = ap length (standing-is k).1 ∙ length-replicate (suc k) (order_bytes 1)

up_to-standing : (k n : ℕ) → n ≤ k → up_to base_rest (standing_lists k) n ≡ standing_lists n
unfolding standing_lists
up_to-standing zero n small = let none : n ≡ 0 = omega arith in rw none (up_to-all base_rest [] 0 (omega (arith, standing-made 0)))
up_to-standing (suc k) n small =
    on (ltb n (suc k))
    (λ e.
    let less : n < suc k = ltb-true n (suc k) e in
    up_to-before base_rest (standing_lists k) (order_bytes 1) n (omega (arith, standing-made (suc k))) ∙ up_to-standing k n (omega arith))
    (λ e.
    let same : suc k ≡ n = omega (arith, ltb-false n (suc k) e) in
    up_to-all base_rest (standing_lists (suc k)) n (omega (arith, standing-made (suc k))) ∙ ap standing_lists same)

module _ (k n : ℕ) (from : 1 ≤ n) (to : n ≤ k) where
  pub desk-standing : desk_of base_rest (standing_lists k) n ≡ stood (n % steps)
  desk-standing = go n from to
    where
      go : (n : ℕ) → 1 ≤ n → n ≤ k → desk_of base_rest (standing_lists k) n ≡ stood (n % steps)
      go zero p q = absurd (omega arith)
      go (suc n) p q = ap (desk_after base_rest) (up_to-standing k (suc n) q) ∙ (standing-is n).0

-- the same where a list of five comes after
module _ (k : ℕ) where
  five-is : (desk_after base_rest (then_five (suc k)) ≡ fived (suc (suc k) % steps)) × (accepted base_rest (then_five (suc k)) ≡ then_five (suc k))
  unfolding then_five
  five-is =
      let call = ap (λ d. accept_of base_rest d (order_list 5 1)) (standing-is k).0 ∙ computed.2 ((suc k) % steps) in
      let next : (suc k % steps + 1) % steps ≡ suc (suc k) % steps = omega arith in
      let step = accepted-more base_rest (standing_lists (suc k)) (order_list 5 1) (fived (((suc k) % steps + 1) % steps)) call in
      (step.0 ∙ ap fived next, step.1 ∙ ap (λ l. order_list 5 1 ∷ l) (standing-is k).1)

  pub five-made : steps_made base_rest (then_five (suc k)) ≡ suc (suc k)
  unfolding then_five
  five-made = ap length five-is.1 ∙ ap suc (sym (ap length (standing-is k).1) ∙ standing-made (suc k))

  pub desk-five : desk_of base_rest (then_five (suc k)) (suc (suc k)) ≡ fived (suc (suc k) % steps)
  desk-five = ap (desk_after base_rest) (up_to-all base_rest (then_five (suc k)) (suc (suc k)) (omega (arith, five-made))) ∙ five-is.0

  pub desk-before-five : (n : ℕ) → 1 ≤ n → n ≤ suc k → desk_of base_rest (then_five (suc k)) n ≡ stood (n % steps)
  unfolding then_five
  desk-before-five n from to =
      ap (desk_after base_rest) (up_to-before base_rest (standing_lists (suc k)) (order_list 5 1) n (omega (arith, five-made))) ∙ desk-standing (suc k) n from to

-- ---- the listener on messages

-- its answers to these bytes, the newest first
unfoldable pub answering : List (List ℕ) → List Told
answering [] = []
answering (bytes ∷ earlier) = (hear_of carries (heard_all carries earlier) (read_of bytes)).told ∷ answering earlier

-- packet p of a desk's table
abbrev pub wire : Desk → ℕ → List ℕ
wire desk p = bytes_of (deskTelegram desk p)

module _ (calls : List (List ℕ)) where
  abbrev pub said : Item (List ℕ) → List ℕ
  said item = message_of base_rest carries fleet_binding calls item

  pub same-listener : (heard : List (Item (List ℕ))) → vehicle calls heard ≡ heard_all carries (map said heard)
  unfolding listener_after heard_all
  same-listener [] = refl
  same-listener (item ∷ heard) = ap (λ l. (hear_of carries l (read_of (said item))).listener) (same-listener heard)

  pub same-answers : (heard : List (Item (List ℕ))) → answers calls heard ≡ answering (map said heard)
  unfolding answers answering
  same-answers [] = refl
  same-answers (item ∷ heard) = ap₂ (λ l a. (hear_of carries l (read_of (said item))).told ∷ a) (same-listener heard) (same-answers heard)

-- the five packets of a desk's table
abbrev pub five_wires : Desk → List (List ℕ) → List (List ℕ)
five_wires desk earlier = wire desk 7 ∷ wire desk 6 ∷ wire desk 5 ∷ wire desk 4 ∷ wire desk 3 ∷ earlier

-- those of a standing list at these steps
unfoldable pub wires : List ℕ → List (List ℕ)
wires [] = []
wires (n ∷ before) = five_wires (stood (n % steps)) (wires before)

abbrev pub Within : ℕ → List ℕ → Type 0
Within k [] = Unit
Within k (n ∷ before) = (1 ≤ n) × (n ≤ k) × Within k before

pub said-wires : (k : ℕ) (at : List ℕ) → Within k at → map (said (standing_lists k)) (wholly (List ℕ) at) ≡ wires at
unfolding wholly wires
said-wires k [] w = refl
said-wires k (n ∷ at) (from, to, w) = ap₂ (λ desk earlier. five_wires desk earlier) (desk-standing k n from to) (said-wires k at w)
