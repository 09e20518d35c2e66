-- P5 after the step number has gone round (A-05), over 8,197 steps. They are not computed one by one: nine steps after the last order
-- has ended, nothing rests and an empty list changes the step number alone, whatever it is.
use Prim.Native.Nat.{ℕ, zero, suc, ◌+◌, ◌%◌}
use mathlib.Core.List.{List, [], ◌∷◌, ◌++◌, map}
use mathlib.Core.Path.{◌≡◌, refl, ap, ap₂, ◌∙◌}
use lib.ListN.{length, replicate}
use native.Mathlib.Omega.{arith}
use Rattle.kit.specs.Each.{each}
use Rattle.kit.specs.Ladder.{ladder}
use Rattle.kit.specs.Loops.{scan, fold}
use Rattle.kit.proofs.Cases.{given}
use Rattle.wire.specs.Steps.{steps, gap_of}
use Rattle.kinds.specs.Words.{second_allowed, second_held, is_considered}
use Rattle.condition.specs.Slots.{body_of, coded_of}
use Rattle.order_list.specs.Lists.{order_at, listed_at}
use Rattle.places.specs.Places.{free_place, place_of}
use Rattle.places.specs.declared.Place.{Place}
use Rattle.resting.specs.Rests.{none_ended, rests_by, is_resting}
use Rattle.numbers.specs.Numbers.{has_number, next_number}
use Rattle.desk.specs.Desks.{base_rest, fresh_with, accept_of}
use Rattle.claims.specs.Calls.{desk_after, steps_made}
use Rattle.wire.specs.Verdicts.{verdict_accepted, verdict_of}
use Rattle.claims.proofs.History.{accepted-more}
use Rattle.orders.specs.Orders.{order_rows, is_retyped, list_rows}
use Rattle.leaving.specs.Leaving.{kept_among, ended_entry, ended_among}
use Rattle.desk.specs.Steps.{step_of}
use Rattle.arriving.specs.Arriving.{seated, seated_all}
use Rattle.desk.specs.declared.Desk.{Desk}
use Rattle.reckoned.proofs.Walking.{Walked, counted, walked, walked-is}
use Rattle.reckoned.specs.Reckoned.{order_bytes, order_list, wholly_new, empty_lists, step_and_numbers, alone, before_the_wrap}

-- a desk with no order and nothing at rest, the last number given 255
abbrev quiet : ℕ → Desk
quiet step = record { places = replicate 20 free_place; ended = replicate 160 none_ended; last = 255; step = step }

abbrev numbers_of : Desk → List ℕ
numbers_of desk = map (λ (p : Place). p.slot.number) desk.places

-- what the checker computes: nine empty lists after the orders, one more at any step number, and the new order at any step number, each
-- by the desk's own answer
computed : (walked (empty_lists 9 ++ before_the_wrap) ≡ (quiet 22, 22))
    × ((step : ℕ) → accept_of base_rest (quiet step) [] ≡ record { verdict = verdict_accepted; desk = quiet ((step + 1) % steps) })
    × ((step : ℕ) → accept_of base_rest (quiet step) (order_list 1 1000) ≡ record { verdict = verdict_accepted; desk = step_of base_rest (quiet step) (order_list 1 1000) })
    × ((step : ℕ) → numbers_of (step_of base_rest (quiet step) (order_list 1 1000)) ≡ alone 1)
unfolding order_bytes order_list wholly_new empty_lists alone before_the_wrap each ladder scan fold body_of second_held is_considered second_allowed gap_of order_at listed_at place_of rests_by is_resting has_number next_number fresh_with walked counted accept_of verdict_of coded_of order_rows is_retyped list_rows kept_among ended_entry ended_among seated seated_all step_of
computed = (refl, (λ step. refl), (λ step. refl), (λ step. refl))

-- however many more empty lists
abbrev more : ℕ → List (List ℕ)
more k = replicate k [] ++ (empty_lists 9 ++ before_the_wrap)

still-quiet : (k : ℕ) → (step : ℕ) × (desk_after base_rest (more k) ≡ quiet step) × (steps_made base_rest (more k) ≡ k + 22)
still-quiet zero = (22, (walked-is (more 0)).0 ∙ ap (λ (w : Walked). w.0) computed.0, (walked-is (more 0)).1 ∙ ap (λ (w : Walked). w.1) computed.0)
still-quiet (suc k) =
    given (still-quiet k)
    (λ (step, desk, made).
    let next = accepted-more base_rest (more k) [] (quiet ((step + 1) % steps)) (ap (λ d. accept_of base_rest d []) desk ∙ computed.1 step) in
    ((step + 1) % steps, next.0, ap length next.1 ∙ (ap suc made ∙ omega arith)))

more-empty : (k : ℕ) (l : List (List ℕ)) → replicate (k + 9) [] ++ l ≡ replicate k [] ++ (replicate 9 [] ++ l)
more-empty zero l = refl
more-empty (suc k) l =
    let e : suc k + 9 ≡ suc (k + 9) = omega arith in
    ap (λ (n : ℕ). replicate n [] ++ l) e ∙ ap (λ m. [] ∷ m) (more-empty k l)

pub wrap_holds : step_and_numbers (order_list 1 1000 ∷ (empty_lists 8183 ++ before_the_wrap)) ≡ 8197 ∷ alone 1
unfolding step_and_numbers empty_lists
wrap_holds =
    given (still-quiet 8174)
    (λ (step, desk, made).
    let next = accepted-more base_rest (more 8174) (order_list 1 1000) (step_of base_rest (quiet step) (order_list 1 1000)) (ap (λ d. accept_of base_rest d (order_list 1 1000)) desk ∙ computed.2 step) in
    ap (λ lists. step_and_numbers (order_list 1 1000 ∷ lists)) (more-empty 8174 before_the_wrap)
    ∙ ap₂ (λ (k : ℕ) (l : List ℕ). k ∷ l) (ap length next.1 ∙ ap suc made) (ap numbers_of next.0 ∙ computed.3 step))
