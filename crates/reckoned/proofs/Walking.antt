-- P4 and P5: what a fresh desk's own calls give. The desk and the count of its steps are computed together in one walk over the lists,
-- so that each call is answered once.
use Prim.Native.Nat.{ℕ, suc}
use mathlib.Core.Path.{◌≡◌, refl, sym, ap, ap₂, ◌∙◌}
use mathlib.Core.Bool.{Bool, true, cond, ◌&&◌}
use mathlib.Core.List.{List, [], ◌∷◌, ◌++◌, map}
use lib.Dec.{eqb}
use lib.ListN.{length, replicate}
use Rattle.kit.specs.Each.{each}
use Rattle.kit.specs.Ladder.{ladder}
use Rattle.kit.specs.Loops.{scan, fold}
use Rattle.kit.proofs.Cases.{on, given, and_both}
use Rattle.wire.specs.Steps.{gap_of}
use Rattle.wire.specs.Verdicts.{number_of, verdict_of}
use Rattle.kinds.specs.Words.{second_allowed, second_held, is_considered}
use Rattle.condition.specs.Slots.{body_of, coded_of}
use Rattle.order_list.specs.Lists.{order_at, listed_at}
use Rattle.places.specs.Places.{place_of}
use Rattle.places.specs.declared.Place.{Place}
use Rattle.orders.specs.Orders.{order_rows, is_retyped, list_rows}
use Rattle.resting.specs.Rests.{rests_by, is_resting}
use Rattle.numbers.specs.Numbers.{has_number, next_number}
use Rattle.leaving.specs.Leaving.{kept_among, ended_entry, ended_among}
use Rattle.arriving.specs.Arriving.{seated, seated_all}
use Rattle.desk.specs.Desks.{Accepting, base_rest, fresh_with, accept_of}
use Rattle.desk.specs.Steps.{step_of}
use Rattle.desk.specs.declared.Desk.{Desk}
use Rattle.claims.specs.Calls.{desk_after, accepted, steps_made}
use Rattle.reckoned.specs.Reckoned.{order_bytes, order_list, wholly_new, one_stays, empty_lists, step_and_numbers, numbers_from, alone, to_255}
use Rattle.reckoned.proofs.Sameness.{same, same_equal}

-- a desk and how many steps it has made
abbrev pub Walked : Type 0
Walked = Desk × ℕ

unfoldable pub counted : Accepting → ℕ → Walked
counted answer made = (answer.desk, cond (eqb (number_of answer.verdict) 0) (suc made) made)

abbrev pub onward : Walked → List ℕ → Walked
onward (desk, made) list = counted (accept_of base_rest desk list) made

unfoldable pub walked : List (List ℕ) → Walked
walked [] = (fresh_with base_rest, 0)
walked (list ∷ calls) = onward (walked calls) list

-- what is looked at, of a walk
looked : Walked → List ℕ
looked (desk, made) = made ∷ map (λ (p : Place). p.slot.number) desk.places

length-cond : (test : Bool) (list : List ℕ) (lists : List (List ℕ)) → length (cond test (list ∷ lists) lists) ≡ cond test (suc (length lists)) (length lists)
length-cond test list lists = on test (λ e. rw e refl) (λ e. rw e refl)

-- the walk gives the desk after the calls and the count of the accepted ones
pub walked-is : (calls : List (List ℕ)) → (desk_after base_rest calls ≡ (walked calls).0) × (steps_made base_rest calls ≡ (walked calls).1)
unfolding desk_after accepted walked counted
walked-is [] = (refl, refl)
walked-is (list ∷ calls) = go (walked-is calls)
  where
    go : (desk_after base_rest calls ≡ (walked calls).0) × (steps_made base_rest calls ≡ (walked calls).1)
        → (desk_after base_rest (list ∷ calls) ≡ (walked (list ∷ calls)).0) × (steps_made base_rest (list ∷ calls) ≡ (walked (list ∷ calls)).1)
    go (desk, made) = (
      ap (λ d. (accept_of base_rest d list).desk) desk,
      length-cond (eqb (number_of (accept_of base_rest (desk_after base_rest calls) list).verdict) 0) list (accepted base_rest calls)
          ∙ ap₂ (λ d (m : ℕ). cond (eqb (number_of (accept_of base_rest d list).verdict) 0) (suc m) m) desk made,
    )

-- and more lists after those
onwards : List (List ℕ) → Walked → Walked
onwards [] walk = walk
onwards (list ∷ lists) walk = onward (onwards lists walk) list

onwards-is : (lists calls : List (List ℕ)) → onwards lists (walked calls) ≡ walked (lists ++ calls)
unfolding onwards walked
onwards-is [] calls = refl
onwards-is (list ∷ lists) calls = ap (λ walk. onward walk list) (onwards-is lists calls)

-- what is seen after each of some further lists: as a test that computes, and as what the test says
abbrev pub Look : Type 0
Look = List (List ℕ) × List ℕ

seen : List Look → Walked → Bool
seen [] walk = true
seen ((lists, written) ∷ looks) walk = same (looked (onwards lists walk)) written && seen looks walk

abbrev pub Seen : List Look → List (List ℕ) → Type 0
Seen [] calls = Unit
Seen ((lists, written) ∷ looks) calls = (step_and_numbers (lists ++ calls) ≡ written) × Seen looks calls

by_walk : (looks : List Look) (calls : List (List ℕ)) → seen looks (walked calls) ≡ true → Seen looks calls
unfolding seen step_and_numbers looked
by_walk [] calls e = tt
by_walk ((lists, written) ∷ looks) calls e =
    given (and_both (same (looked (onwards lists (walked calls))) written) (seen looks (walked calls)) e)
    (λ (here, there). (
      ap₂ (λ d (m : ℕ). m ∷ map (λ (p : Place). p.slot.number) d.places) (walked-is (lists ++ calls)).0 (walked-is (lists ++ calls)).1
          ∙ (ap looked (sym (onwards-is lists calls)) ∙ same_equal (looked (onwards lists (walked calls))) written here),
      by_walk looks calls there,
    ))

-- ---- what the checker computes

-- P4: the steps 12 and 13, from one walk of twelve
abbrev pub p4_looks : List Look
p4_looks = ([], 12 ∷ numbers_from 20 221) ∷ (order_list 20 241 ∷ [], 13 ∷ (numbers_from 15 241 ++ numbers_from 5 1)) ∷ []

-- P5: the steps 14, 15, 22 and 23, from one walk of fourteen
abbrev pub p5_looks : List Look
p5_looks =
    ([], 14 ∷ 1 ∷ (numbers_from 7 249 ++ replicate 12 0))
    ∷ ([] ∷ [], 15 ∷ replicate 20 0)
    ∷ (order_list 1 1000 ∷ (empty_lists 6 ++ ([] ∷ [])), 22 ∷ alone 2)
    ∷ (order_list 1 1000 ∷ (empty_lists 7 ++ ([] ∷ [])), 23 ∷ alone 1)
    ∷ []

pub runs_seen : Seen p4_looks (wholly_new 12) × Seen p5_looks to_255
unfolding seen onwards looked walked counted same order_bytes order_list wholly_new one_stays empty_lists numbers_from alone to_255 each ladder scan fold body_of second_held is_considered second_allowed gap_of order_at listed_at place_of rests_by is_resting has_number next_number fresh_with accept_of verdict_of coded_of order_rows is_retyped list_rows kept_among ended_entry ended_among seated seated_all step_of
runs_seen = (by_walk p4_looks (wholly_new 12) refl, by_walk p5_looks to_255 refl)
