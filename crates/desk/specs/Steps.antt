-- The step that an accepted list makes: document 01, "The list and the step", its five points. Where each sentence of that paragraph is
-- defined:
--
--   D-01  a list is 0 to 20 orders of 10 bytes: `order_at`, `order_count` (order_list/specs/Lists.antt); its limits are the rows of
--         orders/specs/Orders.antt
--   D-02  an accepted list makes one step: `accept_of` (Desks.antt), `step_of`
--   D-03  the step number rises by one, 8,191 is followed by 0: `next_step`, `steps` (wire/specs/Steps.antt)
--   D-04  a fresh desk is at step 0 with all slots empty: `fresh_with` (Desks.antt), `free_place` (places/specs/Places.antt)
--   D-05  its table is one like any other, and counts as that of an empty list: `table_of`, `packet_of` (Desks.antt); `list_in`
--         (claims/specs/Calls.antt)
--   D-06  an order absent has ended and its slot is free: `ends`, `kept_among` (leaving/specs/Leaving.antt)
--   D-07  an order present keeps slot and number and takes the new words: `kept_among`, `body_in` (leaving/specs/Leaving.antt)
--   D-08  new orders, in list order, take the lowest free slot: `seated`, `seated_all` (arriving/specs/Arriving.antt), `lowest_free`
--         (places/specs/Places.antt)
--   D-09  and the first permitted number after the last one given: `seated`, `next_number` (numbers/specs/Numbers.antt)
--   D-10  255 is followed by 1, 0 is never given: `number_after` (numbers/specs/Numbers.antt)
--   D-11  a fresh desk gives 1 first: `number_after` of the last number 0, which `fresh_with` (Desks.antt) has
--   D-12  which numbers are permitted: `is_permitted` (numbers/specs/Numbers.antt), `is_resting` (resting/specs/Rests.antt), `ended_among`
--         (leaving/specs/Leaving.antt); by the desk's own calls `NumberRests` (claims/specs/Step.antt)
--   D-13  eight tables in a row go without an ended number: `base_rest` (Desks.antt); as a sentence `eight_tables` (claims/specs/Step.antt)
--   D-14  at most 160 rest at once: a fresh desk keeps so many entries, `fresh_desk` (Desks.antt), and so does every step
--   D-15  a permitted number always exists: a theorem on `next_number` (numbers/proofs/Search.antt); there is no answer that says none
--   D-16  an order that ends and comes back is new: `seated` (arriving/specs/Arriving.antt), which asks only who is live
--   D-17  an empty list is accepted and ends everything: no row of `list_rows` (orders/specs/Orders.antt) holds of it, and `ends` of all
--   D-18  a refused list makes no step and shortens no rest: `accept_of` (Desks.antt)
use Rattle.std.specs.Prelude.{ℕ, ◌+◌, ◌%◌, Bool, List, map}
use Rattle.wire.specs.Steps.{steps}
use Rattle.order_list.specs.Lists.{order_count}
use Rattle.places.specs.declared.Place.{Place}
use Rattle.resting.specs.Rests.{is_resting}
use Rattle.resting.specs.declared.Ended.{Ended}
use Rattle.leaving.specs.Leaving as Leaving
use Rattle.arriving.specs.Arriving.{seated_all}
use Rattle.arriving.specs.declared.Seats.{Seats}
use Rattle.desk.specs.declared.Desk.{Desk}

-- D-03: the step number rises by one; 8,191 is followed by 0
abbrev pub next_step : ℕ → ℕ
next_step step = (step + 1) % steps

-- ---- who stays and who ends

-- D-06, D-07: the order of this place is in the list
abbrev pub stays : List ℕ → Place → Bool
stays list place = Leaving.stays_among list (order_count list) place

-- D-06, D-07: what becomes of a place
abbrev pub kept_place : List ℕ → Place → Place
kept_place list = Leaving.kept_among list (order_count list)

-- A-05, A-40: the numbers that have ended
abbrev pub ended_numbers : List ℕ → ℕ → List Place → List Ended → List Ended
ended_numbers list = Leaving.ended_among list (order_count list)

-- ---- the step

-- D-02, D-03, D-06 to D-09, D-12: the desk after an accepted list; W-02: who stays, ends and is new is judged by this list alone, the
-- whole of the orders now in force
unfoldable pub step_of : ℕ → Desk → List ℕ → Desk
step_of rest desk list =
    let step = next_step desk.step in
    let ended = ended_numbers list step desk.places desk.ended in
    let kept : Seats = record { places = map (kept_place list) desk.places; last = desk.last } in
    let seats = seated_all (is_resting rest step ended) list kept (order_count list) in
    record { places = seats.places; ended = ended; last = seats.last; step = step }
