-- What the desk promises, of every desk that a making and earlier calls gave, and of every list: the base's instances, at a rest of
-- eight, of what Seating, Stepping, Tracing, Resting and Tables prove over any rest from 1 to 11.
use Prim.Native.Nat.{ℕ, ◌≤◌}
use mathlib.Core.Path.{◌≡◌, refl, sym, ap, ◌∙◌}
use mathlib.Core.Logic.{◌↔◌}
use mathlib.Core.Bool.{true, false}
use mathlib.Core.List.{List, [], ◌∷◌, ◌++◌, map}
use lib.ListN.{length, length-map}
use native.Mathlib.Omega.{arith}
use Rattle.kit.specs.Each.{each}
use Rattle.kit.specs.Ladder.{ladder, Decides, NoneHolds}
use Rattle.kit.specs.Loops.{scan}
use Rattle.kit.specs.Member.{member}
use Rattle.kit.proofs.Cases.{given}
use Rattle.kit.proofs.Ladder.{ladder_decides, decides_positive}
use Rattle.wire.proofs.Answers.{refused_when, accepted_when}
use Rattle.condition.specs.Slots.{coded_of}
use Rattle.wire.specs.Verdicts.{verdict_accepted, verdict_refused}
use Rattle.telegram.specs.Telegrams.{read_of, bytes_of}
use Rattle.order_list.specs.Lists.{order_at, listed_at, stands, order_named}
use Rattle.places.specs.Places.{place_at, lowest_free, is_live}
use Rattle.orders.specs.Orders.{list_rows, list_refusal}
use Rattle.orders.proofs.Lists.{fair}
use Rattle.orders.proofs.Rows.{list-numbered}
use Rattle.desk.specs.Desks.{Accepting, base_rest, accept_of, packet_of, Made}
use Rattle.leaving.specs.Leaving.{body_in}
use Rattle.desk.specs.Steps.{kept_place}
use Rattle.desk.proofs.Runs.{desk_run, AllAccepted as Accepted-run, OneNotLive}
use Rattle.desk.specs.declared.Desk.{Desk}
use Rattle.resting.specs.Rests.{is_resting}
use Rattle.numbers.specs.Numbers.{is_permitted, next_number, number_after}
use Rattle.resting.specs.declared.Ended.{Ended}
use Rattle.resting.proofs.Rested.{covers-resting}
use Rattle.numbers.proofs.Permitted.{number-permitted, number-range as search_range}
use Rattle.desk.proofs.Tracing.{at, rested}
use Rattle.desk.proofs.Turns.{passed_over, given-again}
use Rattle.desk.proofs.Making.{accepts, refuses, made-sound}
use Rattle.desk.proofs.Stepping.{live-listed, has_words, keeps}
use Rattle.desk.proofs.Tables.{packet-read}

-- R-18, R-23: a list is refused under a number exactly when the row with that number holds and no earlier one does, and accepted
-- exactly when none holds. This is so of any desk.
module _ (desk : Desk) (list : List ℕ) where
  pub refused-by : (number : ℕ) → ((accept_of base_rest desk list).verdict ≡ verdict_refused number) ↔ Decides (list_rows desk.places list) number
  unfolding accept_of
  refused-by = refused_when (list_rows desk.places list) (list-numbered desk.places list)

  pub accepted-by : ((accept_of base_rest desk list).verdict ≡ verdict_accepted) ↔ NoneHolds (list_rows desk.places list)
  unfolding accept_of
  accepted-by = accepted_when (list_rows desk.places list) (list-numbered desk.places list)

  -- D-18, R-24: a refused list changes nothing, the rests included
  pub refused-unchanged : (number : ℕ) → (accept_of base_rest desk list).verdict ≡ verdict_refused number → (accept_of base_rest desk list).desk ≡ desk
  refused-unchanged number e =
      let above = decides_positive (list_rows desk.places list) number (list-numbered desk.places list) ((refused-by number).0 e) in
      ap (λ (r : Accepting). r.desk) (refuses base_rest desk list (λ none. omega (arith, ladder_decides 0 number (list_rows desk.places list) ((refused-by number).0 e))))

module _ {desk : Desk} (made : Made desk) where
  -- D-10, L-09: live numbers are 1 to 255, and no two live orders have the same
  pub number-range : (i : ℕ) → 1 ≤ (place_at desk.places i).order → (1 ≤ (place_at desk.places i).slot.number) × ((place_at desk.places i).slot.number ≤ 255)
  number-range = (made-sound made).orderly.numbered

  pub numbers_differ : (i j : ℕ) → 1 ≤ (place_at desk.places i).slot.number → (place_at desk.places i).slot.number ≡ (place_at desk.places j).slot.number → i ≡ j
  numbers_differ = (made-sound made).orderly.apart

  -- D-14: each number that rests is one of 160
  pub few_rest : (length desk.ended ≡ 160)
      × ((number : ℕ) → is_resting base_rest desk.step desk.ended number ≡ true → member number (map (λ (e : Ended). e.number) desk.ended) ≡ true)
  few_rest = ((made-sound made).kept, covers-resting base_rest desk.step desk.ended)

  few : length (map (λ (e : Ended). e.number) desk.ended) ≤ 220
  few = omega (arith, length-map desk.ended (λ (e : Ended). e.number), few_rest.0)

  abbrev pub found : ℕ
  found = next_number (is_resting base_rest desk.step desk.ended) desk.places desk.last

  -- D-15: so the search for the next number ends at a permitted one, from 1 to 255
  pub number-found : is_permitted (is_resting base_rest desk.step desk.ended) desk.places found ≡ true
  number-found =
      number-permitted (is_resting base_rest desk.step desk.ended) (map (λ (e : Ended). e.number) desk.ended) few_rest.1 few desk.places
      (made-sound made).orderly.twenty desk.last

  pub found-range : (1 ≤ found) × (found ≤ 255)
  found-range =
      search_range (is_resting base_rest desk.step desk.ended) (map (λ (e : Ended). e.number) desk.ended) few_rest.1 few desk.places
      (made-sound made).orderly.twenty desk.last

  -- M-2d: each packet that it writes is read back
  pub reads-back : (packet : ℕ) → 3 ≤ packet → packet ≤ 7 → read_of (bytes_of (packet_of desk packet)) ≡ record { verdict = verdict_accepted; telegram = packet_of desk packet }
  reads-back = packet-read (made-sound made)

  module _ (list : List ℕ) (accepted : list_refusal desk.places list ≡ 0) where
    abbrev after : Desk
    after = (accept_of base_rest desk list).desk

    -- D-06, D-07, D-08: the live orders are exactly the list's
    pub live-exactly : (order : ℕ) → 1 ≤ order → is_live after.places order ≡ stands list order
    live-exactly order p =
        ap (λ r. is_live r.desk.places order) (accepts base_rest desk list accepted)
        ∙ live-listed base_rest base_rest (omega arith) (omega arith) desk (made-sound made) list (fair desk.places list accepted) order p

    -- D-07, D-08, K-11, CR1-2: and each has the list's words, with the bits of a second word that are not considered held as zero
    pub words-exactly : (i : ℕ) → 1 ≤ (place_at after.places i).order → (place_at after.places i).slot.body ≡ body_in (order_named list (place_at after.places i).order)
    words-exactly i =
        let e = ap (λ r. place_at r.desk.places i) (accepts base_rest desk list accepted) in
        rw e (has_words base_rest base_rest (omega arith) (omega arith) desk (made-sound made) list (fair desk.places list accepted) i)

    -- D-07: an order that stays keeps slot, number and type
    pub stays_put : (i : ℕ) → 1 ≤ (place_at desk.places i).order → stands list (place_at desk.places i).order ≡ true
        → ((place_at after.places i).order ≡ (place_at desk.places i).order)
        × ((place_at after.places i).slot.number ≡ (place_at desk.places i).slot.number)
        × ((coded_of (place_at after.places i).slot).kind ≡ (coded_of (place_at desk.places i).slot).kind)
    stays_put i p listed =
        let e = ap (λ r. place_at r.desk.places i) (accepts base_rest desk list accepted) in
        given (keeps base_rest base_rest (omega arith) (omega arith) desk (made-sound made) list (fair desk.places list accepted) i p listed)
        (λ s. (ap (λ x. x.order) e ∙ s.order, ap (λ x. x.slot.number) e ∙ s.number, ap (λ x. (coded_of x.slot).kind) e ∙ s.kind))

  -- D-17: an empty list is accepted, and ends everything
  empty-unrefused : list_refusal desk.places [] ≡ 0
  unfolding list_rows each ladder
  empty-unrefused = refl

  pub empty-accepted : (accept_of base_rest desk []).verdict ≡ verdict_accepted
  empty-accepted = ap (λ (r : Accepting). r.verdict) (accepts base_rest desk [] empty-unrefused)

  pub empty-ends : (order : ℕ) → 1 ≤ order → is_live (accept_of base_rest desk []).desk.places order ≡ false
  unfolding listed_at scan
  empty-ends order p = live-exactly [] empty-unrefused order p

-- ---- over several steps, of the accepted lists, the newest first

abbrev desk_then : List (List ℕ) → Desk
desk_then lists = desk_run base_rest base_rest lists

-- D-12, D-13: eight tables in a row go without the number of an order that ended: that of the step in which it did, and seven more
pub eight_tables : (later earlier : List (List ℕ)) (ending : List ℕ) (i j : ℕ) → Accepted-run base_rest base_rest (later ++ (ending ∷ earlier)) → length later ≤ 7
    → 1 ≤ (at (desk_then earlier) i).order → stands ending (at (desk_then earlier) i).order ≡ false
    → (at (desk_then (later ++ (ending ∷ earlier))) j).slot.number ≡ (at (desk_then earlier) i).slot.number → ⊥
eight_tables later earlier ending i j accepted few = rested base_rest base_rest (omega arith) (omega arith) later earlier ending i j accepted (omega arith)

-- P5 for every f: an order with number 1 ended in step f, and later a list comes in which one order is new
module _ (earlier : List (List ℕ)) (ending : List ℕ) (i : ℕ) (live : 1 ≤ (at (desk_then earlier) i).order) (one : (at (desk_then earlier) i).slot.number ≡ 1)
    (ended : stands ending (at (desk_then earlier) i).order ≡ false) (between : List (List ℕ)) (list : List ℕ)
    (accepted : Accepted-run base_rest base_rest (list ∷ (between ++ (ending ∷ earlier)))) where
  abbrev before : Desk
  before = desk_then (between ++ (ending ∷ earlier))

  abbrev with_it : Desk
  with_it = desk_then (list ∷ (between ++ (ending ∷ earlier)))

  -- if it comes in step f + 7, number 1 is passed over
  pub p5-passed_over : length between ≡ 6 → (k : ℕ) → (at with_it k).slot.number ≡ 1 → ⊥
  p5-passed_over seven k same =
      passed_over base_rest base_rest (omega arith) (omega arith) earlier ending i live ended between list accepted (omega arith) k (same ∙ sym one)

  -- if it comes in step f + 8 instead, and the last number given is 255, it gets 1
  pub p5-given : length between ≡ 7 → before.last ≡ 255 → (j : ℕ) → OneNotLive before.places list j
      → (k : ℕ) × ((at with_it k).order ≡ (order_at list j).number) × ((at with_it k).slot.number ≡ 1)
  p5-given eight last j new =
      let turn : number_after before.last 0 ≡ (at (desk_then earlier) i).slot.number = ap (λ n. number_after n 0) last ∙ sym one in
      given (given-again base_rest base_rest (omega arith) (omega arith) earlier ending i live ended between list accepted (omega arith) turn j new)
      (λ (l, number, order). (lowest_free (map (kept_place list) before.places), order, number ∙ one))
