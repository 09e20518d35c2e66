-- Demand 3 at its edges, computed from the definitions on bytes, from a fresh desk and a fresh listener on.
--
-- Within the bound: one order stands, and whole tables are heard at the steps 1, 9, 18 and 8,209. The gaps are 8, 9 and 8,191; the
-- condition is carried over 8, and new over 9 (H-9) and over 8,191. The premises of demand 3 hold of it all (`within`).
--
-- Beyond the bound, by one step and by two: a table is not taken, a condition is called carried over 8,193 steps, and a picture is
-- shown that never was. This is what the bound is for.
use Prim.Native.Nat.{ℕ}
use mathlib.Core.Path.{◌≡◌, refl, ap, ap₂, ◌∙◌}
use mathlib.Core.Bool.{Bool, true, false}
use mathlib.Core.List.{List, [], ◌∷◌, map}
use lib.ListN.{replicate}
use native.Mathlib.Omega.{arith}
use Rattle.kit.specs.Each.{each}
use Rattle.kit.specs.Ladder.{ladder}
use Rattle.kit.specs.Loops.{scan, fold, how_many}
use Rattle.condition.specs.Slots.{body_of, coded_of, slot_rows, six_of}
use Rattle.wire.specs.Steps.{gap_of}
use Rattle.wire.specs.Verdicts.{verdict_of}
use Rattle.kinds.specs.Words.{is_considered, second_allowed, second_held}
use Rattle.telegram.specs.Tables.{four_of}
use Rattle.telegram.specs.Telegrams.{read_of, read_rows, coded_at, taken_before, telegram_of, bytes_of}
use Rattle.desk.specs.Desks.{base_rest, table_of, packet_of as deskTelegram}
use Rattle.picture.specs.Pictures.{count_of, bears_number, is_twice, clashes}
use Rattle.marks.specs.Marks.{is_same, is_known, is_carried, marks_of}
use Rattle.listener.specs.Listeners.{carries, heard_all, fresh_listener, taken_by, heard_of, hear_of}
use Rattle.hand.specs.Sets.{begun, set_for, is_held, joined, is_whole}
use Rattle.listener.specs.Answers.{Told, as_repeat, as_held, taken_as}
use Rattle.claims.specs.Calls.{table_in}
use Rattle.claims.specs.Demand3.{vehicle, LostOrRepeated}
use Rattle.claims.specs.Hearings.{Item, sent, wholes}
use Rattle.claims.specs.Regular.{five_of, wholly}
use Rattle.claims.proofs.Demand3.{demand3}
use Rattle.reckoned.specs.Standing.{standing_lists, then_five, answers}
use Rattle.reckoned.proofs.Standing.{Within, said, stood, fived, wire, answering, wires, five_wires, same-listener, same-answers, said-wires, standing-made, desk-five, desk-before-five}

-- a table taken with its fifth packet, after others
abbrev taken : ℕ → ℕ → ℕ → List Told → List Told
taken step conditions gap earlier = taken_as step conditions gap ∷ as_held ∷ as_held ∷ as_held ∷ as_held ∷ earlier

abbrev heard : List ℕ → List (Item (List ℕ))
heard steps = wholly (List ℕ) steps

-- a run of a standing list, by its bytes
module _ (k : ℕ) (at : List ℕ) (inside : Within k at) where
  answers_at : answers (standing_lists k) (heard at) ≡ answering (wires at)
  answers_at = same-answers (standing_lists k) (heard at) ∙ ap answering (said-wires k at inside)

  marks-at : (vehicle (standing_lists k) (heard at)).marks ≡ (heard_all carries (wires at)).marks
  marks-at = ap (λ l. l.marks) (same-listener (standing_lists k) (heard at) ∙ ap (heard_all carries) (said-wires k at inside))

-- ---- what the checker computes, of the bytes

abbrev pub one_marked : List Bool
one_marked = true ∷ replicate 19 false

abbrev pub none_marked : List Bool
none_marked = replicate 20 false

computed : (answering (wires (8209 ∷ 18 ∷ 9 ∷ 1 ∷ [])) ≡ taken 17 1 8191 (taken 18 1 9 (taken 9 1 8 (taken 1 1 0 []))))
    × ((heard_all carries (wires (9 ∷ 1 ∷ []))).marks ≡ one_marked)
    × ((heard_all carries (wires (18 ∷ 9 ∷ 1 ∷ []))).marks ≡ none_marked)
    × ((heard_all carries (wires (8209 ∷ 18 ∷ 9 ∷ 1 ∷ []))).marks ≡ none_marked)
    × (answering (wires (8194 ∷ 1 ∷ [])) ≡ taken 2 1 1 (taken 1 1 0 []))
    × ((heard_all carries (wires (8194 ∷ 1 ∷ []))).marks ≡ one_marked)
    × (answering (five_wires (fived 1) (wires (1 ∷ []))) ≡ as_repeat ∷ as_repeat ∷ as_repeat ∷ as_repeat ∷ as_repeat ∷ taken 1 1 0 [])
    × (answering (five_wires (fived 1) (wire (stood 1) 3 ∷ [])) ≡ taken_as 1 2 0 ∷ as_held ∷ as_held ∷ as_held ∷ as_repeat ∷ as_held ∷ [])
unfolding answering heard_all wires hear_of heard_of ladder set_for begun is_held joined is_whole how_many fold taken_by marks_of is_carried is_known is_same scan clashes is_twice bears_number count_of fresh_listener read_of verdict_of read_rows each coded_at taken_before slot_rows second_allowed second_held is_considered telegram_of body_of bytes_of six_of coded_of four_of table_of deskTelegram gap_of
computed = (refl, refl, refl, refl, refl, refl, refl, refl)

-- ---- within the bound

pub within : LostOrRepeated (standing_lists 8209) (heard (8209 ∷ 18 ∷ 9 ∷ 1 ∷ [])) × (wholes (heard (8209 ∷ 18 ∷ 9 ∷ 1 ∷ [])) ≡ 8209 ∷ 18 ∷ 9 ∷ 1 ∷ [])
within =
    demand3.met (standing_lists 8209) 8209 (18 ∷ 9 ∷ 1 ∷ [])
    (rw (standing-made 8209) (omega arith, omega arith, omega arith, (omega arith, omega arith, omega arith, (omega arith, omega arith, omega arith, omega arith))))

-- the answers: the gaps are the true distances, 0 for the first; step 8,209 has step number 17
pub gaps : answers (standing_lists 8209) (heard (8209 ∷ 18 ∷ 9 ∷ 1 ∷ [])) ≡ taken 17 1 8191 (taken 18 1 9 (taken 9 1 8 (taken 1 1 0 [])))
gaps = answers_at 8209 (8209 ∷ 18 ∷ 9 ∷ 1 ∷ []) (omega arith) ∙ computed.0

-- the marks, slot 0 being the condition's: carried over 8, new over 9 and over 8,191
pub carried_over_8 : (vehicle (standing_lists 8209) (heard (9 ∷ 1 ∷ []))).marks ≡ one_marked
carried_over_8 = marks-at 8209 (9 ∷ 1 ∷ []) (omega arith) ∙ computed.1

pub new_over_9 : (vehicle (standing_lists 8209) (heard (18 ∷ 9 ∷ 1 ∷ []))).marks ≡ none_marked
new_over_9 = marks-at 8209 (18 ∷ 9 ∷ 1 ∷ []) (omega arith) ∙ computed.2

pub new_over_8191 : (vehicle (standing_lists 8209) (heard (8209 ∷ 18 ∷ 9 ∷ 1 ∷ []))).marks ≡ none_marked
new_over_8191 = marks-at 8209 (8209 ∷ 18 ∷ 9 ∷ 1 ∷ []) (omega arith) ∙ computed.3

-- ---- beyond the bound

-- 8,193 steps from one whole table to the next: the gap shows 1, and the condition is called carried
pub gap-not-true : (answers (standing_lists 8194) (heard (8194 ∷ 1 ∷ [])) ≡ taken 2 1 1 (taken 1 1 0 [])) × ((vehicle (standing_lists 8194) (heard (8194 ∷ 1 ∷ []))).marks ≡ one_marked)
gap-not-true = (
  answers_at 8194 (8194 ∷ 1 ∷ []) (omega arith) ∙ computed.4,
  marks-at 8194 (8194 ∷ 1 ∷ []) (omega arith) ∙ computed.5,
)

-- the bytes of two runs in which a list of five comes in step 8,193
said-missed : map (said (then_five 8192)) (heard (8193 ∷ 1 ∷ [])) ≡ five_wires (fived 1) (wires (1 ∷ []))
unfolding wholly wires
said-missed = ap₂ (λ new old. five_wires new (five_wires old [])) (desk-five 8191) (desk-before-five 8191 1 (omega arith) (omega arith))

said_stale : map (said (then_five 8192)) (five_of 8193 (sent 1 3 ∷ [])) ≡ five_wires (fived 1) (wire (stood 1) 3 ∷ [])
said_stale = ap₂ (λ new old. five_wires new (wire old 3 ∷ [])) (desk-five 8191) (desk-before-five 8191 1 (omega arith) (omega arith))

-- 8,192 steps from the last whole table: the five telegrams of step 8,193 are taken for repeats of step 1, and its table is not taken
pub table-missed : answers (then_five 8192) (heard (8193 ∷ 1 ∷ [])) ≡ as_repeat ∷ as_repeat ∷ as_repeat ∷ as_repeat ∷ as_repeat ∷ taken 1 1 0 []
table-missed = same-answers (then_five 8192) (heard (8193 ∷ 1 ∷ [])) ∙ (ap answering said-missed ∙ computed.6)

-- 8,192 steps from the first telegram, packet 3 of step 1: that packet is kept as one of step 8,193, whose own packet 3 is called a
-- repeat. The table taken has two conditions, and that of step 8,193 has five: a picture that never was
pub table_mixed : (answers (then_five 8192) (five_of 8193 (sent 1 3 ∷ [])) ≡ taken_as 1 2 0 ∷ as_held ∷ as_held ∷ as_held ∷ as_repeat ∷ as_held ∷ []) × (count_of (table_in base_rest (then_five 8192) 8193) ≡ 5)
unfolding count_of how_many fold table_of
table_mixed = (
  same-answers (then_five 8192) (five_of 8193 (sent 1 3 ∷ [])) ∙ (ap answering said_stale ∙ computed.7),
  ap (λ desk. count_of (table_of desk)) (desk-five 8191),
)
