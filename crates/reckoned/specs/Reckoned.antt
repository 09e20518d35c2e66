-- "Reckoned by hand": the cases of document 01 as rows of one table, each what the definitions give beside what the paper says.
use Rattle.std.specs.Prelude.{ℕ, zero, suc, ◌+◌, ◌*◌, ◌/◌, ◌%◌, true, cond, ◌≡◌, List, [], ◌∷◌, ◌++◌, map, replicate, get_or}
use Rattle.kit.specs.Each.{each}
use Rattle.wire.specs.Steps.{gap_of}
use Rattle.wire.specs.Verdicts.{number_of, verdict_of}
use Rattle.condition.specs.Slots.{empty_slot}
use Rattle.condition.specs.declared.slots.Body.{Body}
use Rattle.condition.specs.declared.slots.Body.TheVariants as Body'
use Rattle.condition.specs.declared.slots.Slot.{Slot}
use Rattle.telegram.specs.Telegrams.{Reading, blank_telegram, read_of, bytes_of}
use Rattle.telegram.specs.declared.Telegram.{Telegram}
use Rattle.places.specs.declared.Place.{Place}
use Rattle.desk.specs.Desks.{base_rest, fresh_desk, accept_of, table_of}
use Rattle.claims.specs.Calls.{desk_after, steps_made}
use Rattle.train_codes.specs.declared.Brake.{Brake}
use Rattle.train_codes.specs.declared.Brake.TheVariants.{PassengerInP, Unknown}
use Rattle.train_codes.specs.declared.Brake.TheVariants as Brake'
use Rattle.train_codes.specs.declared.Cab.{Cab}
use Rattle.train_codes.specs.declared.Cab.TheVariants.{None, A}
use Rattle.train_codes.specs.declared.Cab.TheVariants as Cab'
use Rattle.train_codes.specs.declared.Isolation.TheVariants.{Isolated, NotIsolated}
use Rattle.train_codes.specs.declared.Isolation.{Isolation}
use Rattle.signals.specs.Answers.{acceptance, Updating}
use Rattle.train_codes.specs.Codes.{is_supported}
use Rattle.train_codes.specs.declared.Traction.{Traction}
use Rattle.train_codes.specs.declared.Traction.TheVariants.{Supported, Silent}
use Rattle.signals.specs.Signals.{signals_with, fresh_signals, update_of}

-- ---- lists of orders, all of type 1

-- the ten bytes of an order with this order number
unfoldable pub order_bytes : ℕ → List ℕ
order_bytes n = 0 ∷ 0 ∷ (n / 256) ∷ (n % 256) ∷ 1 ∷ 0 ∷ 0 ∷ 0 ∷ 0 ∷ 0 ∷ []

-- a list of k orders, from this order number on
unfoldable pub order_list : ℕ → ℕ → List ℕ
order_list k n = each order_bytes n k

-- so many steps of twenty wholly new orders, the newest step first
unfoldable pub wholly_new : ℕ → List (List ℕ)
wholly_new zero = []
wholly_new (suc k) = order_list 20 (k * 20 + 1) ∷ wholly_new k

-- so many steps of one order that stays and nineteen new ones
unfoldable pub one_stays : ℕ → List (List ℕ)
one_stays zero = []
one_stays (suc k) = (order_bytes 1 ++ order_list 19 (k * 20 + 2)) ∷ one_stays k

-- so many empty lists
unfoldable pub empty_lists : ℕ → List (List ℕ)
empty_lists k = replicate k []

-- ---- what is looked at

-- a fresh desk that is handed these lists, the newest first: how many steps it has made, which is as many as there are lists where it
-- accepted each, and then the numbers of its twenty slots, 0 for an empty one
unfoldable pub step_and_numbers : List (List ℕ) → List ℕ
step_and_numbers lists = steps_made base_rest lists ∷ map (λ (p : Place). p.slot.number) (desk_after base_rest lists).places

-- k numbers from n on
unfoldable pub numbers_from : ℕ → ℕ → List ℕ
numbers_from zero n = []
numbers_from (suc k) n = n ∷ numbers_from k (n + 1)

-- one number in slot 0, and nothing else
unfoldable pub alone : ℕ → List ℕ
alone n = n ∷ replicate 19 0

-- the number under which a fresh desk refuses a list, 0 where it accepts it
unfoldable pub fresh_refusal : List ℕ → List ℕ
fresh_refusal list = number_of (accept_of base_rest fresh_desk list).verdict ∷ []

-- P5: order 1 has number 1 and stays while others use up the numbers to 255
unfoldable pub to_255 : List (List ℕ)
to_255 = (order_bytes 1 ++ order_list 7 900) ∷ one_stays 13

-- P5: in step 15 it ends; that is f
unfoldable pub one_ended : List (List ℕ)
one_ended = [] ∷ to_255

-- A-05: number 1 ends in step 2; by step 13 the last number given is 255
unfoldable pub before_the_wrap : List (List ℕ)
before_the_wrap = order_list 15 900 ∷ wholly_new 12

-- ---- one condition, on the wire and at the desk

-- the four bytes of two words
unfoldable pub two_words : ℕ → ℕ → List ℕ
two_words first second = (first / 256) ∷ (first % 256) ∷ (second / 256) ∷ (second % 256) ∷ []

-- the slot with number 1 that holds this
abbrev pub slot_with : Body → Slot
slot_with body = record { number = 1; body = body }

-- the telegram of step 1, packet 3, with one slot in its first place
abbrev pub carrying : Slot → Telegram
carrying slot = record { packet = 3; step = 1; slots = slot ∷ empty_slot ∷ empty_slot ∷ empty_slot ∷ [] }

-- and its bytes, by the type and the two words of the slot, which has number 1
unfoldable pub wire_bytes : ℕ → ℕ → ℕ → List ℕ
wire_bytes kind first second = 0x60 ∷ 1 ∷ 1 ∷ kind ∷ (two_words first second ++ replicate 18 0)

-- a list with one order of this type and these words
unfoldable pub ordering : ℕ → ℕ → ℕ → List ℕ
ordering kind first second = 0 ∷ 0 ∷ 0 ∷ 1 ∷ kind ∷ 0 ∷ two_words first second

-- what a fresh desk has in slot 0 after a list
unfoldable pub held_first : List ℕ → Slot
held_first list = get_or (table_of (accept_of base_rest fresh_desk list).desk) 0 empty_slot

-- reading is accepted with this in the first place, or refused
abbrev pub reads : Body → Reading
reads body = record { verdict = verdict_of 0; telegram = carrying (slot_with body) }

abbrev pub refuses : ℕ → Reading
refuses number = record { verdict = verdict_of number; telegram = blank_telegram }

-- ---- telegrams from the train

-- the answer to a telegram from the train, and the record after it, of a fresh record
unfoldable pub received : List ℕ → Updating
received telegram = update_of fresh_signals true telegram

-- P7: `01 02 03 80 01 7F FE 00 00 00 06` and 15 zeros
unfoldable pub p7_telegram : List ℕ
p7_telegram = 0x01 ∷ 0x02 ∷ 0x03 ∷ 0x80 ∷ 0x01 ∷ 0x7F ∷ 0xFE ∷ 0x00 ∷ 0x00 ∷ 0x00 ∷ 0x06 ∷ replicate 15 0

-- the traction systems that a state has as supported, of all 32 bits of the list
unfoldable pub supported_in : Traction → List ℕ
supported_in (Supported systems) = each (λ system. cond (is_supported systems system) (system ∷ []) []) 0 32
supported_in Silent = []

-- accepted, with these states
unfoldable pub showing : Cab → Brake → List Isolation → ℕ → Updating
showing cab brake national systems =
    record { noted = acceptance; signals = signals_with (record { cab = cab; brake = brake; national = national; traction = Supported systems }) 0 }

abbrev pub isolated_system : Isolation
isolated_system = Isolated

abbrev pub not_isolated_system : Isolation
not_isolated_system = NotIsolated

-- ---- the table

-- a row: what the definitions give, and what the paper says; of numbers, of a telegram that is read, of a slot, or of a call that
-- the record of signals answers
pub data Row : Type 0 where
  numbers_are : List ℕ → List ℕ → Row
  readings_are : Reading → Reading → Row
  slots_are : Slot → Slot → Row
  signals_are : Updating → Updating → Row

-- what the definitions give is what the paper says
abbrev pub Holds : Row → Type 0
Holds (numbers_are defined stated) = defined ≡ stated
Holds (readings_are defined stated) = defined ≡ stated
Holds (slots_are defined stated) = defined ≡ stated
Holds (signals_are defined stated) = defined ≡ stated

-- C-10: every row of a table holds
abbrev pub AllHold : List Row → Type 0
AllHold [] = Unit
AllHold (row ∷ rows) = Holds row × AllHold rows

-- P5 after the wrap (A-05): number 1 ended in step 2, and in step 8,197 it is given
abbrev pub p5_wrap : Row
p5_wrap = numbers_are (step_and_numbers (order_list 1 1000 ∷ (empty_lists 8183 ++ before_the_wrap))) (8197 ∷ alone 1)

abbrev pub short_rows : List Row
short_rows =
    -- P1: voltage 1, country 33: second word 0211h, written, read and ordered
    numbers_are (bytes_of (carrying (slot_with (Body'.Traction 0 33 1)))) (wire_bytes 4 0 0x0211)
    ∷ readings_are (read_of (wire_bytes 4 0 0x0211)) (reads (Body'.Traction 0 33 1))
    ∷ numbers_are (fresh_refusal (ordering 4 0 0x0211)) (0 ∷ [])
    ∷ slots_are (held_first (ordering 4 0 0x0211)) (slot_with (Body'.Traction 0 33 1))
    -- P1: voltage 6: refusal 6, of the telegram and of the list
    ∷ readings_are (read_of (wire_bytes 4 0 0x0216)) (refuses 6)
    ∷ numbers_are (fresh_refusal (ordering 4 0 0x0216)) (6 ∷ [])
    -- P2: limit 1000 and 1023 accepted
    ∷ readings_are (read_of (wire_bytes 5 0 1000)) (reads (Body'.Current 0 1000))
    ∷ readings_are (read_of (wire_bytes 5 0 1023)) (reads (Body'.Current 0 1023))
    ∷ numbers_are (fresh_refusal (ordering 5 0 1000)) (0 ∷ [])
    ∷ numbers_are (fresh_refusal (ordering 5 0 1023)) (0 ∷ [])
    -- P2: 1001 and 1022 refused
    ∷ readings_are (read_of (wire_bytes 5 0 1001)) (refuses 6)
    ∷ readings_are (read_of (wire_bytes 5 0 1022)) (refuses 6)
    ∷ numbers_are (fresh_refusal (ordering 5 0 1001)) (6 ∷ [])
    ∷ numbers_are (fresh_refusal (ordering 5 0 1022)) (6 ∷ [])
    -- P2: with change 8000h all accepted and held as zero, by the reader and by the desk
    ∷ readings_are (read_of (wire_bytes 5 0x8000 1000)) (reads (Body'.Current 0x8000 0))
    ∷ readings_are (read_of (wire_bytes 5 0x8000 1023)) (reads (Body'.Current 0x8000 0))
    ∷ readings_are (read_of (wire_bytes 5 0x8000 1001)) (reads (Body'.Current 0x8000 0))
    ∷ readings_are (read_of (wire_bytes 5 0x8000 1022)) (reads (Body'.Current 0x8000 0))
    ∷ slots_are (held_first (ordering 5 0x8000 1000)) (slot_with (Body'.Current 0x8000 0))
    ∷ slots_are (held_first (ordering 5 0x8000 1023)) (slot_with (Body'.Current 0x8000 0))
    ∷ slots_are (held_first (ordering 5 0x8000 1001)) (slot_with (Body'.Current 0x8000 0))
    ∷ slots_are (held_first (ordering 5 0x8000 1022)) (slot_with (Body'.Current 0x8000 0))
    -- P3: the gap from 8,190 to 3 is 5; from 0 to 8,191 it is 8,191
    ∷ numbers_are (gap_of 3 8190 ∷ []) (5 ∷ [])
    ∷ numbers_are (gap_of 8191 0 ∷ []) (8191 ∷ [])
    -- P4: twenty wholly new orders every step: step 12 gives 221 to 240, step 13 gives 241 to 255 and then 1 to 5
    ∷ numbers_are (step_and_numbers (wholly_new 12)) (12 ∷ numbers_from 20 221)
    ∷ numbers_are (step_and_numbers (wholly_new 13)) (13 ∷ (numbers_from 15 241 ++ numbers_from 5 1))
    -- P5: last given 255; number 1 ended in step f, which is 15
    ∷ numbers_are (step_and_numbers to_255) (14 ∷ 1 ∷ (numbers_from 7 249 ++ replicate 12 0))
    ∷ numbers_are (step_and_numbers one_ended) (15 ∷ replicate 20 0)
    -- P5: one new order comes. In step f + 7 number 1 is passed over; if it comes in step f + 8 instead, it gets 1
    ∷ numbers_are (step_and_numbers (order_list 1 1000 ∷ (empty_lists 6 ++ one_ended))) (22 ∷ alone 2)
    ∷ numbers_are (step_and_numbers (order_list 1 1000 ∷ (empty_lists 7 ++ one_ended))) (23 ∷ alone 1)
    -- P6: length 205: refusal 1; length 210: refusal 2; length 0: accepted
    ∷ numbers_are (fresh_refusal (replicate 205 0)) (1 ∷ [])
    ∷ numbers_are (fresh_refusal (replicate 210 0)) (2 ∷ [])
    ∷ numbers_are (fresh_refusal []) (0 ∷ [])
    -- P7: traction systems 1 and 2
    ∷ numbers_are (supported_in (received p7_telegram).signals.states.traction) (1 ∷ 2 ∷ [])
    -- P7: cab A, brake position unknown, systems 1 and 16 isolated, the rest not, and these traction systems (bits 1 and 2)
    ∷ signals_are (received p7_telegram)
    (showing A Unknown (isolated_system ∷ (replicate 14 not_isolated_system ++ (isolated_system ∷ []))) (2 + 4))
    -- P8: cab bits 11: invalid; brake position 4: invalid. The other signals have their own states.
    ∷ signals_are (received (1 ∷ 3 ∷ 0 ∷ 0 ∷ 0 ∷ 0xFF ∷ 0xFF ∷ replicate 19 0)) (showing Cab'.Invalid PassengerInP (replicate 16 not_isolated_system) 0)
    ∷ signals_are (received (1 ∷ 0 ∷ 4 ∷ 0 ∷ 0 ∷ 0xFF ∷ 0xFF ∷ replicate 19 0)) (showing None Brake'.Invalid (replicate 16 not_isolated_system) 0)
    ∷ []

-- C-10: all of them
abbrev pub paper : List Row
paper = p5_wrap ∷ short_rows
