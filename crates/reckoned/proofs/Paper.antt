-- "Reckoned by hand": every row of the table holds. The checker computes both sides from the definitions.
use mathlib.Core.Path.{◌≡◌, refl}
use Prim.Native.Nat.{ℕ}
use mathlib.Core.List.{List}
use mathlib.Core.Bool.{true}
use Rattle.kit.specs.Each.{each}
use Rattle.kit.specs.Ladder.{ladder}
use Rattle.kit.specs.Loops.{scan, fold}
use Rattle.condition.specs.Slots.{body_of, slot_rows, coded_of, six_of}
use Rattle.wire.specs.Steps.{gap_of}
use Rattle.kinds.specs.Words.{second_allowed, second_held, is_considered, is_unfitted}
use Rattle.telegram.specs.Telegrams.{read_rows, coded_at, taken_before, telegram_of, bytes_of}
use Rattle.telegram.specs.Telegrams as Telegrams'
use Rattle.order_list.specs.Lists.{order_at, listed_at}
use Rattle.places.specs.Places.{place_of}
use Rattle.orders.specs.Orders.{is_retyped, order_rows, list_rows}
use Rattle.resting.specs.Rests.{rests_by, is_resting}
use Rattle.numbers.specs.Numbers.{has_number, next_number}
use Rattle.desk.specs.Desks.{fresh_with, accept_of, table_of}
use Rattle.leaving.specs.Leaving.{kept_among, ended_entry, ended_among}
use Rattle.desk.specs.Steps.{step_of}
use Rattle.arriving.specs.Arriving.{seated, seated_all}
use Rattle.wire.specs.Verdicts.{verdict_of}
use Rattle.train_codes.specs.Codes.{brake_of}
use Rattle.train_codes.specs.Refusals.{rest_set, zero_bit_set, train_rows}
use Rattle.train_telegram.specs.Readings.{train_reading}
use Rattle.train_telegram.specs.States.{national_of, states_of}
use Rattle.signals.specs.Signals.{update_of}
use Rattle.reckoned.proofs.Sameness.{same, same_equal}
use Rattle.reckoned.proofs.Walking.{runs_seen}
use Rattle.reckoned.proofs.Wrap.{wrap_holds}
use Rattle.reckoned.specs.Reckoned.{AllHold, two_words, wire_bytes, ordering, held_first, received, p7_telegram, supported_in, showing, paper, short_rows, order_bytes, order_list, wholly_new, empty_lists, fresh_refusal, to_255, one_ended}

-- one row more
infixr 20 ◌and◌
pub ◌and◌ : {row rows : Type 0} → row → rows → row × rows
row and rows = (row, rows)

-- a row of numbers, by a test that computes
pub numbers : {defined written : List ℕ} → same defined written ≡ true → defined ≡ written
numbers {defined} {written} = same_equal defined written

-- the checker computes the rows, but for the runs of P4 and P5, which are computed in Walking.antt and Wrap.antt
short_hold : AllHold short_rows
unfolding same order_bytes order_list wholly_new empty_lists to_255 one_ended fresh_refusal each ladder scan fold body_of second_held is_considered is_unfitted gap_of order_at listed_at place_of list_rows rests_by is_resting has_number next_number fresh_with kept_among ended_entry ended_among seated seated_all step_of received p7_telegram supported_in showing update_of train_reading train_rows zero_bit_set rest_set verdict_of states_of national_of brake_of two_words wire_bytes ordering held_first accept_of table_of Telegrams'.read_of read_rows coded_at taken_before telegram_of bytes_of slot_rows coded_of six_of second_allowed is_retyped order_rows
short_hold =
    -- P1
    numbers refl and refl and numbers refl and refl
    and refl and numbers refl
    -- P2
    and refl and refl and numbers refl and numbers refl
    and refl and refl and numbers refl and numbers refl
    and refl and refl and refl and refl
    and refl and refl and refl and refl
    -- P3
    and numbers refl and numbers refl
    -- P4
    and runs_seen.0.0 and runs_seen.0.1.0
    -- P5
    and runs_seen.1.0 and runs_seen.1.1.0 and runs_seen.1.1.1.0 and runs_seen.1.1.1.1.0
    -- P6
    and numbers refl and numbers refl and numbers refl
    -- P7
    and numbers refl and refl
    -- P8
    and refl and refl
    and tt

-- C-10: one theorem for the table
pub paper-holds : AllHold paper
paper-holds = (wrap_holds, short_hold)
