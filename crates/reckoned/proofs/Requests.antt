-- Document 02: every row holds, computed by the checker from the definitions; and what is listed of a line that is not fitted.
use mathlib.Core.Path.{◌≡◌, refl, subst}
use lib.Dec.{eqb}
use Rattle.kit.specs.Each.{each}
use Rattle.kit.specs.Ladder.{ladder}
use Rattle.kit.specs.Loops.{scan, fold}
use Rattle.kit.proofs.Cases.{on}
use Rattle.wire.specs.Distances.{no_value}
use Rattle.wire.specs.Verdicts.{verdict_of}
use Rattle.kinds.specs.Words.{second_allowed, second_held, is_considered, is_unfitted}
use Rattle.condition.specs.Slots.{body_of, slot_rows, coded_of, six_of, HeldBody}
use Rattle.condition.specs.declared.slots.Body.TheVariants as Body'
use Rattle.telegram.specs.Tables.{table_slot}
use Rattle.telegram.specs.Telegrams.{read_of, read_rows, coded_at, taken_before, telegram_of, bytes_of}
use Rattle.order_list.specs.Lists.{order_at, listed_at}
use Rattle.places.specs.Places.{place_of}
use Rattle.orders.specs.Orders.{is_retyped, order_rows, list_rows}
use Rattle.resting.specs.Rests.{rests_by, is_resting}
use Rattle.numbers.specs.Numbers.{has_number, next_number}
use Rattle.desk.specs.Desks.{fresh_with, accept_of, table_of}
use Rattle.leaving.specs.Leaving.{kept_among, ended_entry, ended_among}
use Rattle.desk.specs.Steps.{step_of}
use Rattle.arriving.specs.Arriving.{seated, seated_all}
use Rattle.text.specs.Decimals.{digits, decimal}
use Rattle.listener.specs.Listeners.{carries, heard_all}
use Rattle.listener.proofs.Valid.{picture-valid}
use Rattle.listing_seconds.specs.Seconds.{system_word}
use Rattle.reckoned.specs.Reckoned.{AllHold, two_words, wire_bytes, ordering, held_first, fresh_refusal}
use Rattle.reckoned.specs.Requests.{rewritten, voltage_zero, UnfittedListed}
use Rattle.reckoned.proofs.Paper.{◌and◌, numbers}
use Rattle.reckoned.proofs.Sameness.{same}

-- CR 1
pub voltage_zero-holds : AllHold voltage_zero
unfolding same each ladder scan fold body_of second_held is_considered is_unfitted second_allowed order_at listed_at place_of is_retyped order_rows list_rows rests_by is_resting has_number next_number fresh_with kept_among ended_entry ended_among seated seated_all step_of accept_of table_of verdict_of two_words wire_bytes ordering held_first fresh_refusal rewritten read_of read_rows coded_at taken_before telegram_of bytes_of slot_rows coded_of six_of
voltage_zero-holds =
    refl and refl and numbers refl and refl and refl
    and refl and refl and numbers refl and numbers refl
    and refl and refl
    and numbers refl and numbers refl and numbers refl and numbers refl
    and tt

pub unfitted-listed : UnfittedListed
unfolding system_word digits decimal
unfitted-listed telegrams i change country same =
    let held : HeldBody (table_slot (heard_all carries telegrams).picture i).number (Body'.Traction change country 0) = subst (HeldBody (table_slot (heard_all carries telegrams).picture i).number) same (picture-valid carries telegrams i) in
    let none : country ≡ 0 = held.4 refl in
    on (eqb change no_value) (λ e. rw e refl) (λ e. rw (e, none) refl)
