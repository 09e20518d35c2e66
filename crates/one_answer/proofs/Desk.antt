-- One answer of the desk: each contract admits one (C-04).
use mathlib.Core.Path.{refl, ap}
use Rattle.kit.specs.Contracts.{OneAnswer}
use Rattle.kit.proofs.Contracts.{agree, agree-poured}
use Rattle.wire.proofs.Results.{refusal_number-apart, verdict_in-apart}
use Rattle.desk.proofs.Answers.{answer_in-apart}
use Rattle.order_list.proofs as order-list
use Rattle.order_list.specs.contracts as order-list-contracts
use Rattle.places.proofs as places
use Rattle.places.specs.contracts as places-contracts
use Rattle.orders.proofs as orders
use Rattle.orders.specs.contracts as orders-contracts
use Rattle.resting.proofs as resting
use Rattle.resting.specs.contracts as resting-contracts
use Rattle.numbers.proofs as numbers
use Rattle.numbers.specs.contracts as numbers-contracts
use Rattle.leaving.proofs as leaving
use Rattle.leaving.specs.contracts as leaving-contracts
use Rattle.arriving.proofs as arriving
use Rattle.arriving.specs.contracts as arriving-contracts
use Rattle.desk.proofs as desk
use Rattle.desk.specs.contracts as desk-contracts
use Rattle.desk_writer.proofs as desk-writer
use Rattle.desk_writer.specs.contracts as desk-writer-contracts
use Rattle.desk_output.proofs as desk-output
use Rattle.desk_output.specs.contracts as desk-output-contracts
use Rattle.desk_runs.proofs as desk-runs
use Rattle.desk_runs.specs.contracts as desk-runs-contracts

-- ---- order_list

pub order_list-order_at : OneAnswer order-list-contracts.order_at.ended order-list.order_at.Reads.Learnt
order_list-order_at κs handed answer other lasts others p q = (agree p q, refl)

pub order_list-listed_at : OneAnswer order-list-contracts.listed_at.ended order-list.listed_at.Reads.Learnt
order_list-listed_at κs handed answer other lasts others p q = (agree p q, refl)

pub order_list-numbers_of : OneAnswer order-list-contracts.numbers_of.ended order-list.numbers_of.Reads.Learnt
order_list-numbers_of κs handed answer other lasts others p q = (agree p q, refl)

pub order_list-found_at : OneAnswer order-list-contracts.found_at.ended order-list.found_at.Reads.Learnt
order_list-found_at κs handed answer other lasts others p q = (agree p q, refl)

-- ---- places

pub places-free : OneAnswer places-contracts.Place.free.ended places.Place.free.Reads.Learnt
places-free κs handed answer other lasts others p q = (agree p q, refl)

pub places-orders_of : OneAnswer places-contracts.orders_of.ended places.orders_of.Reads.Learnt
places-orders_of κs handed answer other lasts others p q = (agree p q, refl)

pub places-place_of : OneAnswer places-contracts.place_of.ended places.place_of.Reads.Learnt
places-place_of κs handed answer other lasts others p q = (agree p q, refl)

-- ---- orders

pub orders-refusal_of : OneAnswer orders-contracts.refusal_of.ended orders.refusal_of.Reads.Learnt
orders-refusal_of κs handed answer other lasts others p q = (refusal_number-apart answer other (agree p q), refl)

-- ---- resting

pub resting-none : OneAnswer resting-contracts.Ended.none.ended resting.Ended.none.Reads.Learnt
resting-none κs handed answer other lasts others p q = (agree p q, refl)

pub resting-is_resting : OneAnswer resting-contracts.AtRest.is_resting.ended resting.AtRest.is_resting.Reads.Learnt
resting-is_resting κs handed answer other lasts others p q = (agree p q, refl)

-- ---- numbers

pub numbers-next_number : OneAnswer numbers-contracts.next_number.ended numbers.next_number.Reads.Learnt
numbers-next_number κs handed answer other lasts others p q = (agree p q, refl)

-- ---- leaving

pub leaving-leave : OneAnswer leaving-contracts.leave.ended leaving.leave.Reads.Learnt
leaving-leave κs handed answer other lasts others p q = (agree p q, refl)

pub leaving-kept_places : OneAnswer leaving-contracts.kept_places.ended leaving.kept_places.Reads.Learnt
leaving-kept_places κs handed answer other lasts others p q = (agree p q, refl)

pub leaving-ended_numbers : OneAnswer leaving-contracts.ended_numbers.ended leaving.ended_numbers.Reads.Learnt
leaving-ended_numbers κs handed answer other lasts others p q = (agree p q, refl)

-- ---- arriving

pub arriving-seat_all : OneAnswer arriving-contracts.seat_all.ended arriving.seat_all.Reads.Learnt
arriving-seat_all κs handed answer other lasts others p q = (agree p q, refl)

-- ---- desk

pub desk-fresh : OneAnswer desk-contracts.Desk.fresh.ended desk.Desk.fresh.Reads.Learnt
desk-fresh κs handed answer other lasts others p q = (agree p q, refl)

pub desk-accept : OneAnswer desk-contracts.Desk.accept.ended desk.Desk.accept.Reads.Learnt
desk-accept κs handed answer other lasts others p q = (answer_in-apart answer other (agree p q), refl)

-- ---- desk_writer

pub desk_writer-table_of : OneAnswer desk-writer-contracts.table_of.ended desk-writer.table_of.Reads.Learnt
desk_writer-table_of κs handed answer other lasts others p q = (agree p q, refl)

pub desk_writer-write : OneAnswer desk-writer-contracts.write.ended desk-writer.write.Reads.Learnt
desk_writer-write κs handed answer other lasts others p q = (verdict_in-apart answer other (agree p.0 q.0), ap (λ b. (tt, (tt, (b, tt)))) (agree p.1 q.1))

-- ---- desk_output

pub desk_output-put_table : OneAnswer desk-output-contracts.put_table.ended desk-output.put_table.Reads.Learnt
desk_output-put_table κs handed answer other lasts others p q = (refl, ap (λ sheet. (tt, (sheet, tt))) (agree p q))

pub desk_output-put_refused : OneAnswer desk-output-contracts.put_refused.ended desk-output.put_refused.Reads.Learnt
desk_output-put_refused κs handed answer other lasts others p q = (refl, ap (λ sheet. (tt, (tt, (sheet, tt)))) (agree p q))

pub desk_output-put_short : OneAnswer desk-output-contracts.put_short.ended desk-output.put_short.Reads.Learnt
desk_output-put_short κs handed answer other lasts others p q = (refl, ap (λ sheet. (sheet, tt)) (agree p q))

-- ---- desk_runs

pub desk_runs-run : OneAnswer desk-runs-contracts.run.ended desk-runs.run.Reads.Learnt
desk_runs-run κs handed answer other lasts others p q =
    let tables = agree-poured p.0 q.0 in
    let lines = agree-poured p.1 q.1 in
    ((λ i. record { tables = tables.0 i; lines = lines.0 i }), (λ i. (tt, (tables.1 i, (lines.1 i, tt)))))

pub desk_runs-desk_after : OneAnswer desk-runs-contracts.desk_after.ended desk-runs.desk_after.Reads.Learnt
desk_runs-desk_after κs handed answer other lasts others p q = (agree p q, refl)
