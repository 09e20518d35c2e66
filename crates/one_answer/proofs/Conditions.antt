-- One answer of conditions and telegrams: each contract admits one (C-04).
use mathlib.Core.Path.{refl, ap}
use Rattle.kit.specs.Contracts.{OneAnswer}
use Rattle.kit.proofs.Contracts.{agree}
use Rattle.wire.proofs.Results.{refusal_number-apart, verdict_in-apart}
use Rattle.telegram.proofs.Readings.{reading_in-apart}
use Rattle.kinds.proofs as kinds
use Rattle.kinds.specs.contracts as kinds-contracts
use Rattle.condition.proofs as condition
use Rattle.condition.specs.contracts as condition-contracts
use Rattle.telegram.proofs as telegram
use Rattle.telegram.specs.contracts as telegram-contracts
use Rattle.telegram_reader.proofs as telegram-reader
use Rattle.telegram_reader.specs.contracts as telegram-reader-contracts
use Rattle.telegram_writer.proofs as telegram-writer
use Rattle.telegram_writer.specs.contracts as telegram-writer-contracts

-- ---- kinds

pub kinds-is_kind : OneAnswer kinds-contracts.is_kind.ended kinds.is_kind.Reads.Learnt
kinds-is_kind κs handed answer other lasts others p q = (agree p q, refl)

pub kinds-second_allowed : OneAnswer kinds-contracts.second_allowed.ended kinds.second_allowed.Reads.Learnt
kinds-second_allowed κs handed answer other lasts others p q = (agree p q, refl)

pub kinds-second_held : OneAnswer kinds-contracts.second_held.ended kinds.second_held.Reads.Learnt
kinds-second_held κs handed answer other lasts others p q = (agree p q, refl)

-- ---- condition

pub condition-empty : OneAnswer condition-contracts.slots.Slot.empty.ended condition.slots.Slot.empty.Reads.Learnt
condition-empty κs handed answer other lasts others p q = (agree p q, refl)

pub condition-is_occupied : OneAnswer condition-contracts.slots.Slot.is_occupied.ended condition.slots.Slot.is_occupied.Reads.Learnt
condition-is_occupied κs handed answer other lasts others p q = (agree p q, refl)

pub condition-body_of : OneAnswer condition-contracts.body_of.ended condition.body_of.Reads.Learnt
condition-body_of κs handed answer other lasts others p q = (agree p q, refl)

pub condition-refusal_of : OneAnswer condition-contracts.refusal_of.ended condition.refusal_of.Reads.Learnt
condition-refusal_of κs handed answer other lasts others p q = (refusal_number-apart answer other (agree p q), refl)

pub condition-coded_of : OneAnswer condition-contracts.coded_of.ended condition.coded_of.Reads.Learnt
condition-coded_of κs handed answer other lasts others p q = (agree p q, refl)

-- ---- telegram

pub telegram-packet_in : OneAnswer telegram-contracts.packet_in.ended telegram.packet_in.Reads.Learnt
telegram-packet_in κs handed answer other lasts others p q = (agree p.0 q.0, refl)

pub telegram-step_in : OneAnswer telegram-contracts.step_in.ended telegram.step_in.Reads.Learnt
telegram-step_in κs handed answer other lasts others p q = (agree p q, refl)

pub telegram-slot_in : OneAnswer telegram-contracts.slot_in.ended telegram.slot_in.Reads.Learnt
telegram-slot_in κs handed answer other lasts others p q = (agree p q, refl)

pub telegram-first_slot : OneAnswer telegram-contracts.first_slot.ended telegram.first_slot.Reads.Learnt
telegram-first_slot κs handed answer other lasts others p q = (agree p q, refl)

pub telegram-four_of : OneAnswer telegram-contracts.four_of.ended telegram.four_of.Reads.Learnt
telegram-four_of κs handed answer other lasts others p q = (agree p q, refl)

-- ---- telegram_reader

pub telegram_reader-refusal_of : OneAnswer telegram-reader-contracts.refusal_of.ended telegram-reader.refusal_of.Reads.Learnt
telegram_reader-refusal_of κs handed answer other lasts others p q = (refusal_number-apart answer other (agree p q), refl)

pub telegram_reader-place_slot : OneAnswer telegram-reader-contracts.place_slot.ended telegram-reader.place_slot.Reads.Learnt
telegram_reader-place_slot κs handed answer other lasts others p q = (agree p q, refl)

pub telegram_reader-read : OneAnswer telegram-reader-contracts.read.ended telegram-reader.read.Reads.Learnt
telegram_reader-read κs handed answer other lasts others p q = (reading_in-apart answer other (agree p q), refl)

-- ---- telegram_writer

pub telegram_writer-write : OneAnswer telegram-writer-contracts.write.ended telegram-writer.write.Reads.Learnt
telegram_writer-write κs handed answer other lasts others p q = (verdict_in-apart answer other (agree p.0 q.0), ap (λ b. (tt, (b, tt))) (agree p.1 q.1))
