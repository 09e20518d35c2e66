-- One answer of the signals from the train: each contract admits one (C-04).
use mathlib.Core.Path.{refl, ap}
use Rattle.kit.proofs.Cases.{given}
use Rattle.kit.specs.Contracts.{OneAnswer}
use Rattle.kit.specs.Asserted as Asserted
use Rattle.kit.proofs.Contracts.{agree, agree-poured, both_facts}
use Rattle.claims.proofs.Demand1.{demand1}
use Rattle.train_codes.proofs as train-codes
use Rattle.train_codes.specs.contracts as train-codes-contracts
use Rattle.wire.proofs.Results.{refusal_number-apart}
use Rattle.train_telegram.proofs.Refusals.{train_reading_in-apart}
use Rattle.train_telegram.proofs as train-telegram
use Rattle.train_telegram.specs.contracts as train-telegram-contracts
use Rattle.signals.proofs as signals
use Rattle.signals.specs.contracts as signals-contracts
use Rattle.signals.proofs.Answers.{noted-apart, updating_apart}
use Rattle.signals_in_place.proofs as signals-in-place
use Rattle.signals_in_place.specs.contracts as signals-in-place-contracts
use Rattle.signals_output.proofs as signals-output
use Rattle.signals_output.specs.contracts as signals-output-contracts
use Rattle.signal_runs.proofs as signal-runs
use Rattle.signal_runs.specs.contracts as signal-runs-contracts

-- ---- train_codes

pub train_codes-cab_of : OneAnswer train-codes-contracts.cab_of.ended train-codes.cab_of.Reads.Learnt
train_codes-cab_of κs handed answer other lasts others p q = (agree p q, refl)

pub train_codes-brake_of : OneAnswer train-codes-contracts.brake_of.ended train-codes.brake_of.Reads.Learnt
train_codes-brake_of κs handed answer other lasts others p q = (agree p q, refl)

pub train_codes-isolation_of : OneAnswer train-codes-contracts.isolation_of.ended train-codes.isolation_of.Reads.Learnt
train_codes-isolation_of κs handed answer other lasts others p q = (agree p q, refl)

pub train_codes-refusal_of : OneAnswer train-codes-contracts.refusal_of.ended train-codes.refusal_of.Reads.Learnt
train_codes-refusal_of κs handed answer other lasts others p q = (refusal_number-apart answer other (agree p q), refl)

-- ---- train_telegram

pub train_telegram-read : OneAnswer train-telegram-contracts.read.ended train-telegram.read.Reads.Learnt
train_telegram-read κs handed answer other lasts others p q = (train_reading_in-apart answer other (agree p q), refl)

pub train_telegram-silent : OneAnswer train-telegram-contracts.states.States.silent.ended train-telegram.states.States.silent.Reads.Learnt
train_telegram-silent κs handed answer other lasts others p q = (agree p q, refl)

-- ---- signals

pub signals-fresh : OneAnswer signals-contracts.Signals.fresh.ended signals.Signals.fresh.Reads.Learnt
signals-fresh κs handed answer other lasts others p q = (agree p q, refl)

pub signals-update : OneAnswer signals-contracts.Signals.update.ended signals.Signals.update.Reads.Learnt
signals-update κs handed answer other lasts others p q = (updating_apart answer other (agree p q), refl)

pub signals-update_by : OneAnswer signals-contracts.Signals.update_by.ended signals.Signals.update_by.Reads.Learnt
signals-update_by κs handed answer other lasts others p q = (updating_apart answer other (agree p q), refl)

-- ---- signals_in_place

pub signals_in_place-update : Asserted.OneAnswerLent signals-in-place-contracts.update.ended (λ M 𝓤 𝓛. signals-in-place-contracts.update.clauses 𝓛)
signals_in_place-update = demand1.train_lent.defined

-- and so does what a caller learns of it, in plain facts
pub signals_in_place-update_learnt : OneAnswer signals-in-place-contracts.update.ended signals-in-place.update.Reads.Learnt
signals_in_place-update_learnt κs handed answer other lasts others p q =
    (noted-apart answer other (agree p.0 q.0), ap (λ after. (after, (tt, (tt, tt)))) (agree p.1 q.1))

-- the same of a call with a telegram or with none
pub signals_in_place-update_by : Asserted.OneAnswerLent signals-in-place-contracts.update_by.ended (λ M 𝓤 𝓛. signals-in-place-contracts.update_by.clauses 𝓛)
signals_in_place-update_by M 𝓤 𝓛 mem run κs handed ghost answer other lasts others =
    both_facts 𝓤 _ _ _ (λ p q. (noted-apart answer other (agree p.0 q.0), ap (λ after. (after, (tt, tt))) (agree p.1 q.1)))

pub signals_in_place-update_by_learnt : OneAnswer signals-in-place-contracts.update_by.ended signals-in-place.update_by.Reads.Learnt
signals_in_place-update_by_learnt κs handed answer other lasts others p q =
    (noted-apart answer other (agree p.0 q.0), ap (λ after. (after, (tt, tt))) (agree p.1 q.1))

pub signals_in_place-lend_and_update : OneAnswer signals-in-place-contracts.lend_and_update.ended signals-in-place.lend_and_update.Reads.Learnt
signals_in_place-lend_and_update κs handed answer other lasts others p q = (updating_apart answer other (agree p q), refl)

pub signals_in_place-lend_and_update_by : OneAnswer signals-in-place-contracts.lend_and_update_by.ended signals-in-place.lend_and_update_by.Reads.Learnt
signals_in_place-lend_and_update_by κs handed answer other lasts others p q = (updating_apart answer other (agree p q), refl)

-- ---- signals_output

pub signals_output-put_line : OneAnswer signals-output-contracts.put_line.ended signals-output.put_line.Reads.Learnt
signals_output-put_line κs handed answer other lasts others p q = (refl, ap (λ s. (tt, (s, tt))) (agree p q))

pub signals_output-put_short : OneAnswer signals-output-contracts.put_short.ended signals-output.put_short.Reads.Learnt
signals_output-put_short κs handed answer other lasts others p q = (refl, ap (λ s. (s, tt)) (agree p q))

-- ---- signal_runs

pub signal_runs-read : OneAnswer signal-runs-contracts.read.ended signal-runs.read.Reads.Learnt
signal_runs-read κs handed answer other lasts others p q = given (agree-poured p q) (λ (place, bytes). (place, ap (λ b. (tt, (b, tt))) bytes))
