-- Demand 1. The user's words:
--
--   "Every list, telegram, buffer and packet number gets a defined answer. Bad input is refused under the number in document 01; a
--   refused call changes no buffer, and of the states only what document 01 names."
--
-- It is said of the contracts of the functions that take a list, a telegram, a buffer or a packet number (Functions.antt): whatever such
-- a function is handed, each outcome that its contract allows is as told below. The rows are those of document 01's table, in its order:
-- `list_rows`, `write_rows`, `read_rows`, `hear_rows` and `train_rows`. proofs/Demand1.antt proves it.
use Rattle.std.specs.Prelude.{ℕ, ◌≡◌, ◌↔◌, Bool, true, false, List, length, None, Some}
use Rattle.hand.specs.Sets.{begun}
use Rattle.signals.specs.Answers.{acceptance, absence, refusal_under, noted_of}
use Rattle.signals.specs.Signals.{missed_by}
use Rattle.kit.specs.Asserted as Asserted
use Rattle.kit.specs.Contracts.{OneAnswer}
use Rattle.kit.specs.Ladder.{Decides, NoneHolds}
use Rattle.wire.specs.Verdicts.{ruled_refused, ruling_of}
use Rattle.telegram.specs.Telegrams.{read_rows, write_rows}
use Rattle.orders.specs.Orders.{list_rows}
use Rattle.listener.specs.Answers.{refused_as, told_of}
use Rattle.listener.specs.Lent.{listener_in}
use Rattle.listener.specs.Listeners.{holding, hear_rows}
use Rattle.train_codes.specs.Refusals.{train_rows}
use Rattle.desk.proofs.Desk.accept as accept
use Rattle.desk.specs.contracts.Desk.accept as accept-contract
use Rattle.desk_writer.proofs.write as write
use Rattle.desk_writer.specs.contracts.write as write-contract
use Rattle.telegram_reader.proofs.read as read
use Rattle.telegram_reader.specs.contracts.read as read-contract
use Rattle.listener.proofs.Listener.hear as hear
use Rattle.listener.specs.contracts.Listener.hear as hear-contract
use Rattle.listener.proofs.hear_in as hear-in
use Rattle.listener.specs.contracts.hear_in as hear-in-contract
use Rattle.signals.proofs.Signals.update as update
use Rattle.signals.specs.contracts.Signals.update as update-contract
use Rattle.signals.proofs.Signals.update_by as update-by
use Rattle.signals.specs.contracts.Signals.update_by as update-by-contract
use Rattle.signals_in_place.specs.contracts.update as update-lent
use Rattle.signals_in_place.specs.contracts.update_by as update-by-lent
use Rattle.claims.specs.Functions.{OfRead, OfAccept, OfWrite, OfHear, OfHearIn, OfUpdate, OfUpdateLent, OfUpdateBy, OfUpdateByLent}

-- R-23: a refusal is given when its row holds and nothing earlier does, and never else
abbrev pub RefusedBy : {Said : Type 0} → List (Bool × ℕ) → (ℕ → Said) → Said → Type 0
RefusedBy rows refused answer = (number : ℕ) → (answer ≡ refused number) ↔ Decides rows number

-- ---- "Every list": `Desk::accept(desk, list)`

pub record Lists : Type 0 where
  -- M-1a: there is one answer and one next desk
  pub defined : OneAnswer accept-contract.ended accept.Reads.Learnt
  -- M-1d, R-01 to R-08, R-18: a list is refused under the number of document 01
  pub refused : OfAccept (λ desk list answer. RefusedBy (list_rows desk.places list) ruled_refused (ruling_of answer.verdict))
  -- M-1f, D-18, R-24: a refused list changes nothing of the desk
  pub unchanged : OfAccept (λ desk list answer. (number : ℕ) → ruling_of answer.verdict ≡ ruled_refused number → answer.desk ≡ desk)

-- ---- "telegram": `telegram_reader::read(bytes)`, and `Listener::hear(listener, telegram)`

pub record Telegrams : Type 0 where
  -- M-1b, M-1d, R-06, R-10 to R-14, R-20: reading
  pub read_defined : OneAnswer read-contract.ended read.Reads.Learnt
  pub read_refused : OfRead (λ bytes reading. RefusedBy (read_rows bytes) ruled_refused (ruling_of reading.verdict))
  -- M-1b, M-1d, R-06, R-10 to R-15, R-20, R-21: hearing
  pub defined : OneAnswer hear-contract.ended hear.Reads.Learnt
  pub refused : OfHear (λ listener telegram heard. RefusedBy (hear_rows listener telegram) refused_as (told_of heard.answer))
  -- M-1f, L-10, L-11, R-24: 15 drops the set in hand, and no other refusal changes the listener
  pub dropped : OfHear (λ listener telegram heard. told_of heard.answer ≡ refused_as 15 → heard.listener ≡ holding listener (begun 0))
  pub unchanged : OfHear (λ listener telegram heard. (number : ℕ) → (number ≡ 15 → ⊥) → told_of heard.answer ≡ refused_as number → heard.listener ≡ listener)

-- W-04: the same where the listener stands in memory that is lent, `listener::hear_in(memory, telegram)`: `listener_in` is the listener that
-- the memory means
pub record TelegramsLent : Type 0 where
  pub defined : OneAnswer hear-in-contract.ended hear-in.Reads.Learnt
  pub refused : OfHearIn (λ memory telegram answer after. RefusedBy (hear_rows (listener_in memory) telegram) refused_as (told_of answer))
  -- M-1f, L-10: 15 drops the set in hand
  pub dropped : OfHearIn (λ memory telegram answer after. told_of answer ≡ refused_as 15 → listener_in after ≡ holding (listener_in memory) (begun 0))
  -- M-1f, L-11, R-24: no other refusal changes the listener, nor any byte of its memory
  pub unchanged : OfHearIn (λ memory telegram answer after. (number : ℕ) → (number ≡ 15 → ⊥) → told_of answer ≡ refused_as number → after ≡ memory)

-- ---- and those from the train: `Signals::update(signals, present, telegram)`

pub record TrainTelegrams : Type 0 where
  -- M-1b: there is one answer and one next record
  pub defined : OneAnswer update-contract.ended update.Reads.Learnt
  -- M-1d, R-10, R-16, R-17, R-22: a telegram is refused under the number of document 01
  pub refused : OfUpdate (λ signals present telegram updated. present ≡ true → RefusedBy (train_rows telegram) refusal_under (noted_of updated.answer))
  -- R-23, C-07: and it is accepted when no row holds, and never else, so that no reader may miss a good one
  pub accepted_when : OfUpdate (λ signals present telegram updated. present ≡ true → (noted_of updated.answer ≡ acceptance) ↔ NoneHolds (train_rows telegram))
  -- S-13, S-14: a call with none is a miss, and is not refused
  pub absent : OfUpdate (λ signals present telegram updated. present ≡ false → (noted_of updated.answer ≡ absence) × (updated.signals ≡ missed_by signals))
  -- M-1f, S-13, S-20, R-24: a refused one is a miss, and changes nothing else
  pub missed : OfUpdate (λ signals present telegram updated. (number : ℕ) → noted_of updated.answer ≡ refusal_under number → updated.signals ≡ missed_by signals)

-- S-01: the same where the record is: `signals_in_place::update(held, present, telegram)`
pub record TrainTelegramsLent : Type 2 where
  pub defined : Asserted.OneAnswerLent update-lent.ended (λ M 𝓤 𝓛. update-lent.clauses 𝓛)
  pub refused : OfUpdateLent (λ signals present telegram answer after. present ≡ true → RefusedBy (train_rows telegram) refusal_under (noted_of answer))
  pub accepted_when : OfUpdateLent (λ signals present telegram answer after. present ≡ true → (noted_of answer ≡ acceptance) ↔ NoneHolds (train_rows telegram))
  pub absent : OfUpdateLent (λ signals present telegram answer after. present ≡ false → (noted_of answer ≡ absence) × (after ≡ missed_by signals))
  pub missed : OfUpdateLent (λ signals present telegram answer after. (number : ℕ) → noted_of answer ≡ refusal_under number → after ≡ missed_by signals)

-- the same of a call that is handed a telegram or none, which is what programs and other languages go through:
-- `Signals::update_by(signals, call)`
pub record TrainTelegramsBy : Type 0 where
  -- M-1b: there is one answer and one next record
  pub defined : OneAnswer update-by-contract.ended update-by.Reads.Learnt
  -- M-1d, R-10, R-16, R-17, R-22: a telegram is refused under the number of document 01
  pub refused : OfUpdateBy (λ signals call updated. (telegram : List ℕ) → call ≡ Some telegram → RefusedBy (train_rows telegram) refusal_under (noted_of updated.answer))
  -- R-23, C-07: and it is accepted when no row holds, and never else
  pub accepted_when : OfUpdateBy (λ signals call updated. (telegram : List ℕ) → call ≡ Some telegram → (noted_of updated.answer ≡ acceptance) ↔ NoneHolds (train_rows telegram))
  -- S-13, S-14: a call with none is a miss, and is not refused
  pub absent : OfUpdateBy (λ signals call updated. call ≡ None → (noted_of updated.answer ≡ absence) × (updated.signals ≡ missed_by signals))
  -- M-1f, S-13, S-20, R-24: a refused one is a miss, and changes nothing else
  pub missed : OfUpdateBy (λ signals call updated. (number : ℕ) → noted_of updated.answer ≡ refusal_under number → updated.signals ≡ missed_by signals)

-- S-01: and where the record is: `signals_in_place::update_by(held, call)`
pub record TrainTelegramsByLent : Type 2 where
  pub defined : Asserted.OneAnswerLent update-by-lent.ended (λ M 𝓤 𝓛. update-by-lent.clauses 𝓛)
  pub refused : OfUpdateByLent (λ signals call answer after. (telegram : List ℕ) → call ≡ Some telegram → RefusedBy (train_rows telegram) refusal_under (noted_of answer))
  pub accepted_when : OfUpdateByLent (λ signals call answer after. (telegram : List ℕ) → call ≡ Some telegram → (noted_of answer ≡ acceptance) ↔ NoneHolds (train_rows telegram))
  pub absent : OfUpdateByLent (λ signals call answer after. call ≡ None → (noted_of answer ≡ absence) × (after ≡ missed_by signals))
  pub missed : OfUpdateByLent (λ signals call answer after. (number : ℕ) → noted_of answer ≡ refusal_under number → after ≡ missed_by signals)

-- ---- "buffer and packet number": `desk_writer::write(desk, packet, buffer)`

pub record Buffers : Type 0 where
  -- M-1c: there is one verdict, and one last value of the buffer
  pub defined : OneAnswer write-contract.ended write.Reads.Learnt
  -- M-1d, R-09, R-10, R-19: it is refused under the number of document 01
  pub refused : OfWrite (λ desk packet buffer verdict after. RefusedBy (write_rows packet (length buffer)) ruled_refused (ruling_of verdict))
  -- M-1e, R-25: a refused call changes no byte
  pub unchanged : OfWrite (λ desk packet buffer verdict after. (number : ℕ) → ruling_of verdict ≡ ruled_refused number → after ≡ buffer)

-- ---- the demand

pub record Demand1 : Type 2 where
  pub lists : Lists
  pub telegrams : Telegrams
  pub telegrams_lent : TelegramsLent
  pub train : TrainTelegrams
  pub train_lent : TrainTelegramsLent
  pub train_by : TrainTelegramsBy
  pub train_by_lent : TrainTelegramsByLent
  pub buffers : Buffers
