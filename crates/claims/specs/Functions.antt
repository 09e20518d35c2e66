-- The public functions that the demands speak of. Each line here says of a function: whatever it is handed, each outcome that its
-- contract allows is such. An outcome is the answer and, of what is lent to be changed, the last value. A slice that is lent stands
-- here as its bytes, one that may be changed as its bytes before and after.
--
-- One of them spelt out. The contract of `telegram_reader::read(bytes)` says that the reading, as its answer says it (`reading_in`), is
-- `read_of bytes`. So `OfRead Such` says: for all bytes, however many, and for every answer whose reading is equal to `read_of bytes`,
-- `Such bytes reading`. That is
--
--   (bytes : List ℕ) → Such bytes (read_of bytes)
--
-- and proofs/Functions.antt `read-says` proves that the one is so exactly when the other is. Demand 1 takes it with "the reading's verdict
-- is a refusal under this number exactly when the row of this number holds and no earlier one does".
--
-- Spelt out with a buffer. `OfWrite Such` of `desk_writer::write(desk, packet, buffer)` says: for every desk, packet number and buffer, of
-- the verdict that the contract gives and of what it says is in the buffer afterwards, `Such desk packet buffer verdict after`
-- (`write-says`). So it is for each line below, with the theorem of its name there. Of a lent record, `update-lent-says` and
-- `update_by-lent-says` prove that the plain sentence is enough for the promise; that the promise says no less is for readers of
-- kit/specs/Asserted.antt.
--
-- The right sides need no reading for that. They pick, out of what the checker has of a function, what `Such` is about: `ended` is what
-- the function is handed and what it gives, `Learnt` its contract, `κs` for how long each thing is lent, `lasts` the last values.
use Rattle.telegram.specs.Telegrams.{Reading, reading_in}
use Rattle.std.specs.Prelude.{ℕ, Bool, true, false, List, [], Option, None, Some, option_copied}
use Rattle.kit.specs.Asserted as Asserted
use Rattle.kit.specs.Contracts.{Promised}
use Rattle.wire.specs.declared.distances.Distance.{Distance}
use Rattle.wire.specs.Verdicts.{Verdict, verdict_in}
use Rattle.condition.specs.declared.slots.Slot.{Slot}
use Rattle.telegram.specs.declared.Telegram.{Telegram}
use Rattle.desk.specs.Desks.{Accepting, answer_in}
use Rattle.desk.specs.declared.Desk.{Desk}
use Rattle.listener.specs.declared.Answer as Vehicle
use Rattle.listener.specs.declared.Heard.{Heard}
use Rattle.listener.specs.declared.Listener.{Listener}
use Rattle.signals.specs.Histories.{Call}
use Rattle.signals.specs.declared.Answer as Train
use Rattle.signals.specs.declared.Signals.{Signals}
use Rattle.signals.specs.declared.Updated.{Updated}
use Rattle.wire.proofs.distance_of as distance-call
use Rattle.wire.specs.contracts.distance_of as distance-call-contract
use Rattle.telegram_reader.proofs.read as read
use Rattle.telegram_reader.specs.contracts.read as read-contract
use Rattle.telegram_writer.proofs.write as write-telegram
use Rattle.telegram_writer.specs.contracts.write as write-telegram-contract
use Rattle.desk.proofs.Desk.accept as accept
use Rattle.desk.specs.contracts.Desk.accept as accept-contract
use Rattle.desk_writer.proofs.table_of as table-call
use Rattle.desk_writer.specs.contracts.table_of as table-call-contract
use Rattle.desk_writer.proofs.write as write
use Rattle.desk_writer.specs.contracts.write as write-contract
use Rattle.desk.proofs.Desk.fresh as fresh-desk
use Rattle.desk.specs.contracts.Desk.fresh as fresh-desk-contract
use Rattle.listener.proofs.Listener.fresh as fresh-listener
use Rattle.listener.specs.contracts.Listener.fresh as fresh-listener-contract
use Rattle.listener.proofs.Listener.hear as hear
use Rattle.listener.specs.contracts.Listener.hear as hear-contract
use Rattle.listener.proofs.hear_in as hear-in
use Rattle.listener.specs.contracts.hear_in as hear-in-contract
use Rattle.signals.proofs.Signals.fresh as fresh-signals
use Rattle.signals.specs.contracts.Signals.fresh as fresh-signals-contract
use Rattle.signals.proofs.Signals.update as update
use Rattle.signals.specs.contracts.Signals.update as update-contract
use Rattle.signals.proofs.Signals.update_by as update-by
use Rattle.signals.specs.contracts.Signals.update_by as update-by-contract
use Rattle.signals_in_place.specs.contracts.update as update-lent
use Rattle.signals_in_place.specs.contracts.update_by as update-by-lent

-- `wire::distance_of(word)`
abbrev pub OfDistance : (ℕ → Distance → Type 0) → Type 0
OfDistance Such = Promised distance-call-contract.ended distance-call.Reads.Learnt (λ κs (word, _) distance lasts. Such word distance)

-- `telegram_reader::read(bytes)`
abbrev pub OfRead : (List ℕ → Reading → Type 0) → Type 0
OfRead Such = Promised read-contract.ended read.Reads.Learnt (λ κs (bytes, _) answer lasts. Such bytes.now (reading_in answer))

-- `telegram_writer::write(telegram, buffer)`
abbrev pub OfWriteTelegram : (Telegram → List ℕ → Verdict → List ℕ → Type 0) → Type 0
OfWriteTelegram Such = Promised write-telegram-contract.ended write-telegram.Reads.Learnt (λ κs (telegram, (buffer, _)) answer (_, (after, _)). Such telegram buffer.now (verdict_in answer) after)

-- `Desk::fresh()`
abbrev pub OfFreshDesk : (Desk → Type 0) → Type 0
OfFreshDesk Such = Promised fresh-desk-contract.ended fresh-desk.Reads.Learnt (λ κs _ desk lasts. Such desk)

-- `Desk::accept(desk, list)`
abbrev pub OfAccept : (Desk → List ℕ → Accepting → Type 0) → Type 0
OfAccept Such = Promised accept-contract.ended accept.Reads.Learnt (λ κs (desk, (list, _)) answer lasts. Such desk list.now (answer_in answer))

-- `desk_writer::table_of(desk)`
abbrev pub OfTable : (Desk → List Slot → Type 0) → Type 0
OfTable Such = Promised table-call-contract.ended table-call.Reads.Learnt (λ κs (desk, _) table lasts. Such desk table)

-- `desk_writer::write(desk, packet, buffer)`
abbrev pub OfWrite : (Desk → ℕ → List ℕ → Verdict → List ℕ → Type 0) → Type 0
OfWrite Such = Promised write-contract.ended write.Reads.Learnt (λ κs (desk, (packet, (buffer, _))) answer (_, (_, (after, _))). Such desk packet buffer.now (verdict_in answer) after)

-- `Listener::fresh()`
abbrev pub OfFreshListener : (Listener → Type 0) → Type 0
OfFreshListener Such = Promised fresh-listener-contract.ended fresh-listener.Reads.Learnt (λ κs _ listener lasts. Such listener)

-- `Listener::hear(listener, telegram)`
abbrev pub OfHear : (Listener → List ℕ → Heard → Type 0) → Type 0
OfHear Such = Promised hear-contract.ended hear.Reads.Learnt (λ κs (listener, (telegram, _)) heard lasts. Such listener telegram.now heard)

-- `listener::hear_in(memory, telegram)`: the 310 bytes before, and after
abbrev pub OfHearIn : (List ℕ → List ℕ → Vehicle.Answer → List ℕ → Type 0) → Type 0
OfHearIn Such = Promised hear-in-contract.ended hear-in.Reads.Learnt (λ κs (memory, (telegram, _)) answer (after, _). Such memory.now telegram.now answer after)

-- `Signals::fresh()`
abbrev pub OfFreshSignals : (Signals → Type 0) → Type 0
OfFreshSignals Such = Promised fresh-signals-contract.ended fresh-signals.Reads.Learnt (λ κs _ signals lasts. Such signals)

-- `Signals::update(signals, present, telegram)`
abbrev pub OfUpdate : (Signals → Bool → List ℕ → Updated → Type 0) → Type 0
OfUpdate Such = Promised update-contract.ended update.Reads.Learnt (λ κs (signals, (present, (telegram, _))) updated lasts. Such signals present telegram.now updated)

-- `signals_in_place::update(held, present, telegram)`: the record before, and after
abbrev pub OfUpdateLent : (Signals → Bool → List ℕ → Train.Answer → Signals → Type 0) → Type 2
OfUpdateLent Such =
    Asserted.PromisedLent update-lent.ended (λ M 𝓤 𝓛. update-lent.clauses 𝓛)
    (λ κs (held, (present, (telegram, _))) answer (after, _). Such held.now present telegram.now answer after)

-- What the programs and other languages go through, which takes a telegram or none in place of a flag and bytes.

-- a call as histories have it (signals/specs/Histories.antt)
abbrev pub call_of : Option (List ℕ) → Call
call_of None = (false, [])
call_of (Some telegram) = (true, telegram)

-- `Signals::update_by(signals, call)`
abbrev pub OfUpdateBy : (Signals → Option (List ℕ) → Updated → Type 0) → Type 0
OfUpdateBy Such = Promised update-by-contract.ended update-by.Reads.Learnt (λ κs (signals, (call, _)) updated lasts. Such signals (option_copied call) updated)

-- `signals_in_place::update_by(held, call)`: the record before, and after
abbrev pub OfUpdateByLent : (Signals → Option (List ℕ) → Train.Answer → Signals → Type 0) → Type 2
OfUpdateByLent Such =
    Asserted.PromisedLent update-by-lent.ended (λ M 𝓤 𝓛. update-by-lent.clauses 𝓛)
    (λ κs (held, (call, _)) answer (after, _). Such held.now (option_copied call) answer after)
