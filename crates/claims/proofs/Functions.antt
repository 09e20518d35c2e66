-- What specs/Functions.antt says of a function, without the checker's own terms: a contract that is an equation promises something of
-- every outcome that it allows exactly when that is so, whatever is handed in, of the outcome that the equation gives.
use Prim.Native.Nat.{ℕ}
use mathlib.Core.Path.{◌≡◌, refl, subst, subst⁻¹}
use mathlib.Core.Logic.{◌↔◌}
use mathlib.Core.Bool.{Bool}
use mathlib.Core.List.{List, []}
use contract.Monad.{fact_mono}
use denote.Ref.{Bor, MutBor}
use Rattle.std.specs.Prelude.{Option, None, Some}
use Rattle.wire.specs.Distances.{distance_of}
use Rattle.wire.specs.declared.distances.Distance.{Distance}
use Rattle.wire.specs.Verdicts.{Verdict}
use Rattle.condition.specs.declared.slots.Slot.{Slot}
use Rattle.telegram.specs.Telegrams.{Reading, read_of, write_verdict, written}
use Rattle.telegram.specs.declared.Telegram.{Telegram}
use Rattle.telegram.proofs.Readings.{read_answer, write_answer}
use Rattle.desk.specs.Desks.{Accepting, base_rest, fresh_desk, accept_of, table_of, packet_of}
use Rattle.desk.proofs.Answers.{accept_answer}
use Rattle.desk.specs.declared.Desk.{Desk}
use Rattle.listener.specs.Listeners.{carries, fresh_listener, hear_of}
use Rattle.listener.specs.Answers.{hearing_of}
use Rattle.listener.specs.Lent.{HeardIn}
use Rattle.listener.specs.declared.Answer as Vehicle
use Rattle.listener.specs.declared.Heard.{Heard}
use Rattle.listener.specs.declared.Listener.{Listener}
use Rattle.signals.specs.Signals.{fresh_signals, update_of, update_by}
use Rattle.signals.specs.declared.Answer as Train
use Rattle.signals.specs.declared.Signals.{Signals}
use Rattle.signals.specs.Answers.{noted_of, updating_of}
use Rattle.signals.specs.declared.Updated.{Updated}
use Rattle.claims.specs.Functions.{OfDistance, OfRead, OfWriteTelegram, OfFreshDesk, OfAccept, OfTable, OfWrite, OfFreshListener, OfFreshSignals, OfHear, OfHearIn, OfUpdate, OfUpdateLent, OfUpdateBy, OfUpdateByLent}

-- bytes that are lent, wherever they stand
abbrev lent : List ℕ → Bor (List ℕ)
lent bytes = record { now = bytes; ref_ptr = (0, 0) }

-- the same of those that are lent to be changed
abbrev lent_out : List ℕ → MutBor (List ℕ)
lent_out bytes = record { now = bytes; ref_ptr = (0, 0); ghost_name = 0 }

pub distance_says : (Such : ℕ → Distance → Type 0) → OfDistance Such ↔ ((word : ℕ) → Such word (distance_of word))
distance_says Such = (
  λ promised word. promised tt (word, tt) (distance_of word) (tt, tt) refl,
  λ plain κs (word, _) distance lasts p. subst⁻¹ (Such word) p (plain word),
)

pub read-says : (Such : List ℕ → Reading → Type 0) → OfRead Such ↔ ((bytes : List ℕ) → Such bytes (read_of bytes))
read-says Such = (
  λ promised bytes. let a = read_answer bytes in subst (Such bytes) a.1 (promised ([], tt) (lent bytes, tt) a.0 (tt, tt) a.1),
  λ plain κs (bytes, _) answer lasts p. subst⁻¹ (Such bytes.now) p (plain bytes.now),
)

pub fresh_desk-says : (Such : Desk → Type 0) → OfFreshDesk Such ↔ Such fresh_desk
fresh_desk-says Such = (
  λ promised. promised tt tt fresh_desk tt refl,
  λ plain κs _ desk lasts p. subst⁻¹ Such p plain,
)

pub accept-says : (Such : Desk → List ℕ → Accepting → Type 0) → OfAccept Such ↔ ((desk : Desk) (list : List ℕ) → Such desk list (accept_of base_rest desk list))
accept-says Such = (
  λ promised desk list. let a = accept_answer base_rest desk list in subst (Such desk list) a.1 (promised ([], tt) (desk, (lent list, tt)) a.0 (tt, (tt, tt)) a.1),
  λ plain κs (desk, (list, _)) answer lasts p. subst⁻¹ (Such desk list.now) p (plain desk list.now),
)

pub table-says : (Such : Desk → List Slot → Type 0) → OfTable Such ↔ ((desk : Desk) → Such desk (table_of desk))
table-says Such = (
  λ promised desk. promised tt (desk, tt) (table_of desk) (tt, tt) refl,
  λ plain κs (desk, _) table lasts p. subst⁻¹ (Such desk) p (plain desk),
)

pub fresh_listener-says : (Such : Listener → Type 0) → OfFreshListener Such ↔ Such fresh_listener
fresh_listener-says Such = (
  λ promised. promised tt tt fresh_listener tt refl,
  λ plain κs _ listener lasts p. subst⁻¹ Such p plain,
)

pub fresh_signals-says : (Such : Signals → Type 0) → OfFreshSignals Such ↔ Such fresh_signals
fresh_signals-says Such = (
  λ promised. promised tt tt fresh_signals tt refl,
  λ plain κs _ signals lasts p. subst⁻¹ Such p plain,
)

-- a buffer that may be changed: its last value is as much of the outcome as the answer is
pub write-telegram-says : (Such : Telegram → List ℕ → Verdict → List ℕ → Type 0)
    → OfWriteTelegram Such ↔ ((telegram : Telegram) (buffer : List ℕ) → Such telegram buffer (write_verdict telegram buffer) (written telegram buffer))
write-telegram-says Such = (
  λ promised telegram buffer.
      let a = write_answer telegram buffer in
      subst (λ v. Such telegram buffer v (written telegram buffer)) a.1
      (promised ([], tt) (telegram, (lent_out buffer, tt)) a.0 (tt, (written telegram buffer, tt)) (a.1, refl)),
  λ plain κs (telegram, (buffer, _)) answer (_, (after, _)) p.
      subst⁻¹ (λ v. Such telegram buffer.now v after) p.0 (subst⁻¹ (Such telegram buffer.now (write_verdict telegram buffer.now)) p.1 (plain telegram buffer.now)),
)

pub write-says : (Such : Desk → ℕ → List ℕ → Verdict → List ℕ → Type 0)
    → OfWrite Such ↔ ((desk : Desk) (packet : ℕ) (buffer : List ℕ) → Such desk packet buffer (write_verdict (packet_of desk packet) buffer) (written (packet_of desk packet) buffer))
write-says Such = (
  λ promised desk packet buffer.
      let a = write_answer (packet_of desk packet) buffer in
      subst (λ v. Such desk packet buffer v (written (packet_of desk packet) buffer)) a.1
      (promised ([], tt) (desk, (packet, (lent_out buffer, tt))) a.0 (tt, (tt, (written (packet_of desk packet) buffer, tt))) (a.1, refl)),
  λ plain κs (desk, (packet, (buffer, _))) answer (_, (_, (after, _))) p.
      subst⁻¹ (λ v. Such desk packet buffer.now v after) p.0
      (subst⁻¹ (Such desk packet buffer.now (write_verdict (packet_of desk packet) buffer.now)) p.1 (plain desk packet buffer.now)),
)

-- ---- where an answer is an enum: of each answer that the contract's equation allows

pub hear-says : (Such : Listener → List ℕ → Heard → Type 0)
    → OfHear Such ↔ ((listener : Listener) (telegram : List ℕ) (heard : Heard) → hearing_of heard ≡ hear_of carries listener (read_of telegram) → Such listener telegram heard)
hear-says Such = (
  λ promised listener telegram heard p. promised ([], tt) (listener, (lent telegram, tt)) heard (tt, (tt, tt)) p,
  λ plain κs (listener, (telegram, _)) heard lasts p. plain listener telegram.now heard p,
)

pub hear_in-says : (Such : List ℕ → List ℕ → Vehicle.Answer → List ℕ → Type 0)
    → OfHearIn Such ↔ ((memory telegram : List ℕ) (answer : Vehicle.Answer) (after : List ℕ) → HeardIn carries memory telegram answer after → Such memory telegram answer after)
hear_in-says Such = (
  λ promised memory telegram answer after p. promised ([], ([], tt)) (lent_out memory, (lent telegram, tt)) answer (after, (tt, tt)) p,
  λ plain κs (memory, (telegram, _)) answer (after, _) p. plain memory.now telegram.now answer after p,
)

pub update-says : (Such : Signals → Bool → List ℕ → Updated → Type 0)
    → OfUpdate Such ↔ ((signals : Signals) (present : Bool) (telegram : List ℕ) (updated : Updated) → updating_of updated ≡ update_of signals present telegram → Such signals present telegram updated)
update-says Such = (
  λ promised signals present telegram updated p. promised ([], tt) (signals, (present, (lent telegram, tt))) updated (tt, (tt, (tt, tt))) p,
  λ plain κs (signals, (present, (telegram, _))) updated lasts p. plain signals present telegram.now updated p,
)

-- where a record is lent, what is so of each answer and each record after it that the contract's equations allow is promised in every
-- model of the machine
pub update-lent-says : (Such : Signals → Bool → List ℕ → Train.Answer → Signals → Type 0)
    → ((signals : Signals) (present : Bool) (telegram : List ℕ) (answer : Train.Answer) (after : Signals)
    → noted_of answer ≡ (update_of signals present telegram).noted → after ≡ (update_of signals present telegram).signals → Such signals present telegram answer after)
    → OfUpdateLent Such
update-lent-says Such plain M 𝓤 𝓛 mem run κs (held, (present, (telegram, _))) ghost answer (after, _) =
    fact_mono 𝓤 _ _ (λ p. plain held.now present telegram.now answer after p.0 p.1)

-- and of a call that is handed a telegram or none
asked_by : (Such : Signals → Option (List ℕ) → Updated → Type 0) → OfUpdateBy Such
    → (signals : Signals) (call : Option (List ℕ)) (updated : Updated) → updating_of updated ≡ update_by signals call → Such signals call updated
asked_by Such promised signals None updated p = promised ([], tt) (signals, (None, tt)) updated (tt, (tt, tt)) p
asked_by Such promised signals (Some telegram) updated p = promised ([], tt) (signals, (Some (lent telegram), tt)) updated (tt, (tt, tt)) p

pub update_by-says : (Such : Signals → Option (List ℕ) → Updated → Type 0)
    → OfUpdateBy Such ↔ ((signals : Signals) (call : Option (List ℕ)) (updated : Updated) → updating_of updated ≡ update_by signals call → Such signals call updated)
update_by-says Such = (asked_by Such, λ plain κs (signals, (call, _)) updated lasts p. plain signals _ updated p)

pub update_by-lent-says : (Such : Signals → Option (List ℕ) → Train.Answer → Signals → Type 0)
    → ((signals : Signals) (call : Option (List ℕ)) (answer : Train.Answer) (after : Signals)
    → noted_of answer ≡ (update_by signals call).noted → after ≡ (update_by signals call).signals → Such signals call answer after)
    → OfUpdateByLent Such
update_by-lent-says Such plain M 𝓤 𝓛 mem run κs (held, (call, _)) ghost answer (after, _) =
    fact_mono 𝓤 _ _ (λ p. plain held.now _ answer after p.0 p.1)
