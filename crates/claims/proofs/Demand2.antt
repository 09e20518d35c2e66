-- Demand 2 is proved: each contract is an equation with a definition, and the definitions of writing and reading fit together.
use Prim.Native.Nat.{ℕ, ◌<◌}
use mathlib.Core.Path.{◌≡◌, refl, sym, ap, ◌∙◌, subst⁻¹}
use mathlib.Core.Bool.{Bool, true, false, cond}
use mathlib.Core.List.{List, [], ◌∷◌}
use mathlib.Core.Logic.{◌⊎◌}
use contract.Monad.{fact_mono}
use lib.ListN.{length, get_or}
use Rattle.std.specs.Prelude.{Option, None, Some, option_copied}
use Rattle.kit.specs.Bytes.{Bytes, bit}
use Rattle.kit.proofs.Cases.{given}
use Rattle.wire.specs.Distances.{InRange, distance_word}
use Rattle.wire.specs.Verdicts.{verdict_accepted, ruling_of, verdict_in}
use Rattle.wire.proofs.Answers.{ruling_apart}
use Rattle.wire.proofs.Metres.{word-said}
use Rattle.condition.specs.Slots.{MayHold, settled, coded_of}
use Rattle.condition.proofs.Coding.{coded-back}
use Rattle.telegram.specs.Sendable.{slot_on, may_alter}
use Rattle.telegram.specs.Tables.{table_slot}
use Rattle.telegram.specs.Telegrams.{Reading, coded_at, telegram_of as meant, bytes_of, read_of, write_verdict, written, reading_in}
use Rattle.telegram.proofs.Carried.{slot-carried}
use Rattle.telegram.proofs.Refusals.{reading_accepted, accepted-written, accepted-asked, packet_fills}
use Rattle.telegram.proofs.Valid.{length-read, slot_read, slot-meant, never_invalid, accepted-means, accepted_sendable}
use Rattle.telegram.proofs.Wire.{length-bytes, coded-on, packet-on, step-on}
use Rattle.telegram.proofs.WriteAgain.{write_again}
use Rattle.desk.specs.Desks.{Made, table_of, packet_of}
use Rattle.desk.specs.declared.Desk.{Desk}
use Rattle.desk.proofs.Making.{made-sound}
use Rattle.desk.proofs.Tables.{packet_sendable, packet-read}
use Rattle.listener.specs.Answers.{Hearing}
use Rattle.listener.specs.Listeners.{carries, heard_all, hear_of}
use Rattle.listener.specs.declared.Listener.{Listener}
use Rattle.listener.proofs.Valid.{picture-valid}
use Rattle.train_telegram.specs.Readings.{Shows}
use Rattle.train_telegram.specs.States.{silent}
use Rattle.signals.specs.Answers.{acceptance, Updating}
use Rattle.signals.specs.Histories.{Call, LastAccepted}
use Rattle.signals.specs.Signals.{update_of, update_by}
use Rattle.signals.specs.declared.Signals.{Signals}
use Rattle.signals.proofs.Answers.{absence_no_acceptance}
use Rattle.signals.proofs.History.{updated_all, shown-from}
use Rattle.signals.proofs.Promises as train-promises
use Rattle.claims.specs.Functions.{call_of}
use Rattle.claims.specs.Demand2.{Codes, AsDocument01Says, ReadBack, record_after, TheSignalReader, TheListener, Valid, Demand2}

-- ---- writing and reading

-- what is written of a desk codes its telegram
written_codes : (desk : Desk) (packet : ℕ) (buffer : List ℕ) → Made desk → write_verdict (packet_of desk packet) buffer ≡ verdict_accepted
    → Codes (λ c. c) (written (packet_of desk packet) buffer) (packet_of desk packet)
unfolding packet_of
written_codes desk packet buffer made accepted =
    let t = packet_of desk packet in
    given (accepted-asked t buffer accepted)
    (λ (low, high, long).
    subst⁻¹ (λ bytes. Codes (λ c. c) bytes t) (accepted-written t buffer accepted)
    (record {
      long = length-bytes t;
      packet = packet-on t high;
      step = step-on t (packet_sendable (made-sound made) packet low high).step_below;
      places = coded-on t;
    }))

-- what is read is what the bytes code
read_codes : (bytes : List ℕ) → (read_of bytes).verdict ≡ verdict_accepted → Codes settled bytes (read_of bytes).telegram
unfolding meant
read_codes bytes accepted =
    let s = (reading_accepted bytes).0 accepted in
    subst⁻¹ (Codes settled bytes) (accepted-means bytes accepted)
    (record {
      long = length-read bytes s;
      packet = refl;
      step = refl;
      places = λ k below. sym (ap coded_of (slot-meant bytes k below) ∙ coded-back (coded_at bytes k) (slot_read bytes s k below));
    })

-- an accepted call had a telegram, and the record shows it
call_shows : (signals : Signals) (telegram : List ℕ) (present : Bool) → (update_of signals present telegram).noted ≡ acceptance
    → Shows (update_of signals present telegram).signals.states telegram
call_shows signals telegram true accepted = train-promises.accepted-shows signals telegram accepted
call_shows signals telegram false accepted = absurd (absence_no_acceptance (sym (ap (λ (u : Updating). u.noted) (train-promises.absent-misses signals telegram)) ∙ accepted))

-- the same of a call that is handed a telegram or none
given_shows : (signals : Signals) (call : Option (List ℕ)) → (update_by signals call).noted ≡ acceptance
    → (telegram : List ℕ) × (call ≡ Some telegram) × Shows (update_by signals call).signals.states telegram
given_shows signals None accepted = absurd (absence_no_acceptance (sym (ap (λ (u : Updating). u.noted) (train-promises.absent-misses signals [])) ∙ accepted))
given_shows signals (Some telegram) accepted = (telegram, refl, train-promises.accepted-shows signals telegram accepted)

coded : AsDocument01Says
coded =
    record {
      writes = λ κs (desk, (packet, (buffer, _))) answer lasts p made accepted.
          subst⁻¹ (λ bytes. Codes (λ c. c) bytes (packet_of desk packet)) p.1 (written_codes desk packet buffer.now made (sym p.0 ∙ ruling_apart (verdict_in answer) verdict_accepted accepted));
      reads_so = λ κs (bytes, _) answer lasts p accepted.
          subst⁻¹ (λ (r : Reading). r.verdict ≡ verdict_accepted → Codes settled bytes.now r.telegram) p (read_codes bytes.now) (ruling_apart (reading_in answer).verdict verdict_accepted accepted);
      distances = λ κs (word, _) distance lasts p. subst⁻¹ (λ d. word < 0x10000 → InRange d × (distance_word d ≡ word)) p (word-said word);
      signals = λ κs (signals, (present, (telegram, _))) updated lasts p.
          subst⁻¹ (λ (u : Updating). u.noted ≡ acceptance → Shows u.signals.states telegram.now) p (call_shows signals telegram.now present);
      signals_lent = λ M 𝓤 𝓛 mem run κs (held, (present, (telegram, _))) ghost answer lasts.
          fact_mono 𝓤 _ _ (λ p accepted. subst⁻¹ (λ (s : Signals). Shows s.states telegram.now) p.1 (call_shows held.now telegram.now present (sym p.0 ∙ accepted)));
      signals_by = λ κs (signals, (call, _)) updated lasts p.
          subst⁻¹ (λ (u : Updating). u.noted ≡ acceptance → (telegram : List ℕ) × (option_copied call ≡ Some telegram) × Shows u.signals.states telegram) p (given_shows signals (option_copied call));
      signals_by_lent = λ M 𝓤 𝓛 mem run κs (held, (call, _)) ghost answer lasts.
          fact_mono 𝓤 _ _ (λ p accepted. subst⁻¹ (λ (s : Signals). (telegram : List ℕ) × (option_copied call ≡ Some telegram) × Shows s.states telegram) p.1 (given_shows held.now (option_copied call) (sym p.0 ∙ accepted)));
    }

-- what was written of a desk is read as it was
read-written : (desk : Desk) (packet : ℕ) (buffer : List ℕ) → Made desk → write_verdict (packet_of desk packet) buffer ≡ verdict_accepted
    → read_of (written (packet_of desk packet) buffer) ≡ record { verdict = verdict_accepted; telegram = packet_of desk packet }
unfolding packet_of
read-written desk packet buffer made accepted =
    given (accepted-asked (packet_of desk packet) buffer accepted)
    (λ (low, high, long). ap read_of (accepted-written (packet_of desk packet) buffer accepted) ∙ packet-read (made-sound made) packet low high)

-- what was read is written again
written-again : (bytes buffer : List ℕ) → Bytes bytes → (read_of bytes).verdict ≡ verdict_accepted → length buffer ≡ 26
    → (i b : ℕ) → i < 26 → bit b (get_or (written (read_of bytes).telegram buffer) i 0) ≡ cond (may_alter bytes i b) false (bit b (get_or bytes i 0))
written-again bytes buffer fits accepted long i b below =
    let t = (read_of bytes).telegram in
    let sendable = accepted_sendable bytes fits accepted in
    ap (λ l. bit b (get_or l i 0)) (packet_fills t buffer sendable.packet_from sendable.packet_to long ∙ ap bytes_of (accepted-means bytes accepted))
    ∙ write_again bytes fits ((reading_accepted bytes).0 accepted) i b below

read_back : ReadBack
unfolding packet_of
read_back =
    record {
      each_packet = λ κs (desk, (packet, (buffer, _))) answer lasts p made accepted κs' (bytes, _) read lasts' q same.
          let back = q ∙ (ap read_of (same ∙ p.1) ∙ read-written desk packet buffer.now made (sym p.0 ∙ ruling_apart (verdict_in answer) verdict_accepted accepted)) in
          (ap (λ (r : Reading). ruling_of r.verdict) back, ap (λ (r : Reading). r.telegram) back);
      table = λ κs (desk, _) table lasts p i below. (slot-carried (table_of desk) i below).1 ∙ ap (λ t. table_slot t i) (sym p);
      again = λ κs (bytes, _) read lasts p fits accepted κs' (telegram, (buffer, _)) answer lasts' q same long i b below.
          ap (λ l. bit b (get_or l i 0)) (q.1 ∙ ap (λ t. written t buffer.now) (same ∙ ap (λ (r : Reading). r.telegram) p))
          ∙ written-again bytes.now buffer.now fits (sym (ap (λ (r : Reading). r.verdict) p) ∙ ruling_apart (reading_in read).verdict verdict_accepted accepted) long i b below;
    }

-- ---- what is shown

-- a call that is handed a telegram or none is the call of the page
same_call : (signals : Signals) (call : Option (List ℕ)) → update_by signals call ≡ update_of signals (call_of call).0 (call_of call).1
same_call signals None = refl
same_call signals (Some telegram) = refl

-- the record of the page is the one that the functions make
reader : TheSignalReader
unfolding record_after
reader =
    record {
      signals_begin = λ κs handed signals lasts p. p;
      updates = λ earlier κs (signals, (present, (telegram, _))) updated lasts p before.
          ap (λ (u : Updating). u.signals) p ∙ ap (λ (s : Signals). (update_of s present telegram.now).signals) before;
      updates_lent = λ earlier M 𝓤 𝓛 mem run κs (held, (present, (telegram, _))) ghost answer lasts.
          fact_mono 𝓤 _ _ (λ p before. p.1 ∙ ap (λ (s : Signals). (update_of s present telegram.now).signals) before);
      updates_by = λ earlier κs (signals, (call, _)) updated lasts p before.
          ap (λ (u : Updating). u.signals) (p ∙ same_call signals (option_copied call)) ∙ ap (λ (s : Signals). (update_of s (call_of (option_copied call)).0 (call_of (option_copied call)).1).signals) before;
      updates_by_lent = λ earlier M 𝓤 𝓛 mem run κs (held, (call, _)) ghost answer lasts.
          fact_mono 𝓤 _ _ (λ p before. p.1 ∙ ap (λ (u : Updating). u.signals) (same_call held.now (option_copied call)) ∙ ap (λ (s : Signals). (update_of s (call_of (option_copied call)).0 (call_of (option_copied call)).1).signals) before);
    }

-- and so is the listener
listener : TheListener
unfolding heard_all
listener =
    record {
      listener_begins = λ κs handed listener lasts p. p;
      hears = λ earlier κs (listener, (telegram, _)) heard lasts p before.
          ap (λ (h : Hearing). h.listener) p ∙ ap (λ (l : Listener). (hear_of carries l (read_of telegram.now)).listener) before;
    }

-- the record is the one whose history is known
same_record : (calls : List Call) → record_after calls ≡ updated_all calls
unfolding record_after updated_all
same_record [] = refl
same_record ((present, telegram) ∷ earlier) = ap (λ (s : Signals). (update_of s present telegram).signals) (same_record earlier)

valid : Valid
valid =
    record {
      read = λ κs (bytes, _) read lasts p. subst⁻¹ (λ (r : Reading). (k : ℕ) → MayHold (slot_on r.telegram k)) p (never_invalid bytes.now);
      picture = picture-valid carries;
      signals = λ calls.
          subst⁻¹ (λ (s : Signals). (s.states ≡ silent) ⊎ ((t : List ℕ) × LastAccepted calls t × Shows s.states t)) (same_record calls) (shown-from calls);
    }

pub demand2 : Demand2
demand2 = record { coded = coded; read_back = read_back; reader = reader; listener = listener; valid = valid }
