-- Demand 1 is proved: each contract is an equation with a definition, and each definition keeps the promise.
use Prim.Native.Nat.{ℕ}
use mathlib.Core.Path.{◌≡◌, refl, sym, ap, ◌∙◌, subst, subst⁻¹}
use mathlib.Core.Bool.{Bool, true, false}
use mathlib.Core.List.{List, []}
use mathlib.Core.Logic.{◌↔◌}
use contract.Monad.{fact_mono}
use lib.ListN.{length}
use borrow.Author.Tests.{ne_eqb}
use Rattle.std.specs.Prelude.{Option, None, Some, option_copied}
use Rattle.kit.specs.Ladder.{NoneHolds}
use Rattle.kit.proofs.Cases.{given}
use Rattle.kit.proofs.Contracts.{agree, both_facts}
use Rattle.wire.specs.Verdicts.{Verdict, verdict_refused, ruled_refused, ruling_of, verdict_in}
use Rattle.wire.proofs.Answers.{ruling_apart}
use Rattle.wire.proofs.Results.{verdict_in-apart}
use Rattle.telegram.specs.Telegrams.{read_rows, write_rows, reading_in}
use Rattle.telegram.proofs.Readings.{reading_in-apart}
use Rattle.telegram.proofs.Refusals.{reading_refused, writing_refused, refused_untouched}
use Rattle.train_codes.specs.Refusals.{train_rows}
use Rattle.orders.specs.Orders.{list_rows}
use Rattle.desk.specs.Desks.{packet_of}
use Rattle.desk.proofs.Answers.{answer_in-apart}
use Rattle.desk.proofs.Promises as desk-promises
use Rattle.hand.specs.Sets.{begun}
use Rattle.listener.specs.Listeners.{carries, holding, hear_rows}
use Rattle.listener.specs.Answers.{Hearing, refused_as}
use Rattle.listener.specs.Lent.{listener_in, memory_after}
use Rattle.listener.proofs.Lent.{heard_once}
use Rattle.listener.proofs.Answers.{hearing_apart}
use Rattle.listener.proofs.Promises as listener-promises
use Rattle.signals.specs.Answers.{acceptance, absence, refusal_under, Updating}
use Rattle.signals.specs.Signals.{missed_by, update_of, update_by}
use Rattle.signals.specs.declared.Signals.{Signals}
use Rattle.signals.proofs.Answers.{noted-apart, updating_apart}
use Rattle.signals.proofs.Promises as train-promises
use Rattle.claims.specs.Demand1.{RefusedBy, Lists, Telegrams, TelegramsLent, TrainTelegrams, TrainTelegramsLent, TrainTelegramsBy, TrainTelegramsByLent, Buffers, Demand1}

-- what is proved of a verdict is proved of what it tells
ruled : (rows : List (Bool × ℕ)) (verdict : Verdict) → RefusedBy rows verdict_refused verdict → RefusedBy rows ruled_refused (ruling_of verdict)
ruled rows verdict by number = (λ e. (by number).0 (ruling_apart verdict (verdict_refused number) e), λ decides. ap ruling_of ((by number).1 decides))

lists : Lists
lists =
    record {
      defined = λ κs handed answer other lasts others p q. (answer_in-apart answer other (agree p q), refl);
      refused = λ κs (desk, (list, _)) answer lasts p. ruled (list_rows desk.places list.now) (verdict_in answer.verdict) (subst⁻¹ (λ a. RefusedBy (list_rows desk.places list.now) verdict_refused a.verdict) p (desk-promises.refused-by desk list.now));
      unchanged = λ κs (desk, (list, _)) answer lasts p number e.
          subst⁻¹ (λ a. (number : ℕ) → a.verdict ≡ verdict_refused number → a.desk ≡ desk) p (desk-promises.refused-unchanged desk list.now) number (ruling_apart (verdict_in answer.verdict) (verdict_refused number) e);
    }

telegrams : Telegrams
telegrams =
    record {
      read_defined = λ κs handed answer other lasts others p q. (reading_in-apart answer other (agree p q), refl);
      read_refused = λ κs (bytes, _) answer lasts p. ruled (read_rows bytes.now) (reading_in answer).verdict (subst⁻¹ (λ a. RefusedBy (read_rows bytes.now) verdict_refused a.verdict) p (reading_refused bytes.now));
      defined = λ κs handed answer other lasts others p q. (hearing_apart answer other (agree p q), refl);
      refused = λ κs (listener, (telegram, _)) heard lasts p.
          subst⁻¹ (λ (h : Hearing). RefusedBy (hear_rows listener telegram.now) refused_as h.told) p (listener-promises.refused_when carries listener telegram.now);
      dropped = λ κs (listener, (telegram, _)) heard lasts p.
          subst⁻¹ (λ (h : Hearing). h.told ≡ refused_as 15 → h.listener ≡ holding listener (begun 0)) p (listener-promises.fifteen_drops carries listener telegram.now);
      unchanged = λ κs (listener, (telegram, _)) heard lasts p.
          subst⁻¹ (λ (h : Hearing). (number : ℕ) → (number ≡ 15 → ⊥) → h.told ≡ refused_as number → h.listener ≡ listener) p
          (listener-promises.others-unchanged carries listener telegram.now);
    }

-- but for 15, a refusal leaves every byte
memory_kept : (number : ℕ) → (number ≡ 15 → ⊥) → (memory telegram : List ℕ) → memory_after carries (refused_as number) memory telegram ≡ memory
memory_kept number other memory telegram = rw (ne_eqb number 15 other) refl

telegrams_lent : TelegramsLent
telegrams_lent =
    record {
      defined = λ κs handed answer other lasts others p q. given (heard_once p q) (λ (same, bytes). (same, ap (λ b. (b, (tt, tt))) bytes));
      refused = λ κs (memory, (telegram, _)) answer lasts p.
          subst⁻¹ (λ (h : Hearing). RefusedBy (hear_rows (listener_in memory.now) telegram.now) refused_as h.told) p.meant
          (listener-promises.refused_when carries (listener_in memory.now) telegram.now);
      dropped = λ κs (memory, (telegram, _)) answer lasts p.
          subst⁻¹ (λ (h : Hearing). h.told ≡ refused_as 15 → h.listener ≡ holding (listener_in memory.now) (begun 0)) p.meant
          (listener-promises.fifteen_drops carries (listener_in memory.now) telegram.now);
      unchanged = λ κs (memory, (telegram, _)) answer lasts p number other told.
          p.bytes ∙ (ap (λ t. memory_after carries t memory.now telegram.now) told ∙ memory_kept number other memory.now telegram.now);
    }

-- a call with a telegram, and one with none; the promise of the answer and of the record, whether it is handed over or lent
module _ (signals : Signals) (telegram : List ℕ) where
  call_refused : (present : Bool) → present ≡ true → RefusedBy (train_rows telegram) refusal_under (update_of signals present telegram).noted
  call_refused present with-one = subst (λ b. RefusedBy (train_rows telegram) refusal_under (update_of signals b telegram).noted) (sym with-one) (train-promises.refused-exactly signals telegram)

  call_absent : (present : Bool) → present ≡ false → ((update_of signals present telegram).noted ≡ absence) × ((update_of signals present telegram).signals ≡ missed_by signals)
  call_absent present none =
      let same : update_of signals present telegram ≡ record { noted = absence; signals = missed_by signals } = ap (λ b. update_of signals b telegram) none ∙ train-promises.absent-misses signals telegram in
      (ap (λ (u : Updating). u.noted) same, ap (λ (u : Updating). u.signals) same)

  call_accepted : (present : Bool) → present ≡ true → ((update_of signals present telegram).noted ≡ acceptance) ↔ NoneHolds (train_rows telegram)
  call_accepted present with-one = subst (λ b. ((update_of signals b telegram).noted ≡ acceptance) ↔ NoneHolds (train_rows telegram)) (sym with-one) (train-promises.accepted-exactly signals telegram)

  call_missed : (present : Bool) (number : ℕ) → (update_of signals present telegram).noted ≡ refusal_under number → (update_of signals present telegram).signals ≡ missed_by signals
  call_missed true number e = train-promises.refused-misses signals telegram number e
  call_missed false number e = (call_absent false refl).1

train : TrainTelegrams
train =
    record {
      defined = λ κs handed answer other lasts others p q. (updating_apart answer other (agree p q), refl);
      refused = λ κs (signals, (present, (telegram, _))) updated lasts p.
          subst⁻¹ (λ (u : Updating). present ≡ true → RefusedBy (train_rows telegram.now) refusal_under u.noted) p (call_refused signals telegram.now present);
      accepted_when = λ κs (signals, (present, (telegram, _))) updated lasts p.
          subst⁻¹ (λ (u : Updating). present ≡ true → (u.noted ≡ acceptance) ↔ NoneHolds (train_rows telegram.now)) p (call_accepted signals telegram.now present);
      absent = λ κs (signals, (present, (telegram, _))) updated lasts p.
          subst⁻¹ (λ (u : Updating). present ≡ false → (u.noted ≡ absence) × (u.signals ≡ missed_by signals)) p (call_absent signals telegram.now present);
      missed = λ κs (signals, (present, (telegram, _))) updated lasts p.
          subst⁻¹ (λ (u : Updating). (number : ℕ) → u.noted ≡ refusal_under number → u.signals ≡ missed_by signals) p (call_missed signals telegram.now present);
    }

train_lent : TrainTelegramsLent
train_lent =
    record {
      defined = λ M 𝓤 𝓛 mem run κs handed ghost answer other lasts others.
          both_facts 𝓤 _ _ _ (λ p q. (noted-apart answer other (agree p.0 q.0), ap (λ after. (after, (tt, (tt, tt)))) (agree p.1 q.1)));
      refused = λ M 𝓤 𝓛 mem run κs (held, (present, (telegram, _))) ghost answer lasts.
          fact_mono 𝓤 _ _ (λ p. subst⁻¹ (λ a. present ≡ true → RefusedBy (train_rows telegram.now) refusal_under a) p.0 (call_refused held.now telegram.now present));
      accepted_when = λ M 𝓤 𝓛 mem run κs (held, (present, (telegram, _))) ghost answer lasts.
          fact_mono 𝓤 _ _ (λ p. subst⁻¹ (λ a. present ≡ true → (a ≡ acceptance) ↔ NoneHolds (train_rows telegram.now)) p.0 (call_accepted held.now telegram.now present));
      absent = λ M 𝓤 𝓛 mem run κs (held, (present, (telegram, _))) ghost answer lasts.
          fact_mono 𝓤 _ _ (λ p none. given (call_absent held.now telegram.now present none) (λ (noted, kept). (p.0 ∙ noted, p.1 ∙ kept)));
      missed = λ M 𝓤 𝓛 mem run κs (held, (present, (telegram, _))) ghost answer lasts.
          fact_mono 𝓤 _ _ (λ p number e. p.1 ∙ call_missed held.now telegram.now present number (sym p.0 ∙ e));
    }

-- the same of a call that is handed a telegram or none
module _ (signals : Signals) where
  given_refused : (call : Option (List ℕ)) (telegram : List ℕ) → call ≡ Some telegram → RefusedBy (train_rows telegram) refusal_under (update_by signals call).noted
  given_refused call telegram is = subst (λ c. RefusedBy (train_rows telegram) refusal_under (update_by signals c).noted) (sym is) (train-promises.refused-exactly signals telegram)

  given_accepted : (call : Option (List ℕ)) (telegram : List ℕ) → call ≡ Some telegram → ((update_by signals call).noted ≡ acceptance) ↔ NoneHolds (train_rows telegram)
  given_accepted call telegram is = subst (λ c. ((update_by signals c).noted ≡ acceptance) ↔ NoneHolds (train_rows telegram)) (sym is) (train-promises.accepted-exactly signals telegram)

  given_absent : (call : Option (List ℕ)) → call ≡ None → ((update_by signals call).noted ≡ absence) × ((update_by signals call).signals ≡ missed_by signals)
  given_absent call none = subst (λ c. ((update_by signals c).noted ≡ absence) × ((update_by signals c).signals ≡ missed_by signals)) (sym none) (call_absent signals [] false refl)

  given_missed : (call : Option (List ℕ)) (number : ℕ) → (update_by signals call).noted ≡ refusal_under number → (update_by signals call).signals ≡ missed_by signals
  given_missed None number e = call_missed signals [] false number e
  given_missed (Some telegram) number e = call_missed signals telegram true number e

train_by : TrainTelegramsBy
train_by =
    record {
      defined = λ κs handed answer other lasts others p q. (updating_apart answer other (agree p q), refl);
      refused = λ κs (signals, (call, _)) updated lasts p.
          subst⁻¹ (λ (u : Updating). (telegram : List ℕ) → option_copied call ≡ Some telegram → RefusedBy (train_rows telegram) refusal_under u.noted) p (given_refused signals (option_copied call));
      accepted_when = λ κs (signals, (call, _)) updated lasts p.
          subst⁻¹ (λ (u : Updating). (telegram : List ℕ) → option_copied call ≡ Some telegram → (u.noted ≡ acceptance) ↔ NoneHolds (train_rows telegram)) p (given_accepted signals (option_copied call));
      absent = λ κs (signals, (call, _)) updated lasts p.
          subst⁻¹ (λ (u : Updating). option_copied call ≡ None → (u.noted ≡ absence) × (u.signals ≡ missed_by signals)) p (given_absent signals (option_copied call));
      missed = λ κs (signals, (call, _)) updated lasts p.
          subst⁻¹ (λ (u : Updating). (number : ℕ) → u.noted ≡ refusal_under number → u.signals ≡ missed_by signals) p (given_missed signals (option_copied call));
    }

train_by_lent : TrainTelegramsByLent
train_by_lent =
    record {
      defined = λ M 𝓤 𝓛 mem run κs handed ghost answer other lasts others.
          both_facts 𝓤 _ _ _ (λ p q. (noted-apart answer other (agree p.0 q.0), ap (λ after. (after, (tt, tt))) (agree p.1 q.1)));
      refused = λ M 𝓤 𝓛 mem run κs (held, (call, _)) ghost answer lasts.
          fact_mono 𝓤 _ _ (λ p telegram is. subst⁻¹ (λ a. RefusedBy (train_rows telegram) refusal_under a) p.0 (given_refused held.now (option_copied call) telegram is));
      accepted_when = λ M 𝓤 𝓛 mem run κs (held, (call, _)) ghost answer lasts.
          fact_mono 𝓤 _ _ (λ p telegram is. subst⁻¹ (λ a. (a ≡ acceptance) ↔ NoneHolds (train_rows telegram)) p.0 (given_accepted held.now (option_copied call) telegram is));
      absent = λ M 𝓤 𝓛 mem run κs (held, (call, _)) ghost answer lasts.
          fact_mono 𝓤 _ _ (λ p none. given (given_absent held.now (option_copied call) none) (λ (noted, kept). (p.0 ∙ noted, p.1 ∙ kept)));
      missed = λ M 𝓤 𝓛 mem run κs (held, (call, _)) ghost answer lasts.
          fact_mono 𝓤 _ _ (λ p number e. p.1 ∙ given_missed held.now (option_copied call) number (sym p.0 ∙ e));
    }

buffers : Buffers
unfolding packet_of
buffers =
    record {
      defined = λ κs handed answer other lasts others p q. (verdict_in-apart answer other (agree p.0 q.0), ap (λ bytes. (tt, (tt, (bytes, tt)))) (agree p.1 q.1));
      refused = λ κs (desk, (packet, (buffer, _))) answer lasts p.
          ruled (write_rows packet (length buffer.now)) (verdict_in answer) (subst⁻¹ (λ v. RefusedBy (write_rows packet (length buffer.now)) verdict_refused v) p.0 (writing_refused (packet_of desk packet) buffer.now));
      unchanged = λ κs (desk, (packet, (buffer, _))) answer lasts p number e. p.1 ∙ refused_untouched (packet_of desk packet) buffer.now number (sym p.0 ∙ ruling_apart (verdict_in answer) (verdict_refused number) e);
    }

pub demand1 : Demand1
demand1 = record { lists = lists; telegrams = telegrams; telegrams_lent = telegrams_lent; train = train; train_lent = train_lent; train_by = train_by; train_by_lent = train_by_lent; buffers = buffers }
