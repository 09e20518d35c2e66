-- What the record promises of each call, whatever its telegram holds.
use Prim.Native.Nat.{ℕ}
use mathlib.Core.Bool.{true, false}
use mathlib.Core.List.{List, []}
use mathlib.Core.Logic.{◌↔◌, inl}
use mathlib.Core.Path.{◌≡◌, refl, sym, ap, ◌∙◌, subst}
use Rattle.kit.specs.Ladder.{Decides, NoneHolds}
use Rattle.wire.specs.Verdicts.{Verdict, verdict_accepted, verdict_refused}
use Rattle.train_codes.specs.Refusals.{train_rows}
use Rattle.train_telegram.specs.Readings.{train_reading, Shows}
use Rattle.train_telegram.specs.States.{states_of}
use Rattle.train_telegram.specs.declared.states.States.{States}
use Rattle.train_telegram.proofs.Showing.{states-show}
use Rattle.train_telegram.proofs.Refusals.{reading_refused, reading_accepted, accepted-states}
use Rattle.signals.specs.Answers.{Noted, acceptance, absence, refusal_under, Updating}
use Rattle.signals.specs.Signals.{signals_with, missed_by, update_of}
use Rattle.signals.specs.declared.Signals.{Signals}
use Rattle.signals.proofs.Answers.{acceptance_no_refusal}
use Rattle.signals.proofs.Updating.{update-missed, update-refused, update-accepted}

module _ (signals : Signals) (telegram : List ℕ) where
  abbrev noted : Noted
  noted = (update_of signals true telegram).noted

  -- an answer tells the verdict of reading
  told : (verdict : Verdict) → (train_reading telegram).verdict ≡ verdict → ((number : ℕ) → noted ≡ refusal_under number → (train_reading telegram).verdict ≡ verdict_refused number) × (noted ≡ acceptance → (train_reading telegram).verdict ≡ verdict_accepted)
  told (verdict_refused n) e =
      let is : noted ≡ refusal_under n = ap (λ (u : Updating). u.noted) (update-refused signals telegram (train_reading telegram) refl n e) in
      (λ number a. e ∙ ap (λ (n : Noted). verdict_refused n.number) (sym is ∙ a), λ a. absurd (acceptance_no_refusal n (sym a ∙ is)))
  told verdict_accepted e =
      let is : noted ≡ acceptance = ap (λ (u : Updating). u.noted) (update-accepted signals telegram (train_reading telegram) refl e) in
      (λ number a. absurd (acceptance_no_refusal number (sym is ∙ a)), λ a. e)

  -- R-22, R-23: a telegram is refused under the number of the first row that holds, and never else
  pub refused-exactly : (number : ℕ) → (noted ≡ refusal_under number) ↔ Decides (train_rows telegram) number
  refused-exactly number = (
    λ a. (reading_refused telegram number).0 ((told (train_reading telegram).verdict refl).0 number a),
    λ d. ap (λ (u : Updating). u.noted) (update-refused signals telegram (train_reading telegram) refl number ((reading_refused telegram number).1 d)),
  )

  pub accepted-exactly : (noted ≡ acceptance) ↔ NoneHolds (train_rows telegram)
  accepted-exactly = (
    λ a. (reading_accepted telegram).0 ((told (train_reading telegram).verdict refl).1 a),
    λ s. ap (λ (u : Updating). u.noted) (update-accepted signals telegram (train_reading telegram) refl ((reading_accepted telegram).1 s)),
  )

  -- M-1f, S-20: a refused telegram is a miss like any other, and changes nothing else
  pub refused-misses : (number : ℕ) → noted ≡ refusal_under number → (update_of signals true telegram).signals ≡ missed_by signals
  refused-misses number a = ap (λ (u : Updating). u.signals) (update-refused signals telegram (train_reading telegram) refl number ((told (train_reading telegram).verdict refl).0 number a))

  -- S-19: an accepted one gives the states that it says, and sets the count to 0
  pub accepted-says : noted ≡ acceptance → (update_of signals true telegram).signals ≡ signals_with (states_of telegram) 0
  accepted-says a =
      let v : (train_reading telegram).verdict ≡ verdict_accepted = (told (train_reading telegram).verdict refl).1 a in
      ap (λ (u : Updating). u.signals) (update-accepted signals telegram (train_reading telegram) refl v) ∙ ap (λ (states : States). signals_with states 0) (accepted-states telegram v)

  -- M-2c, M-2e, S-12: each signal then has the state of the code in its own bits and no other: no invalid code shows as a valid state,
  -- an invalid signal leaves its neighbours alone, and nothing of the record before is left
  pub accepted-shows : noted ≡ acceptance → Shows (update_of signals true telegram).signals.states telegram
  accepted-shows a = subst (λ (s : Signals). Shows s.states telegram) (sym (accepted-says a)) (states-show telegram)

  -- S-14: a call with no telegram is a miss and no refusal, whatever bytes are lent with it
  pub absent-misses : ◌≡◌ {A = Updating} (update_of signals false telegram) (record { noted = absence; signals = missed_by signals })
  absent-misses = update-missed signals telegram

-- S-12: no earlier value is shown, of no signal
pub nothing_earlier : (one other : Signals) (telegram : List ℕ) → (update_of one true telegram).noted ≡ acceptance → (update_of one true telegram).signals ≡ (update_of other true telegram).signals
nothing_earlier one other telegram a = accepted-says one telegram a ∙ sym (accepted-says other telegram ((accepted-exactly other telegram).1 ((accepted-exactly one telegram).0 a)))

-- S-14: an empty telegram is refused 10
pub empty-refused : (signals : Signals) → (update_of signals true []).noted ≡ refusal_under 10
unfolding train_rows
empty-refused signals = (refused-exactly signals [] 10).1 (inl (refl, refl))
