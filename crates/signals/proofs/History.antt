-- The record over any number of calls: what stands is what the last accepted telegram said, for up to two misses in a row.
use Prim.Native.Nat.{ℕ, ◌+◌, ◌<◌, ◌≤◌, min}
use mathlib.Core.Bool.{Bool, true, false, cond}
use mathlib.Core.List.{List, [], ◌∷◌}
use mathlib.Core.Logic.{◌⊎◌, inl, inr}
use mathlib.Core.Path.{◌≡◌, refl, sym, ap, ◌∙◌, subst}
use lib.Dec.{eqb, ltb}
use native.Mathlib.Omega.{arith}
use borrow.Author.Tests.{eqb-true, eqb-false, ltb-true, ltb-false, lt-ltb, le-ltb}
use Rattle.kit.proofs.Cases.{on, clash}
use Rattle.train_codes.specs.Refusals.{train_refusal}
use Rattle.train_telegram.specs.Readings.{train_reading, Shows, TrainReading}
use Rattle.train_telegram.specs.States.{states_of, silent}
use Rattle.train_telegram.specs.declared.states.States.{States}
use Rattle.train_telegram.proofs.Showing.{states-show}
use Rattle.train_telegram.proofs.Refusals.{read_refused, read-accepted}
use Rattle.signals.specs.Answers.{Updating}
use Rattle.signals.specs.Signals.{signals_with, fresh_signals, missed_by, update_of}
use Rattle.signals.specs.Histories.{Call, is_miss, misses_in, last_said, standing, LastAccepted}
use Rattle.signals.specs.declared.Signals.{Signals}
use Rattle.signals.proofs.Missing.{missed-keeps, missed_silences}
use Rattle.signals.proofs.Updating.{update-missed, update-refused, update-accepted}

-- the record that these calls have made of a fresh one
unfoldable pub updated_all : List Call → Signals
updated_all [] = fresh_signals
updated_all ((present, telegram) ∷ earlier) = (update_of (updated_all earlier) present telegram).signals

-- a call that is a miss, and one that is not
miss_misses : (signals : Signals) (present : Bool) (telegram : List ℕ) → is_miss (present, telegram) ≡ true → (update_of signals present telegram).signals ≡ missed_by signals
miss_misses signals false telegram e = ap (λ (u : Updating). u.signals) (update-missed signals telegram)
miss_misses signals true telegram e =
    on (eqb (train_refusal telegram) 0)
    (λ z. absurd (clash e (rw z refl)))
    (λ z.
    let number : ℕ = train_refusal telegram in
    let r : (train_reading telegram).verdict ≡ _ = ap (λ (x : TrainReading). x.verdict) (read_refused telegram number refl (eqb-false number 0 z)) in
    ap (λ (u : Updating). u.signals) (update-refused signals telegram (train_reading telegram) refl number r))

hit_says : (signals : Signals) (present : Bool) (telegram : List ℕ) → is_miss (present, telegram) ≡ false → (update_of signals present telegram).signals ≡ signals_with (states_of telegram) 0
hit_says signals false telegram e = absurd (clash refl e)
hit_says signals true telegram e =
    on (eqb (train_refusal telegram) 0)
    (λ z.
    let r = read-accepted telegram (train_refusal telegram) refl (eqb-true (train_refusal telegram) 0 z) in
    ap (λ (u : Updating). u.signals) (update-accepted signals telegram (train_reading telegram) refl (ap (λ (x : TrainReading). x.verdict) r))
    ∙ ap (λ (x : TrainReading). signals_with x.states 0) r)
    (λ z. absurd (clash (rw z refl) e))

-- one miss more
one_more : (states : States) (misses : ℕ) → missed_by (signals_with (cond (ltb misses 3) states silent) (min 3 misses)) ≡ signals_with (cond (ltb (misses + 1) 3) states silent) (min 3 (misses + 1))
one_more states misses =
    on (ltb misses 2)
    (λ e.
    let few : misses < 2 = ltb-true misses 2 e in
    let count : min 3 misses ≡ misses = omega arith in
    let next : min 3 (misses + 1) ≡ misses + 1 = omega arith in
    rw (count, next, lt-ltb misses 3 (omega arith), lt-ltb (misses + 1) 3 (omega arith)) (missed-keeps (signals_with states misses) few))
    (λ e.
    let many : 2 ≤ misses = omega (arith, ltb-false misses 2 e) in
    let next : min 3 (misses + 1) ≡ 3 = omega arith in
    rw (next, le-ltb (misses + 1) 3 (omega arith)) (missed_silences (signals_with (cond (ltb misses 3) states silent) (min 3 misses)) (omega arith)))

-- S-12 to S-20: whatever the calls, the record is what stands
pub record_stands : (calls : List Call) → updated_all calls ≡ standing calls
unfolding updated_all standing misses_in last_said fresh_signals
record_stands [] = refl
record_stands ((present, telegram) ∷ earlier) =
    on (is_miss (present, telegram))
    (λ e. rw e (miss_misses (updated_all earlier) present telegram e ∙ (ap missed_by (record_stands earlier) ∙ one_more (last_said earlier) (misses_in earlier))))
    (λ e. rw e (hit_says (updated_all earlier) present telegram e))

-- ---- nothing but what was said

abbrev Said : List Call → States → Type 0
Said calls states = (states ≡ silent) ⊎ ((t : List ℕ) × LastAccepted calls t × (states ≡ states_of t))

said-from : (calls : List Call) → Said calls (last_said calls)
unfolding last_said
said-from [] = inl refl
said-from ((present, telegram) ∷ earlier) =
    on (is_miss (present, telegram))
    (λ e. further e (rw e refl) (said-from earlier))
    (λ e. inr (telegram, inr (e, refl), rw e refl))
  where
    further : is_miss (present, telegram) ≡ true → last_said ((present, telegram) ∷ earlier) ≡ last_said earlier → Said earlier (last_said earlier)
        → Said ((present, telegram) ∷ earlier) (last_said ((present, telegram) ∷ earlier))
    further e same (inl quiet) = inl (same ∙ quiet)
    further e same (inr (t, last, said)) = inr (t, inl (e, last), same ∙ said)

-- M-2e, S-12: however long the service, the signals are silent, or they show the last telegram that was accepted: each has the state of
-- the code in its own bits and no other
pub shown-from : (calls : List Call) → ((updated_all calls).states ≡ silent) ⊎ ((t : List ℕ) × LastAccepted calls t × Shows (updated_all calls).states t)
unfolding standing
shown-from calls =
    on (ltb (misses_in calls) 3)
    (λ e. few (ap (λ (s : Signals). s.states) (record_stands calls) ∙ rw e refl) (said-from calls))
    (λ e. inl (ap (λ (s : Signals). s.states) (record_stands calls) ∙ rw e refl))
  where
    few : (updated_all calls).states ≡ last_said calls → Said calls (last_said calls)
        → ((updated_all calls).states ≡ silent) ⊎ ((t : List ℕ) × LastAccepted calls t × Shows (updated_all calls).states t)
    few now (inl quiet) = inl (now ∙ quiet)
    few now (inr (t, last, same)) = inr (t, last, subst (λ (states : States). Shows states t) (sym (now ∙ same)) (states-show t))
