-- What holds of the empty slot and of every slot that telegrams bring holds of every slot of the picture and of the set in hand.
use Prim.Native.Nat.{ℕ}
use mathlib.Core.Path.{sym, subst}
use mathlib.Core.List.{List, [], ◌∷◌}
use lib.Dec.{eqb}
use lib.ListN.{replicate}
use Rattle.kit.proofs.Cases.{on}
use Rattle.kit.proofs.Maps.{replicate-at}
use Rattle.kit.proofs.Stores.{sets-each}
use Rattle.condition.specs.Slots.{empty_slot, slot_count}
use Rattle.condition.specs.declared.slots.Slot.{Slot}
use Rattle.wire.specs.Verdicts.{Verdict, verdict_accepted, verdict_refused}
use Rattle.telegram.specs.Sendable.{slot_on}
use Rattle.telegram.specs.Tables.{table_slot, first_slot}
use Rattle.telegram.specs.Telegrams.{Reading, read_of}
use Rattle.telegram.specs.declared.Telegram.{Telegram}
use Rattle.hand.specs.Sets.{begun, set_for, joined}
use Rattle.listener.specs.Listeners.{fresh_listener, taken_by, heard_of, after_reading, hear_of, heard_all}
use Rattle.listener.specs.declared.Listener.{Listener}
use Rattle.hand.specs.declared.Hand.{Hand}
use Rattle.listener.proofs.Promises.{ways}

-- every slot of a table
abbrev pub AllOf : (Slot → Type 0) → List Slot → Type 0
AllOf P table = (i : ℕ) → P (table_slot table i)

-- every slot that a telegram brings
abbrev pub AllOn : (Slot → Type 0) → Telegram → Type 0
AllOn P t = (k : ℕ) → P (slot_on t k)

-- every slot of the picture and of the set in hand
pub record Every (P : Slot → Type 0) (listener : Listener) : Type 0 where
  pub picture : AllOf P listener.picture
  pub hand : AllOf P listener.hand.slots

module _ (P : Slot → Type 0) (empty : P empty_slot) where
  none_every : AllOf P (replicate slot_count empty_slot)
  none_every i = subst P (sym (replicate-at slot_count i empty_slot)) empty

  begun_every : (step : ℕ) → AllOf P (begun step).slots
  unfolding begun
  begun_every step = none_every

  set_every : (hand : Hand) (step : ℕ) → AllOf P hand.slots → AllOf P (set_for hand step).slots
  unfolding set_for
  set_every hand step h = on (eqb hand.step step) (λ e. rw e h) (λ e. rw e (begun_every step))

  joined_every : (hand : Hand) (t : Telegram) → AllOf P hand.slots → AllOn P t → AllOf P (joined hand t).slots
  unfolding joined
  joined_every hand t h own = sets-each empty_slot P t.slots hand.slots (first_slot t.packet) (λ k p. own k) h

  -- A-20: a fresh listener
  pub fresh_every : Every P fresh_listener
  unfolding fresh_listener
  fresh_every = record { picture = none_every; hand = begun_every 0 }

  module _ (reach : ℕ) where
    heard_every : (listener : Listener) (t : Telegram) → Every P listener → AllOn P t → Every P (heard_of reach listener t).listener
    unfolding taken_by
    heard_every listener t s own =
        let more : AllOf P (joined (set_for listener.hand t.step) t).slots =
        joined_every (set_for listener.hand t.step) t (set_every listener.hand t.step s.hand) own in
        ways reach listener t (λ h number. Every P h.listener) s (record { picture = s.picture; hand = more }) (record { picture = s.picture; hand = begun_every 0 })
        (record { picture = more; hand = begun_every 0 })

    after_every : (listener : Listener) (t : Telegram) (verdict : Verdict) → Every P listener → AllOn P t → Every P (after_reading verdict reach listener t).listener
    after_every listener t verdict_accepted s own = heard_every listener t s own
    after_every listener t (verdict_refused number) s own = s

    -- one telegram
    pub hear_every : (listener : Listener) (reading : Reading) → Every P listener → AllOn P reading.telegram → Every P (hear_of reach listener reading).listener
    unfolding hear_of
    hear_every listener reading = after_every listener reading.telegram reading.verdict

    -- whatever was heard, where it holds of all that can be read
    pub all_every : ((bytes : List ℕ) → AllOn P (read_of bytes).telegram) → (telegrams : List (List ℕ)) → Every P (heard_all reach telegrams)
    unfolding heard_all
    all_every own [] = fresh_every
    all_every own (bytes ∷ earlier) = hear_every (heard_all reach earlier) (read_of bytes) (all_every own earlier) (own bytes)
