-- The ways through hearing, one law each: what is refused, the two repeats, a telegram that is held, a set that clashes and a table
-- that is taken.
use Prim.Native.Nat.{ℕ}
use mathlib.Core.Logic.{inl, inr}
use mathlib.Core.Path.{◌≡◌, refl, ap}
use mathlib.Core.Bool.{true, false, not}
use lib.ListN.{replicate}
use Rattle.telegram.specs.Telegrams.{Reading}
use Rattle.kit.proofs.Ladder.{ladder_decides, ladder-silent}
use Rattle.kit.proofs.Maps.{replicate-at}
use Rattle.condition.specs.Slots.{slot_count, empty_slot}
use Rattle.wire.specs.Verdicts.{verdict_accepted, verdict_refused}
use Rattle.telegram.specs.declared.Telegram.{Telegram}
use Rattle.picture.specs.Pictures.{clashes}
use Rattle.marks.specs.Marks.{marks_of}
use Rattle.hand.specs.Sets.{begun, set_for, is_held, joined, is_whole}
use Rattle.last_step.specs.LastSteps.{gap_from, is_last}
use Rattle.listener.specs.Answers.{refused_as, as_repeat, as_held}
use Rattle.listener.specs.Listeners.{fresh_listener, mark_at, holding, taken_by, told_of_table, heard_of, after_reading, hear_of}
use Rattle.std.specs.Prelude.{None, Some}
use Rattle.listener.specs.declared.Listener.{Listener}
use Rattle.hand.specs.declared.Hand.{Hand}

module _ (reach : ℕ) (listener : Listener) where
  -- R-20, L-11: what the reader refuses is refused under its number and changes nothing
  pub hear-refused : (reading : Reading) (number : ℕ) → reading.verdict ≡ verdict_refused number → hear_of reach listener reading ≡ record { told = refused_as number; listener = listener }
  unfolding hear_of
  hear-refused reading number e = ap (λ v. after_reading v reach listener reading.telegram) e

  -- what it accepts is heard
  pub hear_as : (reading : Reading) → reading.verdict ≡ verdict_accepted → hear_of reach listener reading ≡ heard_of reach listener reading.telegram
  unfolding hear_of
  hear_as reading e = ap (λ v. after_reading v reach listener reading.telegram) e

  module _ (t : Telegram) where
    abbrev set : Hand
    set = set_for listener.hand t.step

    abbrev with_it : Hand
    with_it = joined set t

    -- L-01
    pub heard-last : is_last listener.last t.step ≡ true → heard_of reach listener t ≡ record { told = as_repeat; listener = listener }
    unfolding heard_of
    heard-last a = ladder_decides _ _ _ (inl (a, refl))

    module _ (a : is_last listener.last t.step ≡ false) where
      -- L-02
      pub heard_copy : is_held set t.packet ≡ true → heard_of reach listener t ≡ record { told = as_repeat; listener = listener }
      unfolding heard_of
      heard_copy b = ladder_decides _ _ _ (inr (a, inl (b, refl)))

      module _ (b : is_held set t.packet ≡ false) where
        -- L-03
        pub heard-part : is_whole with_it ≡ false → heard_of reach listener t ≡ record { told = as_held; listener = holding listener with_it }
        unfolding heard_of
        heard-part c = ladder_decides _ _ _ (inr (a, inr (b, inl (ap not c, refl))))

        -- L-09, L-10
        pub heard-clash : is_whole with_it ≡ true → clashes with_it.slots ≡ true
            → heard_of reach listener t ≡ record { told = refused_as 15; listener = holding listener (begun 0) }
        unfolding heard_of
        heard-clash c d = ladder_decides _ _ _ (inr (a, inr (b, inr (ap not c, inl (d, refl)))))

        -- L-04
        pub heard-taken : is_whole with_it ≡ true → clashes with_it.slots ≡ false
            → heard_of reach listener t ≡ record { told = told_of_table listener with_it; listener = taken_by reach listener with_it }
        unfolding heard_of
        heard-taken c d = ladder-silent _ _ (a, (b, (ap not c, (d, tt))))

-- A-20: a fresh listener: an empty picture with no mark, no step taken, no set in hand
pub fresh-picture : fresh_listener.picture ≡ replicate slot_count empty_slot
unfolding fresh_listener
fresh-picture = refl

pub fresh-last : fresh_listener.last ≡ None
unfolding fresh_listener
fresh-last = refl

pub fresh-hand : fresh_listener.hand ≡ begun 0
unfolding fresh_listener
fresh-hand = refl

pub fresh_unmarked : (i : ℕ) → mark_at fresh_listener.marks i ≡ false
unfolding fresh_listener
fresh_unmarked i = replicate-at slot_count i false

-- L-04 to L-07: a listener that has taken a set
module _ (reach : ℕ) (listener : Listener) (set : Hand) where
  pub taken-picture : (taken_by reach listener set).picture ≡ set.slots
  unfolding taken_by
  taken-picture = refl

  pub taken-last : (taken_by reach listener set).last ≡ Some set.step
  unfolding taken_by
  taken-last = refl

  pub taken-marks : (taken_by reach listener set).marks ≡ marks_of reach (gap_from listener.last set.step) listener.picture set.slots
  unfolding taken_by
  taken-marks = refl

  pub taken-hand : (taken_by reach listener set).hand ≡ begun 0
  unfolding taken_by
  taken-hand = refl
