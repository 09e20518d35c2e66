-- Laws of a miss: the first two in a row keep the states, the third and later do not.
use Prim.Native.Nat.{◌+◌, ◌<◌, ◌≤◌, min}
use mathlib.Core.Path.{◌≡◌, refl}
use native.Mathlib.Omega.{arith}
use borrow.Author.Tests.{lt-ltb}
use Rattle.train_telegram.specs.States.{silent}
use Rattle.signals.specs.Signals.{signals_with, missed_by}
use Rattle.signals.specs.declared.Signals.{Signals}

module _ (signals : Signals) where
  -- S-15: the first two
  pub missed-keeps : signals.misses < 2 → missed_by signals ≡ signals_with signals.states (signals.misses + 1)
  unfolding missed_by
  missed-keeps few =
      let count : min 3 (signals.misses + 1) ≡ signals.misses + 1 = omega arith in
      rw (count, lt-ltb (signals.misses + 1) 3 (omega arith)) refl

  -- S-16, S-18: the third and later
  pub missed_silences : 2 ≤ signals.misses → missed_by signals ≡ signals_with silent 3
  unfolding missed_by
  missed_silences many =
      let count : min 3 (signals.misses + 1) ≡ 3 = omega arith in
      rw count refl
