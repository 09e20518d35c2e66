-- The states that a telegram says show it, signal by signal (M-2c, M-2e, S-12).
use Prim.Native.Nat.{ℕ, ◌%◌, ◌<◌}
use mathlib.Core.List.{List}
use mathlib.Core.Logic.{◌↔◌}
use mathlib.Core.Path.{◌≡◌, sym, subst}
use lib.ListN.{length, get_or}
use Rattle.kit.specs.Bytes.{bit, word_at, long_at}
use Rattle.kit.proofs.Each.{length-one-each, one-each_at}
use Rattle.train_codes.specs.Codes.{isolation_of}
use Rattle.train_codes.specs.Origins.{IsolationCode}
use Rattle.train_codes.specs.declared.Isolation.{Isolation}
use Rattle.train_codes.proofs.Origins.{cab-exactly, brake-exactly, isolation-exactly, traction-exactly}
use Rattle.train_telegram.specs.Readings.{Shows}
use Rattle.train_telegram.specs.States.{national_of, states_of}

-- ---- the sixteen systems

-- S-05, S-06: system i + 1 is by bit i of both words
module _ (isolated inverse : ℕ) where
  pub national-long : length (national_of isolated inverse) ≡ 16
  unfolding national_of
  national-long = length-one-each _ 16

  pub national-at : (other : Isolation) (i : ℕ) → i < 16 → get_or (national_of isolated inverse) i other ≡ isolation_of (bit i isolated) (bit i inverse)
  unfolding national_of
  national-at other i p = one-each_at (λ j. isolation_of (bit j isolated) (bit j inverse)) 16 other i p

-- ---- the telegram

-- M-2c, M-2e, S-12: the states that a telegram says are those of its codes
pub states-show : (t : List ℕ) → Shows (states_of t) t
unfolding states_of
states-show t =
    record {
      cab = cab-exactly (bit 1 (get_or t 1 0)) (bit 0 (get_or t 1 0));
      brake = brake-exactly (get_or t 2 0 % 8);
      national = λ other i p state.
          subst (λ (system : Isolation). (system ≡ state) ↔ IsolationCode state (bit i (word_at t 3)) (bit i (word_at t 5))) (sym (national-at (word_at t 3) (word_at t 5) other i p))
          (isolation-exactly (bit i (word_at t 3)) (bit i (word_at t 5)) state);
      traction = traction-exactly (long_at t 7);
    }
