-- The record over many calls, the newest first, and what the last paragraph of "Signals from the train" says of them.
use Rattle.std.specs.Prelude.{ℕ, ◌+◌, min, Bool, true, false, ◌&&◌, not, cond, List, [], ◌∷◌, ◌⊎◌, ◌≡◌, eqb, ltb}
use Rattle.train_codes.specs.Refusals.{train_refusal}
use Rattle.train_telegram.specs.States.{states_of, silent}
use Rattle.train_telegram.specs.declared.states.States.{States}
use Rattle.signals.specs.Signals.{signals_with}
use Rattle.signals.specs.declared.Signals.{Signals}

-- a call: whether it has a telegram, and the telegram's bytes
abbrev pub Call : Type 0
Call = Bool × List ℕ

-- S-13: a call with no telegram, or with a refused one, is a miss
abbrev pub is_miss : Call → Bool
is_miss (present, telegram) = not (present && eqb (train_refusal telegram) 0)

-- S-15: how many misses in a row the calls end with
unfoldable pub misses_in : List Call → ℕ
misses_in [] = 0
misses_in (call ∷ earlier) = cond (is_miss call) (misses_in earlier + 1) 0

-- S-12, S-17: the states that the last accepted telegram said, and before any, silence
unfoldable pub last_said : List Call → States
last_said [] = silent
last_said ((present, telegram) ∷ earlier) = cond (is_miss (present, telegram)) (last_said earlier) (states_of telegram)

-- S-15 to S-19: what stands after the calls: up to two misses in a row the last states, from the third on silence; the count stops at 3
unfoldable pub standing : List Call → Signals
standing calls = signals_with (cond (ltb (misses_in calls) 3) (last_said calls) silent) (min 3 (misses_in calls))

-- S-12: the last telegram that was accepted is this one
abbrev pub LastAccepted : List Call → List ℕ → Type 0
LastAccepted [] t = ⊥
LastAccepted ((present, telegram) ∷ earlier) t =
    ((is_miss (present, telegram) ≡ true) × LastAccepted earlier t) ⊎ ((is_miss (present, telegram) ≡ false) × (telegram ≡ t))
