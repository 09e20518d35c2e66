-- The step number of the set in hand is below 8,192, after any pieces.
use Prim.Native.Nat.{ℕ, ◌<◌}
use mathlib.Core.List.{List, [], ◌∷◌}
use native.Mathlib.Omega.{arith}
use Rattle.wire.specs.Steps.{steps}
use Rattle.wire.specs.Verdicts.{Verdict, verdict_accepted, verdict_refused}
use Rattle.telegram.specs.Telegrams.{read_of}
use Rattle.telegram.specs.declared.Telegram.{Telegram}
use Rattle.hand.specs.Sets.{begun, joined}
use Rattle.listener.specs.Listeners.{carries, fresh_listener, taken_by, after_reading, heard_of, hear_of}
use Rattle.listener.specs.declared.Listener.{Listener}
use Rattle.listener.proofs.Promises.{ways}
use Rattle.lister.specs.Hearings.{telegrams_in, heard_by, listener_through}
use Rattle.lister.specs.Pieces.{begun_lister, after_kept, keeping, take_of, MadeByPieces, made_begun, taken_piece}
use Rattle.lister.specs.declared.Lister.{Lister}
use Rattle.listing_room.proofs.Sizes.{step_small, set-step}

abbrev Below : Listener → Type 0
Below listener = listener.hand.step < steps

module _ (listener : Listener) (below : Below listener) where
  heard-below : (t : Telegram) → t.step < steps → Below (heard_of carries listener t).listener
  unfolding joined begun taken_by
  heard-below t own =
      ways carries listener t (λ h number. Below h.listener) below (omega (arith, set-step listener.hand t.step)) (omega arith) (omega arith)

  after-below : (verdict : Verdict) (t : Telegram) → t.step < steps → Below (after_reading verdict carries listener t).listener
  after-below verdict_accepted t own = heard-below t own
  after-below (verdict_refused number) t own = below

  next-below : (telegram : List ℕ) → Below (heard_by listener telegram).listener
  unfolding hear_of
  next-below telegram = after-below (read_of telegram).verdict (read_of telegram).telegram (step_small telegram)

through_below : (listener : Listener) → Below listener → (telegrams : List (List ℕ)) → Below (listener_through listener telegrams)
unfolding listener_through
through_below listener below [] = below
through_below listener below (telegram ∷ more) = through_below (heard_by listener telegram).listener (next-below listener below telegram) more

pub made-below : {lister : Lister} → MadeByPieces lister → lister.listener.hand.step < steps
unfolding begun_lister fresh_listener begun take_of keeping
made-below made_begun = omega arith
made-below (taken_piece {lister} m piece) = through_below lister.listener (made-below m) (telegrams_in (after_kept lister piece))
