-- What the iterator over the calls of an input gives.
use Rattle.std.specs.Prelude.{ℕ, ◌-◌, ◌≤◌, ◌≡◌, [], length, take, drop, Option, None, Some, Result, Ok, Err}
use Rattle.kit.specs.Bytes.{word_at}
use Rattle.frames.specs.Frames.{bare_in, whole_size}
use Rattle.frames.specs.declared.calls.WholeCall.{WholeCall}
use Rattle.frames.specs.declared.calls.Calls.{Calls}
use Rattle.frames.specs.declared.calls.Short.{Short}

-- how many bytes the first call takes, and 0 where the input does not have it whole
abbrev pub next_size : Calls → ℕ
next_size calls = whole_size (bare_in calls.bare) calls.rest.now

-- this call was the first, and those behind it are left
pub record CallGiven (before : Calls) (call : WholeCall) (after : Calls) : Type 0 where
  pub whole : 1 ≤ next_size before
  pub announced : call.length ≡ word_at before.rest.now 0
  pub own : call.bytes.now ≡ take (next_size before - 2) (drop 2 before.rest.now)
  pub left : after.rest.now ≡ drop (next_size before) before.rest.now
  pub bare : after.bare ≡ before.bare

-- the input ends inside the first call, and nothing is left
pub record ShortGiven (before after : Calls) : Type 0 where
  pub some : 1 ≤ length before.rest.now
  pub part : next_size before ≡ 0
  pub left : after.rest.now ≡ []
  pub bare : after.bare ≡ before.bare

-- none is given only where nothing is left
abbrev pub GivesCall : Calls → Option (Result WholeCall Short) → Calls → Type 0
GivesCall before None after = (length before.rest.now ≡ 0) × (after ≡ before)
GivesCall before (Some (Err short)) after = ShortGiven before after
GivesCall before (Some (Ok call)) after = CallGiven before call after
