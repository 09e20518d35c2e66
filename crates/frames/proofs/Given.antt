-- The size of the call that the iterator is at, where it is known which length is bare.
use Prim.Native.Nat.{ℕ}
use mathlib.Core.Path.{◌≡◌, ap}
use Rattle.std.specs.Prelude.{Option}
use Rattle.frames.specs.Calls.{next_size}
use Rattle.frames.specs.Frames.{bare_in, whole_size}
use Rattle.frames.specs.declared.calls.Calls.{Calls}

pub size_where : {bare : Option ℕ} (calls : Calls) → calls.bare ≡ bare → next_size calls ≡ whole_size (bare_in bare) calls.rest.now
size_where calls e = ap (λ b. whole_size (bare_in b) calls.rest.now) e
