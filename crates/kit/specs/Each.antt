-- One list for each of several things, one after another.
use Rattle.std.specs.Prelude.{ℕ, zero, suc, ◌+◌, List, [], ◌++◌}

-- what `of` gives for thing k, then for thing k + 1, and so on: n things
unfoldable pub each : {A : Type 0} → (ℕ → List A) → ℕ → ℕ → List A
each of k zero = []
each of k (suc n) = of k ++ each of (k + 1) n
