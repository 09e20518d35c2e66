-- An array that a loop fills, one element after another.
use Rattle.std.specs.Prelude.{ℕ, ◌<◌, ◌≡◌, List, length, get_or}

-- the first n elements of `so_far` are those of `target`, and it has as many in all
pub record Filled {A : Type 0} (other : A) (target : List A) (n : ℕ) (so_far : List A) : Type 0 where
  pub same : (j : ℕ) → j < n → get_or so_far j other ≡ get_or target j other
  pub long : length so_far ≡ length target
