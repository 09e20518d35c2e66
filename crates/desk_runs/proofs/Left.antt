-- The desk at the end of an input, by the size of its first list: that of what stands behind this list, or the desk as it is. And it is one that
-- a making and earlier calls gave.
use Prim.Native.Nat.{ℕ, ◌-◌, ◌≤◌}
use mathlib.Core.Path.{◌≡◌, refl}
use mathlib.Core.List.{List, [], ◌∷◌}
use lib.ListN.{length, take, drop}
use Rattle.frames.specs.Frames.{no_bare, whole_size}
use Rattle.frames.proofs.Splitting.{calls_more, calls_none, calls_end}
use Rattle.desk.specs.Desks.{base_rest, accept_of, Made, made_fresh, called}
use Rattle.desk.specs.declared.Desk.{Desk}
use Rattle.desk_runs.specs.Runs.{lists_of, desk_from, desk_at_end}

module _ (desk : Desk) (input : List ℕ) where
  module _ (size : ℕ) (sized : size ≡ whole_size no_bare input) where
    pub left-more : 1 ≤ size → desk_from desk (lists_of input) ≡ desk_from (accept_of base_rest desk (take (size - 2) (drop 2 input))).desk (lists_of (drop size input))
    unfolding desk_from lists_of
    left-more some = rw (calls_more no_bare input size sized some) refl

    pub left-none : size ≡ 0 → desk_from desk (lists_of input) ≡ desk
    unfolding desk_from lists_of
    left-none none = rw (calls_none no_bare input size sized none) refl

  pub left_end : length input ≡ 0 → desk_from desk (lists_of input) ≡ desk
  unfolding desk_from lists_of
  left_end end = rw (calls_end no_bare input end) refl

made-from : {desk : Desk} → Made desk → (lists : List (List ℕ)) → Made (desk_from desk lists)
unfolding desk_from
made-from m [] = m
made-from {desk = desk} m (list ∷ later) = made-from {desk = (accept_of base_rest desk list).desk} (called m list) later

-- so that a next list may be handed to it
pub made-at-end : (input : List ℕ) → Made (desk_at_end input)
unfolding desk_at_end
made-at-end input = made-from made_fresh (lists_of input)
