-- `on_page`: the page in the code is that of the definitions, row for row. So far it has shown whether the type has a row, and no row that
-- has the word.
use Prim.Native.Nat.{ℕ, ◌≤◌}
use mathlib.Core.Bool.{Bool, false}
use mathlib.Core.Path.{◌≡◌}
use Rattle.kit.specs.Loops.{any}
use Rattle.kinds.specs.SecondWords.{is_of, has_word, row_at}
use Rattle.kinds.specs.declared.second_words.Row.{Row}
use Rattle.kinds.proofs.second_words.on_page.Given as goal

-- whether one of the first n rows is such
abbrev pub among : (Row → Bool) → ℕ → Bool
among such n = any (λ i. such (row_at i)) 0 n

abbrev pub invariant-loop-row : goal.invariant-loop-row
invariant-loop-row l = (l.row-index ≤ 10) × (l.known ≡ among (is_of l.kind) l.row-index) × (among (has_word l.kind l.word) l.row-index ≡ false)
