-- The step last taken in the lent memory of a listener.
use Rattle.std.specs.Prelude.{ℕ, ◌+◌, cond, Option, None, Some, List, [], ◌∷◌, eqb, get_or}
use Rattle.std.proofs.lemmas.List.Edits.{sets}
use Rattle.kit.specs.Bytes.{word_of_two, word_bytes}
use Rattle.memory.specs.Memory.{last_from}

-- the step that the memory means
unfoldable pub last_in : List ℕ → Option ℕ
last_in memory = cond (eqb (get_or memory last_from 0) 0) None (Some (word_of_two (get_or memory (last_from + 1) 0) (get_or memory (last_from + 2) 0)))

-- its bytes
abbrev pub last_bytes : Option ℕ → List ℕ
last_bytes None = 0 ∷ 0 ∷ 0 ∷ []
last_bytes (Some step) = 1 ∷ word_bytes step

-- the memory when this step is the one last taken
unfoldable pub with_last : List ℕ → ℕ → List ℕ
with_last memory step = sets memory last_from (1 ∷ word_bytes step)
