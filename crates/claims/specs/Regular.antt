-- Heard sequences without loss inside a table: the five packets of some steps, and nothing of the steps between. With them the page of
-- demand 3 says that its premises can be met, whatever the steps, as long as they are at most 8,191 apart (`met`); so what it claims is
-- claimed of something.
use Rattle.std.specs.Prelude.{ℕ, ◌+◌, ◌<◌, ◌≤◌, List, [], ◌∷◌}
use Rattle.claims.specs.Hearings.{Item, sent, farthest}

-- the five packets of step n, heard after all this
abbrev pub five_of : {Message : Type 0} → ℕ → List (Item Message) → List (Item Message)
five_of n earlier = sent n 7 ∷ sent n 6 ∷ sent n 5 ∷ sent n 4 ∷ sent n 3 ∷ earlier

-- those of these steps, the newest first
unfoldable pub wholly : (Message : Type 0) → List ℕ → List (Item Message)
wholly Message [] = []
wholly Message (n ∷ before) = five_of n (wholly Message before)

-- steps up to a last one, each at most 8,191 after the one before it
abbrev pub Spaced : ℕ → List ℕ → Type 0
Spaced most [] = Unit
Spaced most (n ∷ []) = n ≤ most
Spaced most (n ∷ m ∷ before) = (n ≤ most) × (m < n) × (n ≤ m + farthest) × Spaced most (m ∷ before)
