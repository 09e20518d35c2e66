-- A ladder of refusals: rows of a test and an answer, read from the top. The first row whose test holds gives its answer.
--
-- Every list of refusals in document 01 is such a ladder, in the document's own order. Where the document says "the first bad
-- slot, within it 12, 13, 6, 14", the rows of the first slot stand above those of the second, and so on: `each` of `Each.antt`.
use Rattle.std.specs.Prelude.{ℕ, ◌≤◌, ◌≡◌, ◌⊎◌, Bool, true, false, cond, List, [], ◌∷◌, eqb}

module _ {A : Type 0} where
  -- the answer of the first row that holds, or `other` where none does
  unfoldable pub ladder : A → List (Bool × A) → A
  ladder other [] = other
  ladder other ((holds, answer) ∷ below) = cond holds answer (ladder other below)

  -- a row with this answer holds, and no row above it does
  abbrev pub Decides : List (Bool × A) → A → Type 0
  Decides [] answer = ⊥
  Decides ((holds, own) ∷ below) answer = ((holds ≡ true) × (own ≡ answer)) ⊎ ((holds ≡ false) × Decides below answer)

  -- no row holds
  abbrev pub NoneHolds : List (Bool × A) → Type 0
  NoneHolds [] = Unit
  NoneHolds ((holds, own) ∷ below) = (holds ≡ false) × NoneHolds below

-- the answer of one ladder of numbers above another: the upper one's, or where that is 0 the lower one's
unfoldable pub above : ℕ → ℕ → ℕ
above upper lower = cond (eqb upper 0) lower upper

-- each row's number is such
abbrev pub Numbers : (ℕ → Type 0) → List (Bool × ℕ) → Type 0
Numbers Such [] = Unit
Numbers Such ((holds, number) ∷ below) = Such number × Numbers Such below

-- a ladder whose answers are numbers from 1 on, so that 0 is free to say that no row holds
abbrev pub Numbered : List (Bool × ℕ) → Type 0
Numbered = Numbers (λ number. 1 ≤ number)
