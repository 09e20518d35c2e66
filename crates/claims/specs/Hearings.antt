-- What was heard, the newest first, and which tables were heard whole: read off the sequence alone, whatever the listener did.
use Rattle.std.specs.Prelude.{ℕ, ◌+◌, ◌≤◌, Bool, false, cond, not, ◌&&◌, ◌||◌, List, [], ◌∷◌, eqb}
use Rattle.kit.specs.Loops.{how_many}
use Rattle.telegram.specs.Tables.{packets, first_packet}

-- one telegram heard: packet p of the table of step n, as it was sent; or one that was spoilt on the way
pub data Item (Message : Type 0) : Type 0 where
  sent : ℕ → ℕ → Item Message
  spoilt : Message → Item Message

-- the newest of some steps, or another
abbrev pub newest_or : ℕ → List ℕ → ℕ
newest_or other [] = other
newest_or other (n ∷ earlier) = n

-- M-3: how far after that a telegram may come
abbrev pub farthest : ℕ
farthest = 8191

module _ {Message : Type 0} where
  -- packet p of step n was heard
  unfoldable pub was_heard : List (Item Message) → ℕ → ℕ → Bool
  was_heard [] n p = false
  was_heard (sent m q ∷ earlier) n p = eqb n m && eqb p q || was_heard earlier n p
  was_heard (spoilt message ∷ earlier) n p = was_heard earlier n p

  -- A-23: a table was heard whole: five of its packets were heard, 3 to 7
  unfoldable pub heard_whole : List (Item Message) → ℕ → Bool
  heard_whole heard n = eqb (how_many (λ k. was_heard heard n (first_packet + k)) packets) packets

  -- M-3a: the steps whose tables were heard whole, the newest first: a telegram adds its own where it completes that
  unfoldable pub wholes : List (Item Message) → List ℕ
  wholes [] = []
  wholes (sent n p ∷ earlier) = cond (heard_whole (sent n p ∷ earlier) n && not (heard_whole earlier n)) (n ∷ wholes earlier) (wholes earlier)
  wholes (spoilt message ∷ earlier) = wholes earlier

  -- M-3, A-24: the step of the first telegram heard; where none was, n
  abbrev pub first_or : ℕ → List (Item Message) → ℕ
  first_or n [] = n
  first_or n (sent m q ∷ earlier) = first_or m earlier
  first_or n (spoilt message ∷ earlier) = first_or n earlier

  -- M-3: step order kept: no telegram heard so far is of a step after n
  abbrev pub NoneAfter : ℕ → List (Item Message) → Type 0
  NoneAfter n [] = Unit
  NoneAfter n (sent m q ∷ earlier) = (m ≤ n) × NoneAfter n earlier
  NoneAfter n (spoilt message ∷ earlier) = NoneAfter n earlier

  -- M-3, A-24: at most 8,191 steps after the last table heard whole (before any, after the first telegram heard)
  abbrev pub Near : ℕ → List (Item Message) → Type 0
  Near n earlier = n ≤ newest_or (first_or n earlier) (wholes earlier) + farthest
