-- Bytes put one after another into a lent buffer. Telegrams, lines of text and programs' outputs are all written so.
use Rattle.std.specs.Prelude.{ℕ, ◌+◌, min, ◌≡◌, List, length}
use Rattle.std.proofs.lemmas.List.Edits.{sets}

-- `bytes` were put into `before` from index `at` on, which made it `after`; `next` is the place past them
pub record Put (before : List ℕ) (at : ℕ) (bytes after : List ℕ) (next : ℕ) : Type 0 where
  pub stored : after ≡ sets before at bytes
  pub past : next ≡ at + length bytes

-- the same of as many of the bytes as have room before the buffer's end; the others are dropped, and `next` is then the end
pub record Poured (before : List ℕ) (at : ℕ) (bytes after : List ℕ) (next : ℕ) : Type 0 where
  pub stored : after ≡ sets before at bytes
  pub past : next ≡ min (at + length bytes) (length before)
