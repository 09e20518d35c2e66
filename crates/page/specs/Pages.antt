-- Text on a page: a lent array with some bytes put at its start. What stands past the place reached has no meaning, so a function that puts
-- bytes may store more than it puts.
use Rattle.std.specs.Prelude.{ℕ, ◌+◌, ◌≤◌, ◌≡◌, cond, List, ◌++◌, leb, length, take}
use Rattle.std.proofs.lemmas.List.Edits.{sets}
use Rattle.text.specs.Putting.{sheet_with}
use Rattle.text.specs.declared.sheets.Sheet.{Sheet}

-- `bytes`, which are never more than `most`, were put on the page `before` from index `at` on, which made it `after`; `next` is the place
-- past them. Below `next` the page holds what stood below `at`, and then the bytes.
pub record Paged (most : ℕ) (before : List ℕ) (at : ℕ) (bytes after : List ℕ) (next : ℕ) : Type 0 where
  pub held : take next after ≡ take at before ++ bytes
  pub past : next ≡ at + length bytes
  pub within : next ≤ at + most

-- Where `width` bytes have room from `at` on, `stored` was stored there, and `bytes`, its first ones, were put by that; where not, nothing
-- was, and `next` is `at`.
pub record Laid (width most : ℕ) (before : List ℕ) (at : ℕ) (bytes stored after : List ℕ) (next : ℕ) : Type 0 where
  pub exact : after ≡ cond (leb (at + width) (length before)) (sets before at stored) before
  pub place : next ≡ cond (leb (at + width) (length before)) (at + length bytes) at
  pub paged : at + width ≤ length before → Paged most before at bytes after next

-- The same of a sheet, the page with the place on it: `after` is the sheet `before` with as many other bytes and another place.

-- so many bytes have room on it
abbrev pub room_for : ℕ → Sheet → Type 0
room_for width sheet = sheet.at + width ≤ length sheet.buffer.now

pub record PagedOn (most : ℕ) (bytes : List ℕ) (before after : Sheet) : Type 0 where
  pub same : after ≡ sheet_with after.buffer.now after.at before
  pub long : length after.buffer.now ≡ length before.buffer.now
  pub paged : Paged most before.buffer.now before.at bytes after.buffer.now after.at

pub record LaidOn (width most : ℕ) (bytes stored : List ℕ) (before after : Sheet) : Type 0 where
  pub same : after ≡ sheet_with after.buffer.now after.at before
  pub long : length after.buffer.now ≡ length before.buffer.now
  pub laid : Laid width most before.buffer.now before.at bytes stored after.buffer.now after.at
