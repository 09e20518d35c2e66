-- A sheet: a lent buffer and the place in it where the next byte goes. Lines of text are put on it one after another.
use Rattle.std.specs.Prelude.{ℕ, ◌+◌, min, max, List, length}
use Rattle.std.proofs.lemmas.List.Edits.{sets}
use Rattle.text.specs.declared.sheets.Sheet.{Sheet}

-- the same sheet with other bytes in the buffer and another place
abbrev pub sheet_with : List ℕ → ℕ → Sheet → Sheet
sheet_with bytes at sheet =
    record {
      buffer = record { ref_ptr = sheet.buffer.ref_ptr; ghost_name = sheet.buffer.ghost_name; now = bytes };
      at = at;
    }

-- bytes put on a sheet, from its place on: as many of them as have room before the buffer's end, the others are dropped, and the place is
-- then past what was put. A place past the end stays where it is.
unfoldable pub put_on : List ℕ → Sheet → Sheet
put_on bytes sheet =
    sheet_with (sets sheet.buffer.now sheet.at bytes) (max sheet.at (min (sheet.at + length bytes) (length sheet.buffer.now))) sheet
