-- How far a reading is.
use Rattle.std.specs.Prelude.{ℕ, ◌+◌, ◌%◌, min, Bool, ◌&&◌, List, ◌++◌, eqb}
use Rattle.kit.specs.Text.{ascii}
use Rattle.text.specs.Decimals.{decimal}
use Rattle.outcomes.specs.declared.progress.Progress.{Progress}

-- a count of bytes stays at the greatest number that it can hold
abbrev pub most_counted : ℕ
most_counted = 0xFFFFFFFFFFFFFFFF

-- the line is written at every so many reads
abbrev pub reads_between : ℕ
reads_between = 128

-- before any read
abbrev pub progress_of : Bool → ℕ → Progress
progress_of shown size = record { shown = shown; size = size; done = 0; reads = 0 }

-- after a read of so many bytes
abbrev pub advanced_by : Progress → ℕ → Progress
advanced_by progress count =
    record {
      shown = progress.shown;
      size = progress.size;
      done = min (progress.done + count) most_counted;
      reads = (progress.reads % reads_between + 1) % reads_between;
    }

-- the line is written now
abbrev pub is_due : Progress → Bool
is_due progress = progress.shown && eqb progress.reads 0

-- the line, and a return to its beginning, so that what is written next stands in its place
unfoldable pub progress_line : Progress → List ℕ
progress_line progress = decimal progress.done ++ (ascii " of " ++ (decimal progress.size ++ ascii " bytes\r"))
