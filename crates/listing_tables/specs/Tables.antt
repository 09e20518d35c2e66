-- What a listing says of each telegram that was heard: document 01, "Listing program", the third and the sixth sentence.
use Rattle.std.specs.Prelude.{ℕ, Bool, List, [], ◌++◌}
use Rattle.kit.specs.Each.{each}
use Rattle.condition.specs.Slots.{slot_count}
use Rattle.condition.specs.declared.slots.Slot.{Slot}
use Rattle.telegram.specs.Tables.{table_slot}
use Rattle.listener.specs.Answers.{Outcome, a_refusal, a_repeat, a_part, a_table, Told, Hearing}
use Rattle.listener.specs.Listeners.{mark_at}
use Rattle.listing_lines.specs.Lines.{table_line, refused_line}
use Rattle.listing_entries.specs.Entries.{entry_line}

-- G-04: the line of slot i of a picture, with its mark
abbrev pub entry_at : List Slot → List Bool → ℕ → List ℕ
entry_at picture marks i = entry_line i (table_slot picture i) (mark_at marks i)

-- G-04: a line for each occupied slot, ascending
unfoldable pub picture_lines : List Slot → List Bool → List ℕ
picture_lines picture marks = each (entry_at picture marks) 0 slot_count

-- G-07: a refusal prints `refused N`; A-35: repeats and held telegrams print nothing
abbrev pub refusal_by : Outcome → Told → List ℕ
refusal_by a_refusal told = refused_line told.number
refusal_by a_repeat told = []
refusal_by a_part told = []
refusal_by a_table told = []

-- G-07: what is printed for a refusal, of what is told
abbrev pub refusal_lines : Told → List ℕ
refusal_lines told = refusal_by told.outcome told

-- G-03: for each table taken its line, then those of its slots
abbrev pub lines_by : Outcome → Told → List Slot → List Bool → List ℕ
lines_by a_refusal told picture marks = refusal_lines told
lines_by a_repeat told picture marks = refusal_lines told
lines_by a_part told picture marks = refusal_lines told
lines_by a_table told picture marks = table_line told.step told.conditions told.gap ++ picture_lines picture marks

-- G-03, G-07: what is printed, of what is told
abbrev pub answer_lines : Told → List Slot → List Bool → List ℕ
answer_lines told picture marks = lines_by told.outcome told picture marks

-- the same, with picture and marks of the listener beside it
unfoldable pub heard_lines : Hearing → List ℕ
heard_lines heard = answer_lines heard.told heard.listener.picture heard.listener.marks

-- G-09: how many tables an answer takes: one or none
abbrev pub tables_by : Outcome → ℕ
tables_by a_refusal = 0
tables_by a_repeat = 0
tables_by a_part = 0
tables_by a_table = 1

-- G-09: the same of what is told
abbrev pub tables_of : Told → ℕ
tables_of told = tables_by told.outcome
