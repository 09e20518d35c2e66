-- The example of document 01: the listing of its input is its output. The checker computes it from the definitions.
use mathlib.Core.Path.{◌≡◌, refl}
use Rattle.kit.specs.Each.{each}
use Rattle.kit.specs.Ladder.{ladder}
use Rattle.kit.specs.Loops.{scan, fold, how_many}
use Rattle.wire.specs.Distances.{distance_of}
use Rattle.wire.specs.Steps.{gap_of}
use Rattle.wire.specs.Verdicts.{verdict_of}
use Rattle.kinds.specs.Words.{second_allowed, second_held, is_considered}
use Rattle.condition.specs.Slots.{body_of, slot_rows, coded_of}
use Rattle.telegram.specs.Telegrams.{read_rows, coded_at, taken_before, telegram_of, read_of}
use Rattle.text.specs.Decimals.{digits, decimal}
use Rattle.hand.specs.Sets.{begun, set_for, is_held, joined, is_whole}
use Rattle.picture.specs.Pictures.{count_of, bears_number, is_twice, clashes}
use Rattle.marks.specs.Marks.{is_same, is_known, is_carried, marks_of}
use Rattle.listener.specs.Listeners.{fresh_listener, taken_by, heard_of, hear_of}
use Rattle.listing_words.specs.Words.{distance_text}
use Rattle.listing_seconds.specs.Seconds.{system_word, limit_word}
use Rattle.listing_entries.specs.Entries.{entry_numbers, entry_words, entry_line}
use Rattle.listing_lines.specs.Lines.{header_line, table_line, end_line}
use Rattle.listing_tables.specs.Tables.{picture_lines, heard_lines}
use Rattle.lister.specs.Hearings.{cut, telegrams_in, tail_of, lines_for, tables_taken}
use Rattle.listing.specs.Listings.{tail_line, listing}
use Rattle.reckoned.specs.Example.{example_recording, example_listing}

-- G-10
pub example : listing example_recording ≡ example_listing
unfolding example_recording example_listing listing tail_line cut telegrams_in tail_of lines_for tables_taken picture_lines heard_lines header_line table_line end_line entry_numbers entry_words entry_line system_word limit_word distance_text fresh_listener taken_by heard_of hear_of is_same is_known is_carried marks_of count_of bears_number is_twice clashes begun set_for is_held joined is_whole digits decimal read_rows coded_at taken_before telegram_of read_of body_of slot_rows coded_of second_allowed second_held is_considered verdict_of gap_of distance_of scan fold how_many ladder each
example = refl
