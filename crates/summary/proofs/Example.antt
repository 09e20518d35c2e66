-- A small recording and its whole summary. The checker computes it from the definitions.
use Prim.Native.Nat.{ℕ}
use mathlib.Core.Path.{◌≡◌, refl}
use mathlib.Core.List.{List, [], ◌∷◌, ◌++◌}
use lib.ListN.{replicate}
use Rattle.kit.specs.Each.{each}
use Rattle.kit.specs.Ladder.{ladder}
use Rattle.kit.specs.Loops.{scan, fold, how_many}
use Rattle.kit.specs.Text.{ascii}
use Rattle.wire.specs.Steps.{gap_of}
use Rattle.wire.specs.Verdicts.{verdict_of}
use Rattle.kinds.specs.Words.{second_allowed, second_held, is_considered}
use Rattle.condition.specs.Slots.{body_of, slot_rows, coded_of}
use Rattle.telegram.specs.Telegrams.{read_rows, coded_at, taken_before, telegram_of, read_of}
use Rattle.text.specs.Decimals.{digits, decimal}
use Rattle.hand.specs.Sets.{begun, set_for, is_held, joined, is_whole}
use Rattle.picture.specs.Pictures.{count_of, bears_number, is_twice, clashes}
use Rattle.marks.specs.Marks.{is_same, is_known, is_carried, marks_of}
use Rattle.listener.specs.Listeners.{fresh_listener, taken_by, heard_of, hear_of}
use Rattle.lister.specs.Hearings.{cut, telegrams_in, tail_of, listener_through, tables_taken}
use Rattle.lister.specs.Pieces.{begun_lister, keeping, take_of}
use Rattle.summary.specs.Counts.{told_through, how_many_told, first_from, for_each_number, tally_of}
use Rattle.summary.specs.Summaries.{count_lines, refusal_line, refusal_part, refusal_parts, packet_part, packet_parts, unfinished_line, unfinished_part, tail_part, summary_of}
use Rattle.summary.specs.Tallies.{counted, counted_all, counted_piece}

-- a telegram of this packet and step with no condition, by its first two bytes
abbrev bare : ℕ → ℕ → List ℕ
bare high low = high ∷ low ∷ replicate 24 0

-- 26 zeros, which are no packet; the five packets of step 1; packet 3 of it once more; 26 zeros; packets 3 and 5 of step 2; 7 bytes
abbrev recording : List ℕ
recording =
    bare 0 0
    ++ (bare 0x60 1
    ++ (bare 0x80 1
    ++ (bare 0xA0 1 ++ (bare 0xC0 1 ++ (bare 0xE0 1 ++ (bare 0x60 1 ++ (bare 0 0 ++ (bare 0x60 2 ++ (bare 0xA0 2 ++ replicate 7 0)))))))))

pub example : summary_of (counted_piece (tally_of []) begun_lister recording) (take_of begun_lister recording)
    ≡ ascii "telegrams 10\ntables 1\nrepeats 1\nrefused 11: 2, first at telegram 1\nunfinished: step 2, packets 3 5\ntail of 7 bytes\n"
unfolding summary_of count_lines refusal_line refusal_part refusal_parts packet_part packet_parts unfinished_line unfinished_part tail_part counted counted_all counted_piece told_through how_many_told first_from for_each_number tally_of begun_lister keeping take_of cut telegrams_in tail_of listener_through tables_taken fresh_listener taken_by heard_of hear_of is_same is_known is_carried marks_of count_of bears_number is_twice clashes begun set_for is_held joined is_whole digits decimal read_rows coded_at taken_before telegram_of read_of body_of slot_rows coded_of second_allowed second_held is_considered verdict_of gap_of scan fold how_many ladder each
example = refl
