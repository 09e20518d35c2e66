-- The text of a summary. Each line ends with a line feed.
use Rattle.std.specs.Prelude.{ℕ, ◌+◌, Bool, false, cond, List, [], ◌++◌, eqb, get_or}
use Rattle.kit.specs.Each.{each}
use Rattle.kit.specs.Loops.{any}
use Rattle.kit.specs.Text.{ascii}
use Rattle.text.specs.Decimals.{decimal}
use Rattle.text.specs.Words.{refused_word}
use Rattle.telegram.specs.Tables.{packets, first_packet}
use Rattle.hand.specs.declared.Hand.{Hand}
use Rattle.lister.specs.declared.Lister.{Lister}
use Rattle.summary.specs.Counts.{refusal_numbers, none_refused}
use Rattle.summary.specs.declared.Refusals.{Refusals}
use Rattle.summary.specs.declared.Tally.{Tally}

-- words, and a number after them
abbrev pub with_number : List ℕ → ℕ → List ℕ
with_number words number = words ++ decimal number

-- the words of the lines
abbrev pub telegrams_word : List ℕ
telegrams_word = ascii "telegrams "

abbrev pub tables_word : List ℕ
tables_word = ascii "tables "

abbrev pub repeats_word : List ℕ
repeats_word = ascii "repeats "

abbrev pub count_word : List ℕ
count_word = ascii ": "

abbrev pub place_words : List ℕ
place_words = ascii ", first at telegram "

abbrev pub unfinished_words : List ℕ
unfinished_words = ascii "unfinished: step "

abbrev pub packets_word : List ℕ
packets_word = ascii ", packets"

abbrev pub tail_words : List ℕ
tail_words = ascii "tail of "

abbrev pub bytes_word : List ℕ
bytes_word = ascii " bytes\n"

-- `telegrams N`, `tables N` or `repeats N`
abbrev pub count_line : List ℕ → ℕ → List ℕ
count_line word count = with_number word count ++ ascii "\n"

-- those three lines
unfoldable pub count_lines : ℕ → ℕ → ℕ → List ℕ
count_lines telegrams tables repeats = count_line telegrams_word telegrams ++ (count_line tables_word tables ++ count_line repeats_word repeats)

-- `refused R: N, first at telegram P`
unfoldable pub refusal_line : ℕ → ℕ → ℕ → List ℕ
refusal_line number count place = with_number refused_word number ++ (with_number count_word count ++ (with_number place_words place ++ ascii "\n"))

-- only where some are refused under that number
unfoldable pub refusal_part : ℕ → ℕ → ℕ → List ℕ
refusal_part number count place = cond (eqb count 0) [] (refusal_line number count place)

-- that of one number, of the row of counts and places
abbrev pub refusal_at : List Refusals → ℕ → List ℕ
refusal_at refused number = refusal_part number (get_or refused number none_refused).count (get_or refused number none_refused).first

-- for each number, ascending
unfoldable pub refusal_parts : List Refusals → List ℕ
refusal_parts refused = each (refusal_at refused) 0 refusal_numbers

-- L-03: packet k of the five is held
abbrev pub packet_held : List Bool → ℕ → Bool
packet_held held k = get_or held k false

-- a packet that is held, after a blank
unfoldable pub packet_part : Bool → ℕ → List ℕ
packet_part held packet = cond held (with_number (ascii " ") packet) []

-- packet k of the five, which are 3 to 7
abbrev pub packet_at : List Bool → ℕ → List ℕ
packet_at held k = packet_part (packet_held held k) (k + first_packet)

-- T-01: ascending
unfoldable pub packet_parts : List Bool → List ℕ
packet_parts held = each (packet_at held) 0 packets

-- `unfinished: step S, packets A B C`: those that are held, ascending
unfoldable pub unfinished_line : ℕ → List Bool → List ℕ
unfinished_line step held = with_number unfinished_words step ++ (packets_word ++ (packet_parts held ++ ascii "\n"))

-- L-03: only where a set is in hand: some packet is held
unfoldable pub unfinished_part : Hand → List ℕ
unfinished_part hand = cond (any (packet_held hand.held) 0 packets) (unfinished_line hand.step hand.held) []

-- G-08: `tail of N bytes`, only where bytes of a telegram that is not whole are left
unfoldable pub tail_part : ℕ → List ℕ
tail_part kept = cond (eqb kept 0) [] (with_number tail_words kept ++ bytes_word)

-- the whole text, of the counts and the state at the end of the input
unfoldable pub summary_of : Tally → Lister → List ℕ
summary_of tally lister =
    count_lines tally.telegrams tally.tables tally.repeats
    ++ (refusal_parts tally.refused ++ (unfinished_part lister.listener.hand ++ tail_part lister.kept))
