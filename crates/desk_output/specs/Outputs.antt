-- What the program run_desk writes.
use Rattle.std.specs.Prelude.{ℕ, List, ◌++◌}
use Rattle.kit.specs.Text.{ascii}
use Rattle.text.specs.Decimals.{decimal}
use Rattle.text.specs.Words.{refused_word}
use Rattle.telegram.specs.Telegrams.{bytes_of}
use Rattle.desk.specs.Desks.{packet_of}
use Rattle.desk.specs.declared.Desk.{Desk}

-- W-03, T-01: the table as five telegrams, packets 3 to 7
unfoldable pub five_telegrams : Desk → List ℕ
five_telegrams desk =
    bytes_of (packet_of desk 3)
    ++ (bytes_of (packet_of desk 4) ++ (bytes_of (packet_of desk 5) ++ (bytes_of (packet_of desk 6) ++ bytes_of (packet_of desk 7))))

-- between the number of a refusal and that of the list
abbrev pub at_list_words : List ℕ
at_list_words = ascii " at list "

-- `refused N at list I` and a line feed
unfoldable pub refused_list_line : ℕ → ℕ → List ℕ
refused_list_line number list = refused_word ++ (decimal number ++ (at_list_words ++ (decimal list ++ ascii "\n")))

-- where the input ends inside a list
unfoldable pub short_list_line : List ℕ
short_list_line = ascii "short list\n"
