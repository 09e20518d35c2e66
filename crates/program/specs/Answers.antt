-- What a program says where it is asked for something else than its work, and that it waits for input.
use Rattle.std.specs.Prelude.{ℕ, Bool, true, false, List, [], ◌++◌}
use Rattle.kit.specs.Text.{ascii}
use Rattle.program.specs.Help.{help_text}
use Rattle.program.specs.Names.{name_of}
use Rattle.program.specs.Version.{version_text}
use Rattle.program.specs.declared.names.Program.{Program}
use Rattle.program.specs.declared.names.Program.TheVariants.{ListConditions, RunDesk, ReadSignals}
use Rattle.program.specs.declared.arguments.Task.{Task}
use Rattle.program.specs.declared.arguments.Task.TheVariants.{Work, ShowHelp, ShowVersion, NotUnderstood, OneInputOnly}

-- it goes to error output
abbrev pub is_complaint : Task → Bool
is_complaint Work = false
is_complaint ShowHelp = false
is_complaint ShowVersion = false
is_complaint NotUnderstood = true
is_complaint OneInputOnly = true

unfoldable pub version_line : Program → List ℕ
version_line program = name_of program ++ version_text

-- a line on an argument
unfoldable pub complaint_of : Program → List ℕ → List ℕ → List ℕ → List ℕ
complaint_of program before word after = name_of program ++ (before ++ (word ++ after))

-- what is said for a task, where this argument decided it
abbrev pub answer_of : Program → Task → List ℕ → List ℕ
answer_of program Work word = []
answer_of program ShowHelp word = help_text program
answer_of program ShowVersion word = version_line program
answer_of program NotUnderstood word = complaint_of program (ascii ": not understood: ") word (ascii " (--help says what is)\n")
answer_of program OneInputOnly word = complaint_of program (ascii ": one input only: ") word (ascii "\n")

-- what a program reads
abbrev pub awaited_of : Program → List ℕ
awaited_of ListConditions = ascii "telegrams of 26 bytes"
awaited_of RunDesk = ascii "lists, each after its length in two bytes"
awaited_of ReadSignals = ascii "calls, each after its length in two bytes"

-- said where the input is a terminal
unfoldable pub awaiting_line : Program → List ℕ
awaiting_line program = name_of program ++ (ascii ": awaiting " ++ (awaited_of program ++ ascii "; --help says more\n"))
