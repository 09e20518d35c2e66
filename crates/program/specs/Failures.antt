-- What a program was doing when a call failed; the system's reason follows it.
use Rattle.std.specs.Prelude.{ℕ, List, ◌++◌}
use Rattle.kit.specs.Text.{ascii}
use Rattle.program.specs.Names.{name_of}
use Rattle.program.specs.declared.names.Program.{Program}
use Rattle.program.specs.declared.failures.Doing.{Doing}
use Rattle.program.specs.declared.failures.Doing.TheVariants.{ReadingStandard, ReadingFile, Opening, Writing, Telling, TakingArgument}

abbrev pub doing_words : Doing → List ℕ → List ℕ
doing_words ReadingStandard name = ascii "reading standard input"
doing_words ReadingFile name = ascii "reading " ++ name
doing_words Opening name = ascii "opening " ++ name
doing_words Writing name = ascii "writing standard output"
doing_words Telling name = ascii "writing error output"
doing_words TakingArgument name = ascii "taking an argument"

-- the program's name before it
unfoldable pub doing_text : Program → Doing → List ℕ → List ℕ
doing_text program doing name = name_of program ++ (ascii ": " ++ doing_words doing name)
