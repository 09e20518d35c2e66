-- What a program's arguments ask for: `-` or none for standard input, a name for a file, options, and anything else is told.
use Rattle.std.specs.Prelude.{ℕ, Bool, true, false, cond, Option, Some, None, List, [], ◌∷◌, eqb, get_or}
use Prim.Native.Char.{code}
use Rattle.kit.specs.Ladder.{ladder}
use Rattle.kit.specs.Text.{ascii}
use Rattle.same_text.specs.Same.{is_same_text}
use Rattle.program.specs.declared.names.Program.{Program}
use Rattle.program.specs.declared.names.Program.TheVariants.{ListConditions, RunDesk, ReadSignals}
use Rattle.program.specs.declared.arguments.Argument.{Argument}
use Rattle.program.specs.declared.arguments.Argument.TheVariants.{Standard, Help, Version, Summary, Progress, Unknown, Name}
use Rattle.program.specs.declared.arguments.Task.{Task}
use Rattle.program.specs.declared.arguments.Task.TheVariants.{Work, ShowHelp, ShowVersion, NotUnderstood, OneInputOnly}
use Rattle.program.specs.declared.arguments.Asked.{Asked}

-- ---- one argument

-- it begins as an option does
unfoldable pub is_option : List ℕ → Bool
is_option text = eqb (get_or text 0 0) (code "-")

-- what it is: one of these words, another that begins as an option does, or a name
unfoldable pub argument_of : List ℕ → Argument
argument_of text =
    ladder Name
    ((is_same_text text (ascii "-"), Standard)
    ∷ (is_same_text text (ascii "--help"), Help)
    ∷ (is_same_text text (ascii "--version"), Version)
    ∷ (is_same_text text (ascii "--summary"), Summary)
    ∷ (is_same_text text (ascii "--progress"), Progress)
    ∷ (is_option text, Unknown)
    ∷ [])

-- ---- all of them

abbrev pub is_work : Task → Bool
is_work Work = true
is_work ShowHelp = false
is_work ShowVersion = false
is_work NotUnderstood = false
is_work OneInputOnly = false

-- the programs that have a summary
abbrev pub has_summary : Program → Bool
has_summary ListConditions = true
has_summary RunDesk = false
has_summary ReadSignals = false

-- before any argument: the work, on standard input
abbrev pub nothing_asked : Asked
nothing_asked = record { task = Work; at = None; given = false; file = None; summary = false; progress = false }

-- the argument of this index asks for something else than the work
abbrev pub decided_by : Asked → Task → ℕ → Asked
decided_by asked task at = record { task = task; at = Some at; given = asked.given; file = asked.file; summary = asked.summary; progress = asked.progress }

-- it names the input, none for standard input, and there is one input only
abbrev pub with_input : Asked → Option ℕ → ℕ → Asked
with_input asked file at =
    cond asked.given
    (decided_by asked OneInputOnly at)
    (record { task = Work; at = None; given = true; file = file; summary = asked.summary; progress = asked.progress })

-- it asks for a summary, which a program that has none does not understand
abbrev pub with_summary : Program → Asked → ℕ → Asked
with_summary program asked at =
    cond (has_summary program)
    (record { task = Work; at = None; given = asked.given; file = asked.file; summary = true; progress = asked.progress })
    (decided_by asked NotUnderstood at)

abbrev pub with_progress : Asked → Asked
with_progress asked = record { task = Work; at = None; given = asked.given; file = asked.file; summary = asked.summary; progress = true }

-- what one argument more asks for
abbrev pub by_argument : Program → Asked → Argument → ℕ → Asked
by_argument program asked Standard at = with_input asked None at
by_argument program asked Help at = decided_by asked ShowHelp at
by_argument program asked Version at = decided_by asked ShowVersion at
by_argument program asked Summary at = with_summary program asked at
by_argument program asked Progress at = with_progress asked
by_argument program asked Unknown at = decided_by asked NotUnderstood at
by_argument program asked Name at = with_input asked (Some at) at

-- the first that asks for something else than the work decides
abbrev pub asked_with : Program → Asked → Argument → ℕ → Asked
asked_with program asked argument at = cond (is_work asked.task) (by_argument program asked argument at) asked
