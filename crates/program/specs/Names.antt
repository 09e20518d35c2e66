-- The programs, by name.
use Rattle.std.specs.Prelude.{ℕ, List}
use Rattle.kit.specs.Text.{ascii}
use Rattle.program.specs.declared.names.Program.{Program}
use Rattle.program.specs.declared.names.Program.TheVariants.{ListConditions, RunDesk, ReadSignals}

abbrev pub name_of : Program → List ℕ
name_of ListConditions = ascii "list_conditions"
name_of RunDesk = ascii "run_desk"
name_of ReadSignals = ascii "read_signals"
