-- The page that `--help` shows, of each program: what it reads, what it writes, its options, an example.
use Rattle.std.specs.Prelude.{ℕ, List}
use Rattle.kit.specs.Text.{ascii}
use Rattle.program.specs.declared.names.Program.{Program}
use Rattle.program.specs.declared.names.Program.TheVariants.{ListConditions, RunDesk, ReadSignals}

abbrev pub help_text : Program → List ℕ
help_text ListConditions = ascii "list_conditions: lists recorded telegrams of track conditions\n\nUsage: list_conditions [--summary] [--progress] [FILE]\n\nReads: telegrams of 26 bytes, one after another, from FILE, or from standard\n  input where there is none or it is -. The input may have any length.\nWrites: `conditions 1`; for each table taken `table S K G` (step number,\n  conditions, gap) and a line for each condition (slot, number, type, first\n  and second word, new or carried); `refused N` for each telegram that is\n  refused, and `refused 10` for a tail of fewer than 26 bytes; `end T`, the\n  number of tables taken.\n\nOptions:\n  --summary   at the end, on error output: what the recording had\n  --progress  where error output is a terminal: how far the reading is\n  --help      this page\n  --version   the version\n\nFailures: a read or a write that fails ends the program with a line on error\n  output. A listing without its `end` is not whole.\n\nExample:\n  list_conditions --summary recording.bin > listing.txt\n"
help_text RunDesk = ascii "run_desk: hands lists of orders to a desk and writes its telegrams\n\nUsage: run_desk [--progress] [FILE]\n\nReads: lists, each after its length in two bytes, high first, from FILE, or\n  from standard input where there is none or it is -. There may be any number.\nWrites: for each list that is accepted the table as five telegrams, 130 bytes.\n  On error output `refused N at list I` for each that is refused, and\n  `short list` where the input ends inside a list.\n\nOptions:\n  --progress  where error output is a terminal: how far the reading is\n  --help      this page\n  --version   the version\n\nFailures: a read or a write that fails ends the program with a line on error\n  output, and no `short list` is written then.\n\nExample:\n  run_desk lists.bin | list_conditions\n"
help_text ReadSignals = ascii "read_signals: reads telegrams from the train and keeps the record of signals\n\nUsage: read_signals [--progress] [FILE]\n\nReads: calls, each a length in two bytes, high first, and so many bytes, from\n  FILE, or from standard input where there is none or it is -. The length\n  FFFFh, with nothing after it, is a call with no telegram. There may be any\n  number of calls.\nWrites: a line for each call: `accepted`, `missed` or `refused N`, the miss\n  count, cab, brake position, the sixteen national systems and the list of\n  traction systems; `short call` where the input ends inside a call.\n\nOptions:\n  --progress  where error output is a terminal: how far the reading is\n  --help      this page\n  --version   the version\n\nFailures: a read or a write that fails ends the program with a line on error\n  output, and no `short call` is written then.\n\nExample:\n  read_signals calls.bin\n"
