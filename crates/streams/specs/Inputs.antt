-- What is read.
use Rattle.std.specs.Prelude.{Bool, true, false}
use Rattle.streams.specs.declared.input.Opened.{Opened}
use Rattle.streams.specs.declared.input.Opened.TheVariants.{Standard, File, Lost}

-- it is standard input
abbrev pub is_standard : Opened → Bool
is_standard Standard = true
is_standard (File file) = false
is_standard Lost = false
