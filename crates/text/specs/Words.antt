-- Words that more than one program writes.
use Rattle.std.specs.Prelude.{ℕ, List}
use Prim.Native.Char.{code}
use Rattle.kit.specs.Text.{ascii}

-- what stands between words
abbrev pub blank : ℕ
blank = code " "

-- G-07
abbrev pub refused_word : List ℕ
refused_word = ascii "refused "
