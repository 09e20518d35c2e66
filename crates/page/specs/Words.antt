-- A word of at most sixteen bytes in two numbers.
use Rattle.std.specs.Prelude.{ℕ, min, List, ◌++◌, length, take, drop}
use Rattle.page.specs.declared.Word.{Word}
use Rattle.page.specs.Packed.{low_bytes, number_made}

-- its bytes
unfoldable pub bytes_of_word : Word → List ℕ
bytes_of_word word = take word.count (low_bytes 8 word.low ++ low_bytes 8 word.high)

-- the word that has the first sixteen bytes of a text
unfoldable pub packed_word : List ℕ → Word
packed_word text = record { low = number_made (take 8 text); high = number_made (take 8 (drop 8 text)); count = min (length text) 16 }
