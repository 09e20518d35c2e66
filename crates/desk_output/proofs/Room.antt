-- Everything that the program run_desk writes has room in its buffers: a table in 130 bytes, a line for a refused list in 64, and the line
-- for an input that ends too soon in 11.
use Prim.Native.Nat.{ℕ, ◌<◌, ◌≤◌, ◌^◌}
use mathlib.Core.Path.{◌≡◌, refl}
use mathlib.Core.List.{[], ◌∷◌, ◌++◌}
use lib.ListN.{length, length-append}
use native.Mathlib.Omega.{arith}
use Rattle.text.specs.Decimals.{decimal}
use Rattle.text.specs.Words.{refused_word}
use Rattle.text.proofs.Numerals.{decimal-short, decimal_byte}
use Rattle.telegram.specs.Telegrams.{bytes_of}
use Rattle.telegram.proofs.Wire.{length-bytes}
use Rattle.desk.specs.Desks.{packet_of}
use Rattle.desk.specs.declared.Desk.{Desk}
use Rattle.desk_output.specs.Outputs.{five_telegrams, at_list_words, refused_list_line, short_list_line}

-- W-03: five telegrams of 26 bytes
pub table-long : (desk : Desk) → length (five_telegrams desk) ≡ 130
unfolding five_telegrams
table-long desk =
    let three = bytes_of (packet_of desk 3) in
    let four = bytes_of (packet_of desk 4) in
    let five = bytes_of (packet_of desk 5) in
    let six = bytes_of (packet_of desk 6) in
    let seven = bytes_of (packet_of desk 7) in
    omega (
      arith,
      length-append three (four ++ (five ++ (six ++ seven))),
      length-append four (five ++ (six ++ seven)),
      length-append five (six ++ seven),
      length-append six seven,
      length-bytes (packet_of desk 3),
      length-bytes (packet_of desk 4),
      length-bytes (packet_of desk 5),
      length-bytes (packet_of desk 6),
      length-bytes (packet_of desk 7),
    )

-- a refusal's number is a byte, and the lists are counted in 64 bits
pub refused-short : (number list : ℕ) → number < 256 → list < 10 ^ 20 → length (refused_list_line number list) ≤ 64
unfolding refused_list_line
refused-short number list small counted =
    omega (
      arith,
      length-append refused_word (decimal number ++ (at_list_words ++ (decimal list ++ (10 ∷ [])))),
      length-append (decimal number) (at_list_words ++ (decimal list ++ (10 ∷ []))),
      length-append at_list_words (decimal list ++ (10 ∷ [])),
      length-append (decimal list) (10 ∷ []),
      decimal_byte number small,
      decimal-short 20 list counted (omega arith),
    )

pub short-long : length short_list_line ≡ 11
unfolding short_list_line
short-long = refl
