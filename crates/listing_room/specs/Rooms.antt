-- How much room lines need, and the sizes of the buffers of the program list_conditions. The program's contracts ask for these sizes by name,
-- and proofs/Room.antt proves that what is put there has room, so that a buffer of another size is refused in the program.
use Rattle.std.specs.Prelude.{ℕ, ◌+◌, ◌*◌, ◌/◌, ◌%◌}

-- the room for the lines of so many telegrams, which a fresh listener hears: 639 bytes for each five of them, a table's, and 11 for each one
-- over, a refusal's
abbrev pub telegrams_room : ℕ → ℕ
telegrams_room count = count / 5 * 639 + count % 5 * 11

-- how many bytes of a recording are read at once: four hundred telegrams
abbrev pub piece_room : ℕ
piece_room = 10400

-- the room for the lines of a piece
abbrev pub lines_room : ℕ
lines_room = 262080

-- the room for the header
abbrev pub header_room : ℕ
header_room = 16

-- the room for the line of a short tail and the last line
abbrev pub end_room : ℕ
end_room = 64
