-- The example of document 01, "Listing program": its input and the whole of its output (G-10).
use Rattle.std.specs.Prelude.{ℕ, List, ◌∷◌, ◌++◌, replicate}
use Rattle.kit.specs.Text.{ascii}

-- `60 01 01 03 04 B0 05 DC` and 18 zero bytes; then `80 01`, `A0 01`, `C0 01`, `E0 01`, each with 24 zero bytes
unfoldable pub example_recording : List ℕ
example_recording =
    (0x60 ∷ 0x01 ∷ 0x01 ∷ 0x03 ∷ 0x04 ∷ 0xB0 ∷ 0x05 ∷ 0xDC ∷ replicate 18 0)
    ++ ((0x80 ∷ 0x01 ∷ replicate 24 0)
    ++ ((0xA0 ∷ 0x01 ∷ replicate 24 0)
    ++ ((0xC0 ∷ 0x01 ∷ replicate 24 0)
    ++ (0xE0 ∷ 0x01 ∷ replicate 24 0))))

-- the four lines of the output
unfoldable pub example_listing : List ℕ
example_listing = ascii "conditions 1\ntable 1 1 0\n0 1 3 1200 1500 new\nend 1\n"
