-- What `--version` says: the product, its version, and the kit whose checker proved it. The papers' test holds them to the file VERSION and
-- to what the kit says of itself.
use Rattle.std.specs.Prelude.{ℕ, List}
use Rattle.kit.specs.Text.{ascii}

abbrev pub version_text : List ℕ
version_text = ascii " 1.1.0 (Bravolith track conditions box), proved with rattle-kit-13f logic dac8208d650f15bf\n"
