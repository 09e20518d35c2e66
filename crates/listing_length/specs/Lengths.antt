-- How long a listing is, for a host that lends the buffer for it.
use Rattle.std.specs.Prelude.{ℕ, min, List, length}
use Rattle.listing.specs.Listings.{listing}

-- the greatest length that is told; the length stays there
abbrev pub most_length : ℕ
most_length = 0xFFFFFFFFFFFFFFFF

-- W-06: how many bytes the listing of a recording has
unfoldable pub listing_length : List ℕ → ℕ
listing_length recording = min (length (listing recording)) most_length

-- how many bytes of the recording are listed at once, a hundred telegrams, and the room for their lines
abbrev pub piece_size : ℕ
piece_size = 2600

abbrev pub piece_lines_room : ℕ
piece_lines_room = 13419
