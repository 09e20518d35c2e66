-- Distances: document 01, "Conditions" (K-06, K-07).
use Rattle.std.specs.Prelude.{ℕ, ◌-◌, ◌≤◌, cond, ◌==◌, nat_lt}
use Rattle.wire.specs.declared.distances.Distance.{Distance}
use Rattle.wire.specs.declared.distances.Distance.TheVariants.{Missing, Metres, Below}

-- K-07: 8000h means no value
abbrev pub no_value : ℕ
no_value = 0x8000

-- K-06: metres in two's complement, -32,767 to 32,767. `Below m` is -m metres.
unfoldable pub distance_of : ℕ → Distance
distance_of word = cond (word == no_value) Missing (cond (nat_lt word no_value) (Metres word) (Below (0x10000 - word)))

-- K-06, K-07: the word of a distance
abbrev pub distance_word : Distance → ℕ
distance_word Missing = no_value
distance_word (Metres m) = m
distance_word (Below m) = 0x10000 - m

-- K-06: the range
abbrev pub InRange : Distance → Type 0
InRange Missing = Unit
InRange (Metres m) = m ≤ 32767
InRange (Below m) = (1 ≤ m) × (m ≤ 32767)
