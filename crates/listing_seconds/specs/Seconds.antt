-- What the second word of a condition says in a listing: document 01, "Listing program", the third and the fifth sentence.
use Rattle.std.specs.Prelude.{ℕ, cond, List, [], ◌∷◌, ◌++◌, eqb}
use Prim.Native.Char.{code}
use Rattle.text.specs.Decimals.{decimal}
use Rattle.wire.specs.Distances.{no_value}
use Rattle.condition.specs.declared.slots.Body.{Body}
use Rattle.condition.specs.declared.slots.Body.TheVariants.{Empty, Area, Traction, Current}
use Rattle.listing_words.specs.Words.{number_then, minus, distance_text}

-- G-06: between voltage and country
abbrev pub stroke : ℕ
stroke = code "/"

-- G-06: for type 4 `voltage/country`, and `-` when the change distance is missing
unfoldable pub system_word : ℕ → ℕ → ℕ → List ℕ
system_word change country voltage = cond (eqb change no_value) (minus ∷ []) (number_then voltage stroke ++ decimal country)

-- G-06: for type 5 the raw limit, and `-` when the change distance is missing
unfoldable pub limit_word : ℕ → ℕ → List ℕ
limit_word change limit = cond (eqb change no_value) (minus ∷ []) (decimal limit)

-- G-04, G-06: the second word; for the other types it is the exit
abbrev pub second_word : Body → List ℕ
second_word Empty = []
second_word (Area kind entry exit) = distance_text exit
second_word (Traction change country voltage) = system_word change country voltage
second_word (Current change limit) = limit_word change limit
