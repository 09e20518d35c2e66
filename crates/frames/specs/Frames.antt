-- Calls one after another, each a length in two bytes, high first, and so many bytes. One length may be bare: nothing follows it.
use Rattle.std.specs.Prelude.{ℕ, zero, suc, ◌+◌, Bool, cond, List, [], ◌∷◌, ◌++◌, eqb, ltb, leb, length, take, drop, Option, None, Some}
use Rattle.kit.specs.Bytes.{word_at, word_bytes}

-- a call: its length as it stands there, and its bytes
abbrev pub Framed : Type 0
Framed = ℕ × List ℕ

-- no length is bare, and each has its bytes: two bytes do not say this one
abbrev pub no_bare : ℕ
no_bare = 0x10000

-- the length that is bare, where the code names one
abbrev pub bare_in : Option ℕ → ℕ
bare_in None = no_bare
bare_in (Some bare) = bare

-- how many bytes follow a length
unfoldable pub follows : ℕ → ℕ → ℕ
follows bare word = cond (eqb word bare) 0 word

-- how many bytes the first call takes, its length among them
unfoldable pub size_of : ℕ → List ℕ → ℕ
size_of bare input = 2 + follows bare (word_at input 0)

-- the input has the first call whole
unfoldable pub is_whole_frame : ℕ → List ℕ → Bool
is_whole_frame bare input = leb (size_of bare input) (length input)

-- how many bytes the first call takes, and 0 where the input does not have it whole
unfoldable pub whole_size : ℕ → List ℕ → ℕ
whole_size bare input = cond (is_whole_frame bare input) (size_of bare input) 0

-- such a size in the code's answer: none is 0, which no whole call takes
abbrev pub size_given : ℕ → Option ℕ
size_given size = cond (eqb size 0) None (Some size)

-- the first call, and what stands behind it
unfoldable pub first_of : ℕ → List ℕ → Framed
first_of bare input = (word_at input 0, take (follows bare (word_at input 0)) (drop 2 input))

unfoldable pub behind : ℕ → List ℕ → List ℕ
behind bare input = drop (size_of bare input) input

-- the calls that the input has whole, `most` of them at the most
unfoldable pub framed_up_to : ℕ → ℕ → List ℕ → List Framed
framed_up_to bare zero input = []
framed_up_to bare (suc most) input = cond (is_whole_frame bare input) (first_of bare input ∷ framed_up_to bare most (behind bare input)) []

-- all of them: there are no more than bytes
unfoldable pub calls_of : ℕ → List ℕ → List Framed
calls_of bare input = framed_up_to bare (length input) input

-- what is left behind so many whole calls, and behind all of them
unfoldable pub left_up_to : ℕ → ℕ → List ℕ → List ℕ
left_up_to bare zero input = input
left_up_to bare (suc most) input = cond (is_whole_frame bare input) (left_up_to bare most (behind bare input)) input

unfoldable pub left_of : ℕ → List ℕ → List ℕ
left_of bare input = left_up_to bare (length input) input

-- the input ends inside a call, inside its length or its bytes
unfoldable pub is_short : ℕ → List ℕ → Bool
is_short bare input = ltb 0 (length (left_of bare input))

-- what is said at the end of an input: this line where it ends inside a call, and otherwise nothing
unfoldable pub short_tail : ℕ → List ℕ → List ℕ → List ℕ
short_tail bare line input = cond (is_short bare input) line []

-- the bytes of calls that stand one after another
unfoldable pub framed_bytes : List Framed → List ℕ
framed_bytes [] = []
framed_bytes ((word, bytes) ∷ later) = word_bytes word ++ (bytes ++ framed_bytes later)
