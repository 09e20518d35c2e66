-- What comes of a whole input of telegrams of any length: the lines that a listing has for them.
use Rattle.std.specs.Prelude.{ℕ, List, ◌++◌, map}
use Rattle.kit.specs.Text.{ascii}
use Rattle.frames.specs.Frames.{Framed, no_bare, calls_of, short_tail}
use Rattle.listener.specs.Listeners.{fresh_listener}
use Rattle.listener.specs.declared.Listener.{Listener}
use Rattle.lister.specs.Hearings.{lines_for}

-- the telegrams that the input has whole; every length has its bytes
unfoldable pub framed_telegrams : List ℕ → List (List ℕ)
framed_telegrams input = map (λ (call : Framed). call.1) (calls_of no_bare input)

-- `short telegram` and a line feed
unfoldable pub short_telegram_line : List ℕ
short_telegram_line = ascii "short telegram\n"

-- M-1b, G-03, G-07: the lines of them, heard one after another, and that of an input that ends inside one
unfoldable pub lines_heard_by : Listener → List ℕ → List ℕ
lines_heard_by listener input = lines_for listener (framed_telegrams input) ++ short_tail no_bare short_telegram_line input

-- A-20: by a fresh listener
unfoldable pub lines_heard : List ℕ → List ℕ
lines_heard input = lines_heard_by fresh_listener input
