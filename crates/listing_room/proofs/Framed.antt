-- How many bytes are printed at most for telegrams of any length, each after its length: as many as for so many telegrams of a recording.
use Prim.Native.Nat.{ℕ, zero, suc, ◌+◌, ◌≤◌}
use mathlib.Core.Path.{◌≡◌, refl}
use mathlib.Core.List.{List, map}
use lib.ListN.{length, drop, length-append}
use native.Mathlib.Omega.{arith}
use Rattle.kit.specs.Bytes.{Bytes, word_at}
use Rattle.kit.proofs.Bytes.{take-bytes, drop-bytes}
use Rattle.kit.proofs.Cases.{on}
use Rattle.frames.specs.Frames.{Framed, no_bare, follows, size_of, is_whole_frame, first_of, behind, framed_up_to, calls_of, short_tail}
use Rattle.frames.proofs.Splitting.{tail-most}
use Rattle.listener.specs.Listeners.{fresh_listener}
use Rattle.lister.specs.Hearings.{lines_for}
use Rattle.hearing_runs.specs.Runs.{framed_telegrams, short_telegram_line, lines_heard_by, lines_heard}
use Rattle.listing_room.specs.Rooms.{telegrams_room}
use Rattle.listing_room.proofs.Telegrams.{AllBytes, lines_room_lem}

framed_bytes_lem : (bare most : ℕ) (input : List ℕ) → Bytes input → AllBytes (map (λ (call : Framed). call.1) (framed_up_to bare most input))
unfolding framed_up_to first_of behind
framed_bytes_lem bare zero input fits = tt
framed_bytes_lem bare (suc most) input fits =
    on (is_whole_frame bare input)
    (λ e.
    rw e (
      take-bytes (follows bare (word_at input 0)) (drop 2 input) (drop-bytes 2 input fits),
      framed_bytes_lem bare most (drop (size_of bare input) input) (drop-bytes (size_of bare input) input fits),
    ))
    (λ e. rw e tt)

short-long : length short_telegram_line ≡ 15
unfolding short_telegram_line
short-long = refl

-- M-1b, G-03, G-07: the room for the telegrams that the input has whole, and 15 bytes more, for an input that ends inside one
pub hearing_short : (input : List ℕ) → Bytes input → length (lines_heard input) ≤ telegrams_room (length (framed_telegrams input)) + 15
unfolding lines_heard lines_heard_by framed_telegrams calls_of
hearing_short input fits =
    omega (
      arith,
      length-append (lines_for fresh_listener (framed_telegrams input)) (short_tail no_bare short_telegram_line input),
      lines_room_lem (framed_telegrams input) (framed_bytes_lem no_bare (length input) input fits),
      tail-most no_bare short_telegram_line input,
      short-long,
    )
