-- The lines of an input, by the size of its first telegram: those of one telegram more, the line that says that the input is short, or none.
use Prim.Native.Nat.{ℕ, ◌-◌, ◌≤◌}
use mathlib.Core.Path.{◌≡◌, refl}
use mathlib.Core.List.{List, [], ◌++◌, append_assoc}
use lib.ListN.{length, take, drop}
use Rattle.frames.specs.Frames.{no_bare, whole_size, short_tail}
use Rattle.frames.proofs.Splitting.{calls_more, tail_more, calls_none, tail-short, calls_end, tail-end}
use Rattle.listener.specs.declared.Listener.{Listener}
use Rattle.listing_tables.specs.Tables.{heard_lines}
use Rattle.lister.specs.Hearings.{heard_by, lines_for}
use Rattle.hearing_runs.specs.Runs.{framed_telegrams, short_telegram_line, lines_heard_by}

module _ (listener : Listener) (input : List ℕ) where
  module _ (size : ℕ) (sized : size ≡ whole_size no_bare input) where
    -- the first telegram
    abbrev pub first : List ℕ
    first = take (size - 2) (drop 2 input)

    pub lines_more : 1 ≤ size → lines_heard_by listener input ≡ heard_lines (heard_by listener first) ++ lines_heard_by (heard_by listener first).listener (drop size input)
    unfolding lines_heard_by framed_telegrams lines_for
    lines_more some =
        rw (calls_more no_bare input size sized some, tail_more no_bare input size sized some short_telegram_line)
        (append_assoc (heard_lines (heard_by listener first)) (lines_for (heard_by listener first).listener (framed_telegrams (drop size input))) (short_tail no_bare short_telegram_line (drop size input)))

    pub lines-short : size ≡ 0 → 1 ≤ length input → lines_heard_by listener input ≡ short_telegram_line
    unfolding lines_heard_by framed_telegrams lines_for
    lines-short none some = rw (calls_none no_bare input size sized none, tail-short no_bare input size sized none short_telegram_line some) refl

  pub lines_end : length input ≡ 0 → lines_heard_by listener input ≡ []
  unfolding lines_heard_by framed_telegrams lines_for
  lines_end end = rw (calls_end no_bare input end, tail-end no_bare input end short_telegram_line) refl
