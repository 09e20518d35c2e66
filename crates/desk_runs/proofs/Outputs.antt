-- The tables and lines of an input, by the size of its first list: those of one list more, the line that says that the input is short, or none.
use Prim.Native.Nat.{ℕ, ◌+◌, ◌-◌, ◌≤◌}
use mathlib.Core.Path.{◌≡◌, refl}
use mathlib.Core.List.{List, [], ◌++◌, append_assoc}
use lib.ListN.{length, take, drop}
use Rattle.frames.specs.Frames.{no_bare, whole_size, short_tail}
use Rattle.frames.proofs.Splitting.{calls_more, tail_more, calls_none, tail-short, calls_end, tail-end}
use Rattle.desk.specs.Desks.{Accepting, base_rest, accept_of}
use Rattle.desk.specs.declared.Desk.{Desk}
use Rattle.desk_output.specs.Outputs.{short_list_line}
use Rattle.desk_runs.specs.Runs.{lists_of, table_for, line_for, tables_from, refused_lines_from, tables_with, refused_lines_with}

module _ (desk : Desk) (before : ℕ) (input : List ℕ) where
  module _ (size : ℕ) (sized : size ≡ whole_size no_bare input) where
    -- what the desk answers to the first list
    abbrev pub first : Accepting
    first = accept_of base_rest desk (take (size - 2) (drop 2 input))

    module _ (some : 1 ≤ size) where
      pub tables_more : tables_with desk input ≡ table_for first.verdict first.desk ++ tables_with first.desk (drop size input)
      unfolding tables_with tables_from lists_of
      tables_more = rw (calls_more no_bare input size sized some) refl

      pub lines_more : refused_lines_with desk before input ≡ line_for first.verdict (before + 1) ++ refused_lines_with first.desk (before + 1) (drop size input)
      unfolding refused_lines_with refused_lines_from lists_of
      lines_more =
          rw (calls_more no_bare input size sized some, tail_more no_bare input size sized some short_list_line)
          (append_assoc (line_for first.verdict (before + 1)) (refused_lines_from first.desk (before + 1) (lists_of (drop size input))) (short_tail no_bare short_list_line (drop size input)))

    module _ (none : size ≡ 0) where
      pub tables-none : tables_with desk input ≡ []
      unfolding tables_with tables_from lists_of
      tables-none = rw (calls_none no_bare input size sized none) refl

      pub lines-short : 1 ≤ length input → refused_lines_with desk before input ≡ short_list_line
      unfolding refused_lines_with refused_lines_from lists_of
      lines-short some = rw (calls_none no_bare input size sized none, tail-short no_bare input size sized none short_list_line some) refl

  module _ (end : length input ≡ 0) where
    pub tables_end : tables_with desk input ≡ []
    unfolding tables_with tables_from lists_of
    tables_end = rw (calls_end no_bare input end) refl

    pub lines_end : refused_lines_with desk before input ≡ []
    unfolding refused_lines_with refused_lines_from lists_of
    lines_end = rw (calls_end no_bare input end, tail-end no_bare input end short_list_line) refl
