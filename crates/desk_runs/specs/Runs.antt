-- What comes of a whole input of lists: everything that the program run_desk writes, and the desk at the input's end.
use Rattle.std.specs.Prelude.{ℕ, ◌+◌, List, [], ◌∷◌, ◌++◌, map}
use Rattle.wire.specs.Verdicts.{Verdict, verdict_accepted, verdict_refused}
use Rattle.frames.specs.Frames.{Framed, no_bare, calls_of, short_tail}
use Rattle.desk.specs.Desks.{base_rest, fresh_desk, accept_of}
use Rattle.desk.specs.declared.Desk.{Desk}
use Rattle.desk_output.specs.Outputs.{five_telegrams, refused_list_line, short_list_line}

-- the lists that the input has whole; every length has its bytes
unfoldable pub lists_of : List ℕ → List (List ℕ)
lists_of input = map (λ (call : Framed). call.1) (calls_of no_bare input)

-- ---- one list

-- D-02, W-03: the table after the step; a refused list gives none
abbrev pub table_for : Verdict → Desk → List ℕ
table_for verdict_accepted desk = five_telegrams desk
table_for (verdict_refused number) desk = []

-- D-18: the line for a refused list; `list` is which one it is
abbrev pub line_for : Verdict → ℕ → List ℕ
line_for verdict_accepted list = []
line_for (verdict_refused number) list = refused_list_line number list

-- ---- many lists, each handed to the desk as the one before it left it

unfoldable pub tables_from : Desk → List (List ℕ) → List ℕ
tables_from desk [] = []
tables_from desk (list ∷ later) =
    let answer = accept_of base_rest desk list in
    table_for answer.verdict answer.desk ++ tables_from answer.desk later

-- `before` lists came before these, accepted and refused ones
unfoldable pub refused_lines_from : Desk → ℕ → List (List ℕ) → List ℕ
refused_lines_from desk before [] = []
refused_lines_from desk before (list ∷ later) =
    let answer = accept_of base_rest desk list in
    line_for answer.verdict (before + 1) ++ refused_lines_from answer.desk (before + 1) later

-- D-02, D-18: the desk that they leave; a refused one leaves it as it was
unfoldable pub desk_from : Desk → List (List ℕ) → Desk
desk_from desk [] = desk
desk_from desk (list ∷ later) = desk_from (accept_of base_rest desk list).desk later

-- ---- a whole input

-- the tables, and the lines with the one for an input that ends inside a list
unfoldable pub tables_with : Desk → List ℕ → List ℕ
tables_with desk input = tables_from desk (lists_of input)

unfoldable pub refused_lines_with : Desk → ℕ → List ℕ → List ℕ
refused_lines_with desk before input = refused_lines_from desk before (lists_of input) ++ short_tail no_bare short_list_line input

-- D-04: from a fresh desk, the lists counted from 1
unfoldable pub run_tables : List ℕ → List ℕ
run_tables input = tables_with fresh_desk input

unfoldable pub refused_lines : List ℕ → List ℕ
refused_lines input = refused_lines_with fresh_desk 0 input

-- D-04: from a fresh desk, the one after all lists that the input has whole
unfoldable pub desk_at_end : List ℕ → Desk
desk_at_end input = desk_from fresh_desk (lists_of input)
