-- How many bytes come of an input of lists at most: 130 of tables for each list, 64 of lines, and 11 for an input that ends inside one.
use Prim.Native.Nat.{ℕ, zero, suc, ◌+◌, ◌*◌, ◌^◌, ◌<◌, ◌≤◌}
use mathlib.Core.Path.{◌≡◌, refl}
use mathlib.Core.Logic.{◌⊎◌, inl, inr}
use mathlib.Core.List.{List, [], ◌∷◌}
use lib.ListN.{length, length-append, length-map}
use native.Mathlib.Omega.{arith}
use Rattle.kit.specs.Each.{each}
use Rattle.kit.specs.Ladder.{Decides, NoneHolds}
use Rattle.kit.proofs.Ladder.{decides_such, decides_append}
use Rattle.wire.specs.Verdicts.{Verdict, verdict_accepted, verdict_refused}
use Rattle.frames.specs.Frames.{Framed, no_bare, calls_of, short_tail}
use Rattle.frames.proofs.Splitting.{calls_few, tail-most}
use Rattle.places.specs.declared.Place.{Place}
use Rattle.orders.specs.Orders.{order_rows, list_rows}
use Rattle.order_list.specs.Lists.{order_count}
use Rattle.desk.specs.Desks.{base_rest, fresh_desk, accept_of}
use Rattle.desk.specs.declared.Desk.{Desk}
use Rattle.desk.proofs.Promises.{refused-by}
use Rattle.desk_output.specs.Outputs.{short_list_line}
use Rattle.desk_output.proofs.Room.{table-long, refused-short, short-long}
use Rattle.desk_runs.specs.Runs.{lists_of, table_for, line_for, tables_from, refused_lines_from, tables_with, refused_lines_with, run_tables, refused_lines}

-- ---- one list

table-short : (verdict : Verdict) (desk : Desk) → length (table_for verdict desk) ≤ 130
table-short verdict_accepted desk = omega (arith, table-long desk)
table-short (verdict_refused number) desk = omega arith

line_short : (verdict : Verdict) (list : ℕ) → ((number : ℕ) → verdict ≡ verdict_refused number → number ≤ 8) → list < 10 ^ 20 → length (line_for verdict list) ≤ 64
line_short verdict_accepted list small counted = omega arith
line_short (verdict_refused number) list small counted = refused-short number list (omega (arith, small number refl)) counted

-- R-18: the number of a refusal is that of one of the rows
module _ (places : List Place) (list : List ℕ) where
  order-to_8 : (k n number : ℕ) → Decides (each (order_rows places list) k n) number → number ≤ 8
  unfolding each order_rows
  order-to_8 k zero number d = absurd d
  order-to_8 k (suc n) number d = go (order-to_8 (k + 1) n number) (decides_append (order_rows places list k) (each (order_rows places list) (k + 1) n) number d)
    where
      go : (Decides (each (order_rows places list) (k + 1) n) number → number ≤ 8)
          → Decides (order_rows places list k) number ⊎ (NoneHolds (order_rows places list k) × Decides (each (order_rows places list) (k + 1) n) number) → number ≤ 8
      go next (inl here) = decides_such (λ m. m ≤ 8) (order_rows places list k) number (omega arith) here
      go next (inr (none, later)) = next later

  list-to_8 : (number : ℕ) → Decides (list_rows places list) number → number ≤ 8
  unfolding list_rows
  list-to_8 number (inl (e, own)) = omega arith
  list-to_8 number (inr (e, inl (f, own))) = omega arith
  list-to_8 number (inr (e, inr (f, orders))) = order-to_8 0 (order_count list) number orders

-- ---- many lists

tables-short : (lists : List (List ℕ)) (desk : Desk) → length (tables_from desk lists) ≤ 130 * length lists
unfolding tables_from
tables-short [] desk = omega arith
tables-short (list ∷ later) desk =
    let answer = accept_of base_rest desk list in
    omega (
      arith,
      length-append (table_for answer.verdict answer.desk) (tables_from answer.desk later),
      table-short answer.verdict answer.desk,
      tables-short later answer.desk,
    )

lines-short : (lists : List (List ℕ)) (desk : Desk) (before : ℕ) → before + length lists < 10 ^ 20 → length (refused_lines_from desk before lists) ≤ 64 * length lists
unfolding refused_lines_from
lines-short [] desk before counted = omega arith
lines-short (list ∷ later) desk before counted =
    let answer = accept_of base_rest desk list in
    omega (
      arith,
      length-append (line_for answer.verdict (before + 1)) (refused_lines_from answer.desk (before + 1) later),
      line_short answer.verdict (before + 1) (λ number e. list-to_8 desk.places list number ((refused-by desk list number).0 e)) (omega arith),
      lines-short later answer.desk (before + 1) (omega arith),
    )

-- ---- a whole input

-- W-03: the tables
pub run_room : (input : List ℕ) → length (run_tables input) ≤ 130 * length (lists_of input)
unfolding run_tables tables_with
run_room input = tables-short (lists_of input) fresh_desk

-- D-18: the lines
pub run-lines_room : (input : List ℕ) → length input < 10 ^ 20 → length (refused_lines input) ≤ 64 * length (lists_of input) + 11
unfolding refused_lines refused_lines_with lists_of calls_of
run-lines_room input counted =
    omega (
      arith,
      length-append (refused_lines_from fresh_desk 0 (lists_of input)) (short_tail no_bare short_list_line input),
      lines-short (lists_of input) fresh_desk 0 (omega (arith, calls_few no_bare (length input) input, length-map (calls_of no_bare input) (λ (call : Framed). call.1))),
      tail-most no_bare short_list_line input,
      short-long,
    )
