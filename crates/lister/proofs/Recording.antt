-- A whole recording as the first piece: its lines, its tail and its tables are those of its telegrams.
use Prim.Native.Nat.{ℕ, zero, suc, ◌+◌, ◌/◌, ◌≤◌, min}
use mathlib.Core.Path.{◌≡◌, ap, ◌∙◌}
use mathlib.Core.List.{List}
use lib.ListN.{length, take, drop}
use native.Mathlib.Omega.{arith}
use Rattle.listener.specs.Answers.{Outcome, a_refusal, a_repeat, a_part, a_table}
use Rattle.listener.specs.Listeners.{fresh_listener}
use Rattle.listener.specs.declared.Listener.{Listener}
use Rattle.listing_tables.specs.Tables.{tables_by}
use Rattle.lister.specs.Hearings.{cut, heard_by, telegrams_in, tail_of, lines_for, tables_taken}
use Rattle.lister.specs.Pieces.{most_tables, begun_lister, after_kept, keeping, take_of, piece_lines}
use Rattle.lister.proofs.Kept.{begun_kept, joined-kept}

-- one telegram takes at most one table, so that a recording cannot take more than its count can hold
at_most_one : (outcome : Outcome) → tables_by outcome ≤ 1
at_most_one a_refusal = omega arith
at_most_one a_repeat = omega arith
at_most_one a_part = omega arith
at_most_one a_table = omega arith

few : (l : Listener) (n : ℕ) (bytes : List ℕ) → tables_taken l (cut n bytes) ≤ n
unfolding tables_taken cut
few l zero bytes = omega arith
few l (suc n) bytes =
    let one = heard_by l (take 26 bytes) in
    omega (arith, at_most_one one.told.outcome, few one.listener n (drop 26 bytes))

few-tables : (bytes : List ℕ) → length bytes ≤ most_tables → tables_taken fresh_listener (telegrams_in bytes) ≤ most_tables
unfolding telegrams_in
few-tables bytes p = omega (arith, few fresh_listener (length bytes / 26) bytes)

module _ (recording : List ℕ) where
  all : after_kept begun_lister recording ≡ recording
  all = joined-kept begun_kept recording

  pub recording-lines : piece_lines begun_lister recording ≡ lines_for fresh_listener (telegrams_in recording)
  unfolding piece_lines begun_lister
  recording-lines = ap (λ (x : List ℕ). lines_for fresh_listener (telegrams_in x)) all

  pub recording-tail : (take_of begun_lister recording).kept ≡ length (tail_of recording)
  unfolding take_of keeping
  recording-tail = ap (λ (x : List ℕ). length (tail_of x)) all

  pub recording-tables : length recording ≤ most_tables → (take_of begun_lister recording).tables ≡ tables_taken fresh_listener (telegrams_in recording)
  unfolding take_of keeping begun_lister
  recording-tables room =
      let exact : min (0 + tables_taken fresh_listener (telegrams_in recording)) most_tables ≡ tables_taken fresh_listener (telegrams_in recording) = omega (arith, few-tables recording room) in
      ap (λ (x : List ℕ). min (0 + tables_taken fresh_listener (telegrams_in x)) most_tables) all ∙ exact
