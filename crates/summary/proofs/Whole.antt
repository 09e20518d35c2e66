-- However a recording is cut into pieces, what is counted for them, one after another, is the tally of what a fresh listener tells of all its
-- telegrams. Its tables are those of the listing's last line, its telegrams all that the recording has whole, and no refusal of a listener
-- has a number that is not counted.
use Prim.Native.Nat.{ℕ, zero, suc, ◌/◌, ◌≤◌}
use mathlib.Core.Path.{◌≡◌, refl, sym, ap, ◌∙◌}
use mathlib.Core.Bool.{cond}
use mathlib.Core.List.{List, [], ◌∷◌, ◌++◌, append-nil, append_assoc}
use lib.ListN.{length, take, drop, get_or}
use native.Mathlib.Omega.{arith}
use Rattle.listener.specs.Answers.{Outcome, a_refusal, a_repeat, a_part, a_table, Told, as_held}
use Rattle.listener.specs.Listeners.{carries, fresh_listener}
use Rattle.listener.specs.declared.Listener.{Listener}
use Rattle.listing_tables.specs.Tables.{tables_by}
use Rattle.lister.specs.Hearings.{cut, telegrams_in, tail_of, heard_by, listener_through, tables_taken}
use Rattle.lister.specs.Pieces.{most_tables, begun_lister, after_kept, keeping, take_of}
use Rattle.lister.specs.declared.Lister.{Lister}
use Rattle.lister.proofs.Cutting.{telegrams-then, telegrams-none}
use Rattle.lister.proofs.Kept.{Kept, begun_kept, take-kept, joined-kept}
use Rattle.lister.proofs.Recording.{recording-tables}
use Rattle.listing.specs.Listings.{together}
use Rattle.listing_room.proofs.Sizes.{hear-small}
use Rattle.summary.specs.Counts.{told_through, is_table, took_table, how_many_told, tally_of}
use Rattle.summary.specs.Tallies.{counted_piece, counted_pieces}
use Rattle.summary.specs.declared.Tally.{Tally}
use Rattle.summary.proofs.Counting.{counted_all_lem}

-- ---- pieces

told-then : (l : Listener) (a b : List (List ℕ)) → told_through l (a ++ b) ≡ told_through l a ++ told_through (listener_through l a) b
unfolding told_through listener_through
told-then l [] b = refl
told-then l (t ∷ a) b = ap (λ x. (heard_by l t).told ∷ x) (told-then (heard_by l t).listener a b)

told_none : (l : Listener) → told_through l [] ≡ []
unfolding told_through
told_none l = refl

-- what is told of the bytes that were kept and those that follow
abbrev told_of_bytes : Lister → List ℕ → List Told
told_of_bytes lister bytes = told_through lister.listener (telegrams_in bytes)

told-on : (lister : Lister) (piece rest : List ℕ) → told_of_bytes lister (after_kept lister piece ++ rest)
    ≡ told_of_bytes lister (after_kept lister piece) ++ told_of_bytes (take_of lister piece) (tail_of (after_kept lister piece) ++ rest)
unfolding take_of keeping
told-on lister piece rest =
    let bytes = after_kept lister piece in
    ap (told_through lister.listener) (telegrams-then bytes rest) ∙ told-then lister.listener (telegrams_in bytes) (telegrams_in (tail_of bytes ++ rest))

counted_piece_lem : (before : List Told) (lister : Lister) (piece : List ℕ) → counted_piece (tally_of before) lister piece ≡ tally_of (before ++ told_of_bytes lister (after_kept lister piece))
unfolding counted_piece
counted_piece_lem before lister piece = counted_all_lem before (told_of_bytes lister (after_kept lister piece))

counted_pieces_lem : (before : List Told) {lister : Lister} {bytes : List ℕ} → Kept lister bytes → (pieces : List (List ℕ))
    → counted_pieces (tally_of before) lister pieces ≡ tally_of (before ++ told_of_bytes lister (bytes ++ together pieces))
unfolding counted_pieces together
counted_pieces_lem before {lister} {bytes} k [] =
    ap tally_of (sym (ap (λ (x : List Told). before ++ x) (ap (told_of_bytes lister) (append-nil bytes) ∙ nothing) ∙ append-nil before))
  where
    nothing : told_of_bytes lister bytes ≡ []
    nothing = ap (told_through lister.listener) (telegrams-none bytes k.short) ∙ told_none lister.listener
counted_pieces_lem before {lister} {bytes} k (piece ∷ more) =
    let own = told_of_bytes lister (after_kept lister piece) in
    let later = told_of_bytes (take_of lister piece) (tail_of (after_kept lister piece) ++ together more) in
    let joined : after_kept lister piece ++ together more ≡ bytes ++ (piece ++ together more) =
    ap (λ (x : List ℕ). x ++ together more) (joined-kept k piece) ∙ append_assoc bytes piece (together more) in
    ap (λ (t : Tally). counted_pieces t (take_of lister piece) more) (counted_piece_lem before lister piece)
    ∙ (counted_pieces_lem (before ++ own) (take-kept lister piece) more
    ∙ (ap tally_of (append_assoc before own later)
    ∙ ap (λ (x : List Told). tally_of (before ++ x)) (sym (told-on lister piece (together more)) ∙ ap (told_of_bytes lister) joined)))

-- all that a fresh listener tells of a recording
abbrev pub told_of_all : List ℕ → List Told
told_of_all recording = told_through fresh_listener (telegrams_in recording)

-- W-06: the counts of a recording, whatever the pieces
pub whatever_the_pieces : (pieces : List (List ℕ)) → counted_pieces (tally_of []) begun_lister pieces ≡ tally_of (told_of_all (together pieces))
unfolding begun_lister
whatever_the_pieces pieces = counted_pieces_lem [] begun_kept pieces

-- ---- what the counts are

-- G-09: the tables are those that the listing's last line has
table-counts : (outcome : Outcome) → ◌≡◌ {A = ℕ} (cond (is_table outcome) 1 0) (tables_by outcome)
table-counts a_refusal = refl
table-counts a_repeat = refl
table-counts a_part = refl
table-counts a_table = refl

pub many-tables : (l : Listener) (telegrams : List (List ℕ)) → how_many_told took_table (told_through l telegrams) ≡ tables_taken l telegrams
unfolding how_many_told told_through tables_taken
many-tables l [] = refl
many-tables l (t ∷ more) = let heard = heard_by l t in omega (arith, table-counts heard.told.outcome, many-tables heard.listener more)

pub tables_of_the_end : (recording : List ℕ) → length recording ≤ most_tables → (tally_of (told_of_all recording)).tables ≡ tables_taken fresh_listener (telegrams_in recording)
unfolding tally_of
tables_of_the_end recording room =
    omega (arith, many-tables fresh_listener (telegrams_in recording), recording-tables recording room, (take-kept begun_lister recording).few)

-- so that they are those of `end T`, whatever the pieces
pub pieces_tables : (pieces : List (List ℕ)) → length (together pieces) ≤ most_tables
    → (counted_pieces (tally_of []) begun_lister pieces).tables ≡ tables_taken fresh_listener (telegrams_in (together pieces))
pieces_tables pieces room = ap (λ (t : Tally). t.tables) (whatever_the_pieces pieces) ∙ tables_of_the_end (together pieces) room

-- G-01: the telegrams are all that are whole
told-long : (l : Listener) (n : ℕ) (bytes : List ℕ) → length (told_through l (cut n bytes)) ≡ n
unfolding told_through cut
told-long l zero bytes = refl
told-long l (suc n) bytes = omega (arith, told-long (heard_by l (take 26 bytes)).listener n (drop 26 bytes))

pub telegrams-whole : (recording : List ℕ) → length recording ≤ most_tables → (tally_of (told_of_all recording)).telegrams ≡ length recording / 26
unfolding tally_of telegrams_in
telegrams-whole recording room = omega (arith, told-long fresh_listener (length recording / 26) recording)

-- R-20: every refusal has a number that is counted
pub numbers-counted : (l : Listener) (telegrams : List (List ℕ)) (i : ℕ) → (get_or (told_through l telegrams) i as_held).number ≤ 15
unfolding told_through
numbers-counted l [] i = omega arith
numbers-counted l (t ∷ more) zero = (hear-small carries l t).number
numbers-counted l (t ∷ more) (suc i) = numbers-counted (heard_by l t).listener more i
