-- However a recording is cut into pieces, what is printed for them, one after another, is its listing.
use Prim.Native.Nat.{ℕ, ◌≤◌}
use mathlib.Core.Path.{◌≡◌, sym, ap, ◌∙◌}
use mathlib.Core.List.{List, [], ◌∷◌, ◌++◌, append_assoc}
use lib.ListN.{length}
use Rattle.listener.specs.Listeners.{fresh_listener}
use Rattle.listing_lines.specs.Lines.{header_line, end_line}
use Rattle.lister.specs.Hearings.{telegrams_in, tail_of, lines_for}
use Rattle.lister.specs.Pieces.{most_tables, begun_lister, take_of, piece_lines}
use Rattle.listing.specs.Listings.{tail_line, listing, end_of, together, printed}
use Rattle.lister.specs.declared.Lister.{Lister}
use Rattle.lister.proofs.Recording.{recording-lines, recording-tail, recording-tables}
use Rattle.lister.proofs.Kept.{Kept, begun_kept, take-kept, take-then, lines-of-then, take_none, lines_none}

-- the recording as one piece
pub in_one : (recording : List ℕ) → length recording ≤ most_tables → header_line ++ (piece_lines begun_lister recording ++ end_of (take_of begun_lister recording)) ≡ listing recording
unfolding listing end_of
in_one recording room =
    let last = take_of begun_lister recording in
    let lines = lines_for fresh_listener (telegrams_in recording) in
    ap (λ (l : List ℕ). header_line ++ (l ++ (tail_line last.kept ++ end_line last.tables))) (recording-lines recording)
    ∙ (ap (λ (n : ℕ). header_line ++ (lines ++ (tail_line n ++ end_line last.tables))) (recording-tail recording)
    ∙ ap (λ (n : ℕ). header_line ++ (lines ++ (tail_line (length (tail_of recording)) ++ end_line n))) (recording-tables recording room))

-- ---- whatever the pieces

printed-all : {lister : Lister} {bytes : List ℕ} (k : Kept lister bytes) (pieces : List (List ℕ)) → printed lister pieces ≡ piece_lines lister (together pieces) ++ end_of (take_of lister (together pieces))
unfolding printed together
printed-all {lister = lister} {bytes = bytes} k [] = sym (ap (λ (l : List ℕ). l ++ end_of (take_of lister [])) (lines_none k) ∙ ap end_of (take_none k))
printed-all {lister = lister} {bytes = bytes} k (piece ∷ more) =
    let rest = together more in
    ap (λ (l : List ℕ). piece_lines lister piece ++ l) (printed-all {lister = take_of lister piece} (take-kept lister piece) more)
    ∙ (sym (append_assoc (piece_lines lister piece) (piece_lines (take_of lister piece) rest) (end_of (take_of (take_of lister piece) rest)))
    ∙ (ap (λ (l : List ℕ). l ++ end_of (take_of (take_of lister piece) rest)) (sym (lines-of-then lister piece rest))
    ∙ ap (λ (s : Lister). piece_lines lister (piece ++ rest) ++ end_of s) (sym (take-then lister piece rest))))

-- G-01 to G-09: the header and what is printed for the pieces is the listing of the whole
pub whatever_the_pieces : (pieces : List (List ℕ)) → length (together pieces) ≤ most_tables → header_line ++ printed begun_lister pieces ≡ listing (together pieces)
whatever_the_pieces pieces room = ap (λ (l : List ℕ). header_line ++ l) (printed-all begun_kept pieces) ∙ in_one (together pieces) room
