-- `list`: the header, the recording as one piece, and the end.
use mathlib.Core.Path.{◌≡◌, ap, ◌∙◌, subst⁻¹}
use Prim.Native.Nat.{ℕ, ◌≤◌}
use mathlib.Core.List.{List, ◌++◌}
use lib.ListN.{length}
use Rattle.text.specs.Putting.{put_on}
use Rattle.text.proofs.Putting.{put_next, sheet_back}
use Rattle.listing_lines.specs.Lines.{header_line}
use Rattle.lister.specs.Pieces.{most_tables, begun_lister, take_of, piece_lines, MadeByPieces, made_begun}
use Rattle.listing.specs.Listings.{listing, end_of}
use Rattle.lister.specs.declared.Lister.{Lister}
use Rattle.listing.proofs.Whole.{in_one}
use borrow.Author.Rules.{rules}
use Rattle.listing.proofs.list.Goals as goal

listing-of : (recording : List ℕ) → length recording ≤ most_tables → {first last : Lister} → first ≡ begun_lister → last ≡ take_of first recording
    → header_line ++ (piece_lines first recording ++ end_of last) ≡ listing recording
listing-of recording room {first} begins ends =
    ap (λ (s : Lister). header_line ++ (piece_lines first recording ++ end_of s)) ends
    ∙ (ap (λ (s : Lister). header_line ++ (piece_lines s recording ++ end_of (take_of s recording))) begins
    ∙ in_one recording room)

pub take-lister-requires : goal.take-lister-requires
take-lister-requires c = subst⁻¹ MadeByPieces c.begun.ensures made_begun

pub returns : goal.returns
returns c =
    let recording = c.args.recording.now in
    let room : length recording ≤ most_tables = search rules in
    let text = header_line ++ (piece_lines c.begun.result recording ++ end_of c.take-lister.result) in
    let parts : c.finish.new.sheet ≡ put_on text c.on-sheet.result = search (rules, put_next) in
    let all = parts ∙ ap (λ bytes. put_on bytes c.on-sheet.result) (listing-of recording room c.begun.ensures c.take-lister.ensures.0) in
    sheet_back c.args.out c.finish.new.sheet c.on-sheet.ensures.0 c.on-sheet.ensures.1 all (search rules)
