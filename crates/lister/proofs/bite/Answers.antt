-- `bite`: the bytes are put behind those that were kept. With 26 of them the telegram is heard, otherwise all are kept.
use Prim.Native.Nat.{ℕ, ◌+◌, ◌<◌, ◌≤◌}
use mathlib.Core.Path.{◌≡◌, ap, sym, ◌∙◌}
use mathlib.Core.List.{List, [], ◌∷◌, ◌++◌}
use lib.ListN.{length}
use native.Mathlib.Omega.{arith}
use Rattle.kit.specs.Put.{Poured}
use Rattle.text.specs.Putting.{put_on}
use Rattle.text.specs.declared.sheets.Sheet.{Sheet}
use Rattle.text.proofs.Putting.{put_none}
use Rattle.lister.specs.Hearings.{lines_for}
use Rattle.lister.specs.Pieces.{padded, keeping, take_of, piece_lines, MadeByPieces}
use Rattle.lister.specs.declared.Lister.{Lister}
use Rattle.lister.proofs.Kept.{state, made_kept, part_filled, filled, filled-to, filled-whole, take_part, lines-part, take-one, lines-one}
use borrow.Author.Rules.{rules}
use Rattle.lister.proofs.bite.Goals as goal

module _ {lister : Lister} (m : MadeByPieces lister) {piece after : List ℕ} {next : ℕ} (room : lister.kept + length piece ≤ 26) (p : Poured lister.tail lister.kept piece after next)
    (before : Sheet) where
  whole : 26 ≤ next → {r : Lister} {sheet : Sheet} → r ≡ keeping lister (after ∷ []) [] → sheet ≡ put_on (lines_for lister.listener (after ∷ [])) before
      → (r ≡ take_of lister piece) × (sheet ≡ put_on (piece_lines lister piece) before)
  whole full same put =
      let kept = (made_kept m).1 in
      let (is, long) = filled-whole kept room p full in (
        same ∙ (ap (λ (x : List ℕ). keeping lister (x ∷ []) []) is ∙ sym (take-one kept piece long)),
        put ∙ ap (λ bytes. put_on bytes before) (ap (λ (x : List ℕ). lines_for lister.listener (x ∷ [])) is ∙ sym (lines-one kept piece long)),
      )

  part : next < 26 → (state lister.listener lister.tables after next ≡ take_of lister piece) × (before ≡ put_on (piece_lines lister piece) before)
  part few =
      let kept = (made_kept m).1 in
      let to-here = filled-to kept room p in
      let short : length ((made_kept m).0 ++ piece) < 26 = omega (arith, to-here) in (
        ap (λ (x : List ℕ). state lister.listener lister.tables x next) (filled kept room p)
            ∙ (ap (λ (n : ℕ). state lister.listener lister.tables (padded ((made_kept m).0 ++ piece)) n) to-here ∙ sym (take_part kept piece short)),
        sym (ap (λ bytes. put_on bytes before) (lines-part kept piece short) ∙ put_none before),
      )

pub returns-then-kept-ge-LENGTH : goal.returns-then-kept-ge-LENGTH
returns-then-kept-ge-LENGTH c =
    let p = part_filled (search rules) c.requires.1 c.copy_from_slice.ensures.after (omega arith) in
    let said = c.hear_one.ensures in
    whole c.requires.0 c.requires.1 p c.args.listing.now c.if-kept-ge-LENGTH.true said.0 said.1

pub returns-else-kept-ge-LENGTH : goal.returns-else-kept-ge-LENGTH
returns-else-kept-ge-LENGTH c =
    let p = part_filled (search rules) c.requires.1 c.copy_from_slice.ensures.after (omega arith) in
    part c.requires.0 c.requires.1 p c.args.listing.now c.if-kept-ge-LENGTH.false
