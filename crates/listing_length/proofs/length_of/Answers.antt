-- `length_of`: before each turn the bytes of the recording so far are counted.
use Prim.Native.Nat.{ℕ, ◌+◌, ◌≤◌, min}
use mathlib.Core.Path.{◌≡◌, refl, ap, ◌∙◌, subst⁻¹}
use mathlib.Core.List.{List}
use lib.ListN.{length}
use lib.Seq.{length-sets}
use native.Mathlib.Omega.{arith}
use borrow.Author.Rules.{rules}
use Rattle.text.specs.Putting.{put_on}
use Rattle.text.specs.declared.sheets.Sheet.{Sheet}
use Rattle.lister.specs.Pieces.{most_tables}
use Rattle.listing_length.specs.Lengths.{piece_lines_room}
use Rattle.listing_length.proofs.Counting.{SoFar, so_far-none, so_far-made, so_far-more, so_far-all}
use Rattle.listing_length.proofs.length_of.Goals as goal

-- what was put from a sheet's start on, in numbers
sizes : (bytes : List ℕ) (before : Sheet) {after : Sheet} → after ≡ put_on bytes before → before.at ≡ 0 → length before.buffer.now ≡ piece_lines_room
    → (after.at ≡ min (0 + length bytes) piece_lines_room) × (length after.buffer.now ≡ piece_lines_room)
unfolding put_on
sizes bytes before put start room =
    (ap (λ s. s.at) put ∙ omega (arith, start, room), ap (λ s. length s.buffer.now) put ∙ (length-sets before.buffer.now before.at bytes ∙ room))

pub loop-piece-init : goal.loop-piece-init
loop-piece-init c =
    let iterator = c.into_iter-piece-iterator.ensures.into_iter_gives in
    let room : length c.on-sheet.result.buffer.now ≡ piece_lines_room = search rules in
    let header = sizes _ c.on-sheet.result c.put_header.ensures (omega (arith, c.on-sheet.ensures.1)) room in
    record {
      size = ap (λ i. i.size) iterator ∙ c.chunks-piece-items.ensures.size;
      room = header.1;
      counted = subst⁻¹ (SoFar c.args.recording.now c.begun-lister.result c.put_header.new.listing.at) (ap (λ i. i.rest.now) iterator ∙ c.chunks-piece-items.ensures.rest) (so_far-none c.begun-lister.ensures header.0);
    }

pub take-lister-requires : goal.take-lister-requires
take-lister-requires c = so_far-made c.loop-piece.invariant.counted

pub loop-piece-preserved : goal.loop-piece-preserved
loop-piece-preserved c =
    let l = c.loop-piece in
    let piece = c.in-Some.piece.now in
    let steps = c.in-Some.ensures.steps in
    let said = c.take-lister.ensures in
    let lines = sizes _ (record { buffer = l.sheet.buffer; at = 0 }) said.1 refl l.invariant.room in
    record {
      size = steps.0 ∙ l.invariant.size;
      room = lines.1;
      counted =
          so_far-more (λ i. omega (arith, c.type_inv.recording i)) piece c.next.new.self.rest.now l.invariant.counted steps.1.0 (omega (arith, steps.1.1, l.invariant.size)) said.0 lines.0
          c.saturating_add-bytes.ensures;
    }

pub returns : goal.returns
returns c =
    let l = c.loop-piece in
    let all : length c.args.recording.now ≤ most_tables = search rules in
    let end = sizes _ (record { buffer = l.sheet.buffer; at = 0 }) c.finish.ensures refl l.invariant.room in
    so_far-all l.invariant.counted c.in-None.ensures.steps.1.0 all end.0 c.saturating_add.ensures
