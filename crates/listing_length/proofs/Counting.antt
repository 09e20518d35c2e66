-- The bytes that were printed for the recording so far, piece by piece: every piece has room for all its lines, so that what was put is all that
-- is printed.
use Prim.Native.Nat.{ℕ, ◌+◌, ◌-◌, ◌≤◌, min}
use mathlib.Core.Path.{◌≡◌, refl, sym, ap, ◌∙◌, subst, subst⁻¹}
use mathlib.Core.Logic.{◌↔◌}
use mathlib.Core.List.{List, [], ◌∷◌, ◌++◌, append_assoc, append-nil}
use lib.ListN.{length, take, drop, length-take, length-append}
use lib.Seq.{take_at, drop_at}
use native.Mathlib.Omega.{arith}
use Rattle.kit.specs.Bytes.{Bytes}
use Rattle.kit.specs.Put.{Poured}
use Rattle.kit.proofs.Bytes.{take-bytes, drop-bytes}
use Rattle.listing_lines.specs.Lines.{header_line}
use Rattle.lister.specs.Pieces.{most_tables, begun_lister, take_of, piece_lines, MadeByPieces, made_begun, taken_piece}
use Rattle.lister.specs.declared.Lister.{Lister}
use Rattle.lister.proofs.Kept.{begun_kept, take_none, lines_none, take-then, lines-of-then}
use Rattle.lister.proofs.Phases.{bytes-to, lines-to}
use Rattle.listing.specs.Listings.{listing, end_of}
use Rattle.listing.proofs.Whole.{in_one}
use Rattle.listing_room.proofs.Lines.{header_long}
use Rattle.listing_room.proofs.Room.{after_all, piece_short, end_room_lem, listing-short}
use Rattle.listing_length.specs.Lengths.{most_length, listing_length, piece_size, piece_lines_room}

-- the bytes of the header and of the lines, of the part of a recording that came so far
abbrev bytes_so_far : List ℕ → ℕ
bytes_so_far before = min (length header_line + length (piece_lines begun_lister before)) most_length

-- so far `before` came, and `rest` is left: the state and the count are those of it
pub record SoFar (recording : List ℕ) (lister : Lister) (bytes : ℕ) (rest : List ℕ) : Type 0 where
  pub before : List ℕ
  pub cut : recording ≡ before ++ rest
  pub state : lister ≡ take_of begun_lister before
  pub counted : bytes ≡ bytes_so_far before

-- the bytes in front are bytes, and those behind
front-bytes : (l m : List ℕ) → Bytes (l ++ m) → Bytes l
front-bytes l m bytes = subst Bytes (take_at l m (length l) refl) (take-bytes (length l) (l ++ m) bytes)

back-bytes : (l m : List ℕ) → Bytes (l ++ m) → Bytes m
back-bytes l m bytes = subst Bytes (drop_at l m (length l) refl) (drop-bytes (length l) (l ++ m) bytes)

-- the lines of a piece have room, whatever came before it
piece_room_lem : (before piece : List ℕ) → Bytes (before ++ piece) → length piece ≤ piece_size → length (piece_lines (take_of begun_lister before) piece) ≤ piece_lines_room
unfolding after_all
piece_room_lem before piece fits small = omega (arith, piece_short (before ∷ []) (front-bytes before piece fits, tt) piece (back-bytes before piece fits), small)

module _ {recording : List ℕ} where
  -- before any piece
  pub so_far-none : {lister : Lister} {bytes : ℕ} → lister ≡ begun_lister → bytes ≡ min (0 + length header_line) piece_lines_room → SoFar recording lister bytes recording
  so_far-none begins put =
      record { before = []; cut = refl; state = begins ∙ sym (take_none begun_kept); counted = omega (arith, put, header_long, ap length (lines_none begun_kept)) }

  pub so_far-made : {lister : Lister} {bytes : ℕ} {rest : List ℕ} → SoFar recording lister bytes rest → MadeByPieces lister
  so_far-made s = subst⁻¹ MadeByPieces s.state (taken_piece made_begun s.before)

  -- one piece more, whose lines have room
  pub so_far-more : Bytes recording → {lister next : Lister} {bytes put sum : ℕ} {rest : List ℕ} (piece more : List ℕ) → SoFar recording lister bytes rest → rest ≡ piece ++ more
      → length piece ≤ piece_size → next ≡ take_of lister piece → put ≡ min (0 + length (piece_lines lister piece)) piece_lines_room → sum ≡ min (bytes + put) most_length
      → SoFar recording next sum more
  so_far-more fits {lister} {next} {bytes} {put} {sum} {rest} piece more s rests small takes puts sums =
      let before = s.before in
      let cut : recording ≡ (before ++ piece) ++ more = s.cut ∙ (ap (λ l. before ++ l) rests ∙ sym (append_assoc before piece more)) in
      let both : Bytes (before ++ piece) = front-bytes (before ++ piece) more (subst Bytes cut fits) in
      let room = piece_room_lem before piece both small in
      record {
        before = before ++ piece;
        cut = cut;
        state = takes ∙ (ap (λ l. take_of l piece) s.state ∙ sym (take-then begun_lister before piece));
        counted =
            omega (
              arith,
              s.counted,
              puts,
              sums,
              room,
              ap (λ (l : Lister). length (piece_lines l piece)) s.state,
              ap length (lines-of-then begun_lister before piece),
              length-append (piece_lines begun_lister before) (piece_lines (take_of begun_lister before) piece),
            );
      }

  -- all of it, and the end
  pub so_far-all : {lister : Lister} {bytes last answer : ℕ} {rest : List ℕ} → SoFar recording lister bytes rest → length rest ≡ 0 → length recording ≤ most_tables
      → last ≡ min (0 + length (end_of lister)) piece_lines_room → answer ≡ min (bytes + last) most_length → answer ≡ listing_length recording
  unfolding listing_length
  so_far-all {lister} {bytes} {last} {answer} {rest} s none counted put sum =
      let whole : recording ≡ s.before = s.cut ∙ (ap (λ l. s.before ++ l) (empty rest none) ∙ append-nil s.before) in
      let end = end_of (take_of begun_lister recording) in
      let lines = piece_lines begun_lister recording in
      omega (
        arith,
        s.counted,
        put,
        sum,
        ap (λ (l : Lister). length (end_of l)) (s.state ∙ ap (take_of begun_lister) (sym whole)),
        ap (λ (l : List ℕ). length (piece_lines begun_lister l)) whole,
        end_room_lem (taken_piece made_begun recording),
        ap length (in_one recording counted),
        length-append header_line (lines ++ end),
        length-append lines end,
      )
    where
      empty : (l : List ℕ) → length l ≡ 0 → l ≡ []
      empty [] e = refl
      empty (x ∷ l) e = absurd (omega (arith, e))

-- W-06: of a recording that has no more than 2^61 bytes the length is told exactly
pub length-exact : (recording : List ℕ) → Bytes recording → length recording ≤ 0x2000000000000000 → listing_length recording ≡ length (listing recording)
unfolding listing_length
length-exact recording fits small = omega (arith, listing-short recording fits (omega arith))

-- and what was put for it is the whole listing exactly where it has that length
pub whole-told : (recording : List ℕ) → Bytes recording → length recording ≤ 0x2000000000000000 → {before after : List ℕ} {put : ℕ} → Poured before 0 (listing recording) after put
    → (put ≡ listing_length recording) ↔ (length (listing recording) ≤ length before)
whole-told recording fits small poured = (λ same. omega (arith, same, poured.past, length-exact recording fits small), λ room. omega (arith, room, poured.past, length-exact recording fits small))

-- ---- laws that docs/PORT.md names: the code's loop went, the laws hold as they did

module _ (recording : List ℕ) where
  -- the bytes of the header and of the lines, so far
  abbrev pub so_far : ℕ → ℕ
  so_far from = bytes_so_far (take from recording)

  pub header_counted : {bytes : ℕ} → bytes ≡ min (0 + length header_line) piece_lines_room → bytes ≡ so_far 0
  header_counted put = omega (arith, put, header_long, ap length (lines_none begun_kept))

  module _ (fits : Bytes recording) where
    -- one piece more
    pub piece_counted : {from to : ℕ} {lister : Lister} {bytes next room : ℕ} → from ≤ to → to - from ≤ piece_size → lister ≡ take_of begun_lister (take from recording) → bytes ≡ so_far from
        → room ≡ piece_lines_room → next ≡ min (bytes + min (length (piece_lines lister (take (to - from) (drop from recording)))) room) most_length → next ≡ so_far to
    piece_counted {from} {to} {lister} {bytes} {next} {room} forth small same before size sum =
        let before_it = take from recording in
        let piece = take (to - from) (drop from recording) in
        let both : Bytes (before_it ++ piece) = subst Bytes (bytes-to begun_lister recording forth) (take-bytes to recording fits) in
        let few : length piece ≤ piece_size = omega (arith, length-take (to - from) (drop from recording)) in
        omega (
          arith,
          before,
          sum,
          size,
          ap length (lines-to begun_lister recording forth same),
          length-append (piece_lines begun_lister before_it) (piece_lines lister piece),
          ap (λ (s : Lister). length (piece_lines s piece)) same,
          piece_room_lem before_it piece both few,
        )
