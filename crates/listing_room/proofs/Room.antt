-- All that is printed for a piece has room in a buffer of 262,080 bytes, the header in one of 16 and the end in one of 64. The contracts of
-- the program `list_conditions` ask for these sizes by their names in specs/Rooms.antt, and what puts the header and what puts the end promise by
-- these laws that all of it is put.
--
-- A piece makes at most one telegram whole for every 26 of its bytes, and one more with the bytes that were kept; a piece of 10,400 bytes makes
-- at most four hundred whole, whose lines are at most 51,759 bytes: 639 for each five of them, and for the packets that were held before. That is
-- so because every slot that the listener holds was read from bytes, after any pieces.
use Prim.Native.Nat.{ℕ, zero, suc, ◌+◌, ◌*◌, ◌/◌, ◌≤◌}
use mathlib.Core.Path.{◌≡◌, refl, sym, ap, ◌∙◌, subst}
use mathlib.Core.List.{List, [], ◌∷◌, ◌++◌}
use lib.Dec.{eqb}
use lib.ListN.{length, take, drop, length-append}
use lib.Seq.{length-take-le}
use native.Mathlib.Omega.{arith}
use Rattle.kit.specs.Bytes.{Bytes}
use Rattle.kit.specs.Put.{Put, Poured}
use Rattle.kit.proofs.Bytes.{take-bytes, drop-bytes, append_bytes}
use Rattle.kit.proofs.Cases.{on, given}
use Rattle.kit.proofs.Put.{put-length, poured-put}
use Rattle.listener.proofs.Every.{Every, fresh_every}
use Rattle.listing_room.specs.Rooms.{telegrams_room, piece_room, lines_room, header_room, end_room}
use Rattle.listing_lines.specs.Lines.{header_line, end_line}
use Rattle.listing_room.proofs.Lines.{header_long, refused-short, end_short}
use Rattle.listing_room.proofs.Tables.{Narrow}
use Rattle.listing_room.proofs.Telegrams.{empty-narrow, AllBytes, through_narrow, lines_more, lines_room_lem}
use Rattle.lister.specs.Hearings.{cut, telegrams_in, tail_of}
use Rattle.lister.specs.Pieces.{most_tables, begun_lister, after_kept, keeping, take_of, piece_lines, MadeByPieces, made_begun, taken_piece}
use Rattle.listing.specs.Listings.{tail_line, end_of, listing}
use Rattle.listing.proofs.Whole.{in_one}
use Rattle.lister.proofs.Recording.{recording-lines}
use Rattle.lister.specs.declared.Lister.{Lister}
use Rattle.lister.proofs.Kept.{Kept, begun_kept, take-kept, made_kept, joined-kept}

-- bytes that have room in a buffer were put there: the place past them counts bytes of the buffer
pub put_counts_lem : {l m : List ℕ} {j : ℕ} {a : List ℕ} → length a ≤ length l → Put l 0 a m j → j ≡ length (take j m)
put_counts_lem {l} {m} {j} room put = sym (length-take-le j m (omega (arith, room, put.past, put-length put)))

-- ---- the telegrams in bytes

cut-bytes : (n : ℕ) (bytes : List ℕ) → Bytes bytes → AllBytes (cut n bytes)
unfolding cut
cut-bytes zero bytes fits = tt
cut-bytes (suc n) bytes fits = (take-bytes 26 bytes fits, cut-bytes n (drop 26 bytes) (drop-bytes 26 bytes fits))

cut-long : (n : ℕ) (bytes : List ℕ) → length (cut n bytes) ≡ n
unfolding cut
cut-long zero bytes = refl
cut-long (suc n) bytes = ap suc (cut-long n (drop 26 bytes))

telegrams-bytes : (bytes : List ℕ) → Bytes bytes → AllBytes (telegrams_in bytes)
unfolding telegrams_in
telegrams-bytes bytes fits = cut-bytes (length bytes / 26) bytes fits

telegrams-long : (bytes : List ℕ) → length (telegrams_in bytes) ≡ length bytes / 26
unfolding telegrams_in
telegrams-long bytes = cut-long (length bytes / 26) bytes

-- ---- pieces

-- bytes are kept, and every slot was read from bytes
record Fit (lister : Lister) : Type 0 where
  left : List ℕ
  kept : Kept lister left
  bytes : Bytes left
  narrow : Every Narrow lister.listener

begun_fit : Fit begun_lister
unfolding begun_lister
begun_fit = record { left = []; kept = begun_kept; bytes = λ i. omega arith; narrow = fresh_every Narrow empty-narrow }

module _ (lister : Lister) (fit : Fit lister) (piece : List ℕ) (bytes : Bytes piece) where
  joined_bytes : Bytes (after_kept lister piece)
  joined_bytes = subst Bytes (sym (joined-kept fit.kept piece)) (append_bytes fit.left piece fit.bytes bytes)

  take_fit : Fit (take_of lister piece)
  unfolding take_of keeping telegrams_in tail_of
  take_fit =
      let all = after_kept lister piece in
      record {
        left = tail_of all;
        kept = take-kept lister piece;
        bytes = drop-bytes (length all / 26 * 26) all joined_bytes;
        narrow = through_narrow (telegrams_in all) (telegrams-bytes all joined_bytes) lister.listener fit.narrow;
      }

  lines-short : length (piece_lines lister piece) ≤ telegrams_room ((length piece + 25) / 26) + 639
  unfolding piece_lines
  lines-short =
      let all = after_kept lister piece in
      let long : length all ≡ length fit.left + length piece = ap length (joined-kept fit.kept piece) ∙ length-append fit.left piece in
      omega (arith, lines_more (telegrams_in all) (telegrams-bytes all joined_bytes) lister.listener fit.narrow, telegrams-long all, long, fit.kept.short)

-- the state after pieces, the oldest first
unfoldable pub after_all : Lister → List (List ℕ) → Lister
after_all lister [] = lister
after_all lister (piece ∷ more) = after_all (take_of lister piece) more

after_fit : (pieces : List (List ℕ)) → AllBytes pieces → (lister : Lister) → Fit lister → Fit (after_all lister pieces)
unfolding after_all
after_fit [] bytes lister fit = fit
after_fit (piece ∷ more) (own, bytes) lister fit = after_fit more bytes (take_of lister piece) (take_fit lister fit piece own)

-- ---- what has room

module _ (earlier : List (List ℕ)) (bytes : AllBytes earlier) (piece : List ℕ) (own : Bytes piece) where
  -- after any pieces of bytes, the lines of a further one: the room for the telegrams that become whole, and that for a table whose packets
  -- were held before
  pub piece_short : length (piece_lines (after_all begun_lister earlier) piece) ≤ telegrams_room ((length piece + 25) / 26) + 639
  piece_short = lines-short (after_all begun_lister earlier) (after_fit earlier bytes begun_lister begun_fit) piece own

  -- those of a piece of the program's size
  pub program-room : length piece ≤ piece_room → length (piece_lines (after_all begun_lister earlier) piece) ≤ lines_room
  program-room p = omega (arith, piece_short)

  -- so that a buffer of that size takes them all
  pub all-put : {before after : List ℕ} {next : ℕ} → length piece ≤ piece_room → length before ≡ lines_room → Poured before 0 (piece_lines (after_all begun_lister earlier) piece) after next
      → Put before 0 (piece_lines (after_all begun_lister earlier) piece) after next
  all-put p room poured = poured-put (omega (arith, program-room p)) poured

-- G-02: the header has room
pub header_room_lem : length header_line ≤ header_room
header_room_lem = omega (arith, header_long)

tail_line-short : (kept : ℕ) → length (tail_line kept) ≤ 11
unfolding tail_line
tail_line-short kept = on (eqb kept 0) (λ e. rw e (omega arith)) (λ e. rw e (refused-short 10 (omega arith)))

end_of-short : (lister : Lister) → lister.tables ≤ most_tables → length (end_of lister) ≤ 36
unfolding end_of
end_of-short lister few =
    omega (arith, length-append (tail_line lister.kept) (end_line lister.tables), tail_line-short lister.kept, end_short lister.tables (omega arith))

-- G-08, G-09: the end has room, whatever the pieces were
pub end_room_lem : {lister : Lister} → MadeByPieces lister → length (end_of lister) ≤ end_room
end_room_lem {lister} m = given (made_kept m) (λ (bytes, k). omega (arith, end_of-short lister k.few))

-- G-01 to G-09: a whole listing has at most the room for the telegrams that the recording has whole, and 49 bytes more
pub listing-short : (recording : List ℕ) → Bytes recording → length recording ≤ most_tables → length (listing recording) ≤ telegrams_room (length recording / 26) + 49
listing-short recording fits counted =
    let lines = piece_lines begun_lister recording in
    let end = end_of (take_of begun_lister recording) in
    given (made_kept (taken_piece made_begun recording))
    (λ (bytes, k).
    omega (
      arith,
      ap length (in_one recording counted),
      length-append header_line (lines ++ end),
      length-append lines end,
      header_long,
      ap length (recording-lines recording),
      lines_room_lem (telegrams_in recording) (telegrams-bytes recording fits),
      telegrams-long recording,
      end_of-short (take_of begun_lister recording) k.few,
    ))
