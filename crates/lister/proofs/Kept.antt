-- What is kept from one piece to the next, and pieces one after another: two pieces are as one that has both.
use Prim.Native.Nat.{ℕ, zero, suc, ◌+◌, ◌-◌, ◌<◌, ◌≤◌, min}
use mathlib.Core.Path.{◌≡◌, refl, sym, ap, ◌∙◌, subst}
use mathlib.Core.List.{List, [], ◌∷◌, ◌++◌, append_assoc, append-nil}
use lib.ListN.{length, take, drop, replicate, length-append, length-replicate}
use lib.Seq.{sets, sets-eq, take_at, take-append_seam, drop-append-add, drop-nil}
use borrow.Rule.Slice.PartMut.{put_mid}
use native.Mathlib.Omega.{arith}
use Rattle.kit.specs.Put.{Poured}
use Rattle.text.proofs.Copies.{part_sets}
use Rattle.listener.specs.Answers.{Hearing}
use Rattle.listener.specs.declared.Listener.{Listener}
use Rattle.listing_tables.specs.Tables.{heard_lines, tables_of}
use Rattle.lister.specs.Hearings.{telegrams_in, tail_of, heard_by, listener_through, lines_for, tables_taken}
use Rattle.lister.specs.Pieces.{most_tables, padded, begun_lister, after_kept, keeping, take_of, piece_lines, MadeByPieces, made_begun, taken_piece}
use Rattle.lister.specs.declared.Lister.{Lister}
use Rattle.lister.proofs.Cutting.{telegrams-then, tail-then, tail-short, telegrams-none, tail_all, telegrams-one, tail_none}
use Rattle.lister.proofs.Folds.{after_then, lines_then, tables_then}

-- these bytes are kept, fewer than a telegram has, and the count of tables is one that can be
pub record Kept (lister : Lister) (bytes : List ℕ) : Type 0 where
  pub short : length bytes < 26
  pub stored : lister.tail ≡ padded bytes
  pub counted : lister.kept ≡ length bytes
  pub few : lister.tables ≤ most_tables

pub begun_kept : Kept begun_lister []
unfolding begun_lister
begun_kept = record { short = omega arith; stored = refl; counted = refl; few = omega arith }

pub take-kept : (lister : Lister) (piece : List ℕ) → Kept (take_of lister piece) (tail_of (after_kept lister piece))
unfolding take_of keeping
take-kept lister piece = record { short = tail-short (after_kept lister piece); stored = refl; counted = refl; few = omega arith }

pub made_kept : {lister : Lister} → MadeByPieces lister → (bytes : List ℕ) × Kept lister bytes
made_kept made_begun = ([], begun_kept)
made_kept (taken_piece {lister} m piece) = (tail_of (after_kept lister piece), take-kept lister piece)

-- the bytes that are kept are those in front
pub front : {lister : Lister} {bytes : List ℕ} → Kept lister bytes → take lister.kept lister.tail ≡ bytes
front {lister} {bytes} k = ap (λ (l : List ℕ). take lister.kept l) k.stored ∙ take_at bytes (replicate (26 - length bytes) 0) lister.kept (sym k.counted)

pub joined-kept : {lister : Lister} {bytes : List ℕ} → Kept lister bytes → (piece : List ℕ) → after_kept lister piece ≡ bytes ++ piece
joined-kept k piece = ap (λ (l : List ℕ). l ++ piece) (front k)

-- a state by its parts
abbrev pub state : Listener → ℕ → List ℕ → ℕ → Lister
state listener tables tail kept = record { listener = listener; tables = tables; tail = tail; kept = kept }

-- the telegrams of a second run, after those of a first
keeping-then : (lister : Lister) (a b : List (List ℕ)) (between left : List ℕ) → keeping lister (a ++ b) left ≡ keeping (keeping lister a between) b left
unfolding keeping
keeping-then lister a b between left =
    let l = lister.listener in
    let sum : min (lister.tables + tables_taken l (a ++ b)) most_tables ≡ min (min (lister.tables + tables_taken l a) most_tables + tables_taken (listener_through l a) b) most_tables
    = omega (arith, tables_then l a b) in
    ap (λ (x : Listener). state x (min (lister.tables + tables_taken l (a ++ b)) most_tables) (padded left) (length left)) (after_then l a b)
    ∙ ap (λ (n : ℕ). state (listener_through (listener_through l a) b) n (padded left) (length left)) sum

pub take-then : (lister : Lister) (p q : List ℕ) → take_of lister (p ++ q) ≡ take_of (take_of lister p) q
unfolding take_of
take-then lister p q =
    let t = tail_of (after_kept lister p) in
    let whole : after_kept lister (p ++ q) ≡ after_kept lister p ++ q = sym (append_assoc (take lister.kept lister.tail) p q) in
    let next : after_kept (take_of lister p) q ≡ t ++ q = joined-kept (take-kept lister p) q in
    ap (λ (x : List ℕ). keeping lister (telegrams_in x) (tail_of x)) whole
    ∙ (ap (λ (x : List (List ℕ)). keeping lister x (tail_of (after_kept lister p ++ q))) (telegrams-then (after_kept lister p) q)
    ∙ (ap (λ (x : List ℕ). keeping lister (telegrams_in (after_kept lister p) ++ telegrams_in (t ++ q)) x) (tail-then (after_kept lister p) q)
    ∙ (keeping-then lister (telegrams_in (after_kept lister p)) (telegrams_in (t ++ q)) t (tail_of (t ++ q))
    ∙ ap (λ (x : List ℕ). keeping (take_of lister p) (telegrams_in x) (tail_of x)) (sym next))))

pub lines-of-then : (lister : Lister) (p q : List ℕ) → piece_lines lister (p ++ q) ≡ piece_lines lister p ++ piece_lines (take_of lister p) q
unfolding piece_lines take_of keeping
lines-of-then lister p q =
    let l = lister.listener in
    let t = tail_of (after_kept lister p) in
    let whole : after_kept lister (p ++ q) ≡ after_kept lister p ++ q = sym (append_assoc (take lister.kept lister.tail) p q) in
    let next : after_kept (take_of lister p) q ≡ t ++ q = joined-kept (take-kept lister p) q in
    ap (λ (x : List ℕ). lines_for l (telegrams_in x)) whole
    ∙ (ap (lines_for l) (telegrams-then (after_kept lister p) q)
    ∙ (lines_then l (telegrams_in (after_kept lister p)) (telegrams_in (t ++ q))
    ∙ ap (λ (x : List ℕ). lines_for l (telegrams_in (after_kept lister p)) ++ lines_for (listener_through l (telegrams_in (after_kept lister p))) (telegrams_in x)) (sym next)))

module _ {lister : Lister} {bytes : List ℕ} (k : Kept lister bytes) (piece : List ℕ) where
  -- what does not yet make a telegram is kept, and prints nothing
  pub take_part : length (bytes ++ piece) < 26 → take_of lister piece ≡ state lister.listener lister.tables (padded (bytes ++ piece)) (length (bytes ++ piece))
  unfolding take_of keeping listener_through tables_taken
  take_part p =
      let same : min (lister.tables + 0) most_tables ≡ lister.tables = omega (arith, k.few) in
      ap (λ (x : List ℕ). keeping lister (telegrams_in x) (tail_of x)) (joined-kept k piece)
      ∙ (ap (λ (x : List (List ℕ)). keeping lister x (tail_of (bytes ++ piece))) (telegrams-none (bytes ++ piece) p)
      ∙ (ap (λ (x : List ℕ). keeping lister [] x) (tail_all (bytes ++ piece) p)
      ∙ ap (λ (n : ℕ). state lister.listener n (padded (bytes ++ piece)) (length (bytes ++ piece))) same))

  pub lines-part : length (bytes ++ piece) < 26 → piece_lines lister piece ≡ []
  unfolding piece_lines lines_for
  lines-part p = ap (λ (x : List ℕ). lines_for lister.listener (telegrams_in x)) (joined-kept k piece) ∙ ap (lines_for lister.listener) (telegrams-none (bytes ++ piece) p)

  -- what makes just one telegram is heard, and nothing is left
  pub take-one : length (bytes ++ piece) ≡ 26 → take_of lister piece ≡ keeping lister ((bytes ++ piece) ∷ []) []
  unfolding take_of
  take-one p =
      ap (λ (x : List ℕ). keeping lister (telegrams_in x) (tail_of x)) (joined-kept k piece)
      ∙ (ap (λ (x : List (List ℕ)). keeping lister x (tail_of (bytes ++ piece))) (telegrams-one (bytes ++ piece) p)
      ∙ ap (λ (x : List ℕ). keeping lister ((bytes ++ piece) ∷ []) x) (tail_none (bytes ++ piece) p))

  pub lines-one : length (bytes ++ piece) ≡ 26 → piece_lines lister piece ≡ lines_for lister.listener ((bytes ++ piece) ∷ [])
  unfolding piece_lines
  lines-one p = ap (λ (x : List ℕ). lines_for lister.listener (telegrams_in x)) (joined-kept k piece) ∙ ap (lines_for lister.listener) (telegrams-one (bytes ++ piece) p)

-- nothing comes: nothing changes, and nothing is printed
pub take_none : {lister : Lister} {bytes : List ℕ} → Kept lister bytes → take_of lister [] ≡ lister
take_none {lister} {bytes} k =
    let e : bytes ++ [] ≡ bytes = append-nil bytes in
    let short : length (bytes ++ []) < 26 = subst (λ (x : List ℕ). length x < 26) (sym e) k.short in
    take_part k [] short
    ∙ (ap (λ (x : List ℕ). state lister.listener lister.tables (padded x) (length x)) e
    ∙ (ap (λ (x : List ℕ). state lister.listener lister.tables x (length bytes)) (sym k.stored)
    ∙ ap (λ (n : ℕ). state lister.listener lister.tables lister.tail n) (sym k.counted)))

pub lines_none : {lister : Lister} {bytes : List ℕ} → Kept lister bytes → piece_lines lister [] ≡ []
lines_none {lister} {bytes} k = lines-part k [] (subst (λ (x : List ℕ). length x < 26) (sym (append-nil bytes)) k.short)

-- ---- filling up the telegram in hand

-- bytes copied into a part of the room for a telegram
pub part_filled : {tail piece part : List ℕ} {kept count : ℕ} → length tail ≡ 26 → kept + length piece ≤ 26 → part ≡ piece → count ≡ length piece
    → Poured tail kept piece (put_mid kept count tail part) (kept + length piece)
part_filled {tail} {piece} {part} {kept} {count} long room same all =
    record {
      stored = part_sets tail part kept count (omega (arith, long, room, all)) (ap length same ∙ sym all) ∙ ap (sets tail kept) same;
      past = omega (arith, long, room);
    }

abbrev zeros : ℕ → List ℕ
zeros n = replicate n 0

drop-replicate : (k n : ℕ) → drop k (zeros n) ≡ zeros (n - k)
drop-replicate zero n = let e : n ≡ n - 0 = omega arith in ap (λ (m : ℕ). zeros m) e
drop-replicate (suc k) zero = let e : 0 ≡ 0 - suc k = omega arith in drop-nil (suc k) ∙ ap (λ (m : ℕ). zeros m) e
drop-replicate (suc k) (suc n) = let e : n - k ≡ suc n - suc k = omega arith in drop-replicate k n ∙ ap (λ (m : ℕ). zeros m) e

module _ {lister : Lister} {bytes : List ℕ} (k : Kept lister bytes) {piece after : List ℕ} {next : ℕ} (room : lister.kept + length piece ≤ 26)
    (p : Poured lister.tail lister.kept piece after next) where
  both_long : length (bytes ++ piece) ≡ lister.kept + length piece
  both_long = omega (arith, length-append bytes piece, k.counted)

  -- the bytes stand behind those that were kept, and zeros behind them
  pub filled : after ≡ padded (bytes ++ piece)
  filled =
      let filler = zeros (26 - length bytes) in
      let long : length (padded bytes) ≡ 26 = omega (arith, length-append bytes filler, length-replicate {A = ℕ} (26 - length bytes) 0, k.short) in
      let inside : length bytes + length piece ≤ length (padded bytes) = omega (arith, k.counted) in
      let left : 26 - length bytes - length piece ≡ 26 - length (bytes ++ piece) = omega (arith, length-append bytes piece) in
      p.stored
      ∙ (ap (λ (l : List ℕ). sets l lister.kept piece) k.stored
      ∙ (ap (λ (i : ℕ). sets (padded bytes) i piece) k.counted
      ∙ (sets-eq piece (padded bytes) (length bytes) inside
      ∙ (ap (λ (l : List ℕ). (l ++ piece) ++ drop (length bytes + length piece) (padded bytes)) (take-append_seam bytes filler)
      ∙ ap (λ (l : List ℕ). (bytes ++ piece) ++ l) (drop-append-add bytes filler (length piece) ∙ (drop-replicate (length piece) (26 - length bytes) ∙ ap (λ (n : ℕ). zeros n) left))))))

  pub filled-to : next ≡ length (bytes ++ piece)
  filled-to =
      let filler = zeros (26 - length bytes) in
      let long : length lister.tail ≡ 26 = ap length k.stored ∙ omega (arith, length-append bytes filler, length-replicate {A = ℕ} (26 - length bytes) 0, k.short) in
      omega (arith, p.past, both_long, long)

  -- a telegram that is whole now is what stands there
  pub filled-whole : 26 ≤ next → (after ≡ bytes ++ piece) × (length (bytes ++ piece) ≡ 26)
  filled-whole q =
      let all : length (bytes ++ piece) ≡ 26 = omega (arith, filled-to, both_long) in
      let none : 26 - length (bytes ++ piece) ≡ 0 = omega arith in
      (filled ∙ (ap (λ (n : ℕ). (bytes ++ piece) ++ zeros n) none ∙ append-nil (bytes ++ piece)), all)

-- one telegram heard
pub heard-one : (lister : Lister) (telegram : List ℕ) {h : Hearing} {tables more : ℕ} → h ≡ heard_by lister.listener telegram → more ≡ tables_of h.told
    → tables ≡ min (lister.tables + more) most_tables → state h.listener tables (padded []) 0 ≡ keeping lister (telegram ∷ []) []
unfolding keeping listener_through tables_taken
heard-one lister telegram {h} {tables} {more} same one sum =
    let l = lister.listener in
    let told : more ≡ tables_of (heard_by l telegram).told = one ∙ ap (λ (x : Hearing). tables_of x.told) same in
    let exact : tables ≡ min (lister.tables + (tables_of (heard_by l telegram).told + 0)) most_tables = omega (arith, sum, told) in
    ap (λ (x : Hearing). state x.listener tables (padded []) 0) same ∙ ap (λ (n : ℕ). state (heard_by l telegram).listener n (padded []) 0) exact

pub lines-of-one : (listener : Listener) (telegram : List ℕ) → lines_for listener (telegram ∷ []) ≡ heard_lines (heard_by listener telegram)
unfolding lines_for
lines-of-one listener telegram = append-nil (heard_lines (heard_by listener telegram))
