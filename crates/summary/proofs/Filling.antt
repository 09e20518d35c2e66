-- A telegram made of the bytes that were kept and those of a piece, and what is counted when it and those behind it are heard.
use Prim.Native.Nat.{ℕ, ◌+◌, ◌-◌, ◌<◌, ◌≤◌}
use mathlib.Core.Path.{◌≡◌, sym, ap, ap₂, ◌∙◌}
use mathlib.Core.List.{List, ◌∷◌, ◌++◌, append_assoc, append-nil}
use lib.ListN.{length, take, drop, length-append, length-take, length-drop, take-append-drop, drop_of_length-le}
use lib.Seq.{sets, sets-eq, length-take-le, take-append_seam, drop-append_seam, drop-drop}
use native.Mathlib.Omega.{arith}
use Rattle.kit.specs.Put.{Poured}
use Rattle.listener.specs.declared.Listener.{Listener}
use Rattle.lister.specs.Hearings.{telegrams_in, tail_of, heard_by}
use Rattle.lister.specs.Pieces.{MadeByPieces}
use Rattle.lister.specs.declared.Lister.{Lister}
use Rattle.lister.proofs.Cutting.{telegrams-then, telegrams-none, telegrams-one, tail_none}
use Rattle.lister.proofs.Kept.{Kept, made_kept, joined-kept, filled-to, filled-whole}
use Rattle.summary.specs.Counts.{told_through}
use Rattle.summary.specs.Tallies.{counted, counted_all, counted_piece}
use Rattle.summary.specs.declared.Tally.{Tally}

-- the counts when these bytes have been heard
abbrev pub to_count : Tally → Listener → List ℕ → Tally
to_count tally listener bytes = counted_all tally (told_through listener (telegrams_in bytes))

-- the first telegram, and the others
telegrams-first : (telegram more : List ℕ) → length telegram ≡ 26 → telegrams_in (telegram ++ more) ≡ telegram ∷ telegrams_in more
telegrams-first telegram more long =
    telegrams-then telegram more
    ∙ (ap (λ (l : List (List ℕ)). l ++ telegrams_in (tail_of telegram ++ more)) (telegrams-one telegram long)
    ∙ ap (λ (l : List ℕ). telegram ∷ telegrams_in (l ++ more)) (tail_none telegram long))

-- the first telegram of some bytes is heard and counted, and then those behind it
first-heard : (tally : Tally) (listener : Listener) (bytes : List ℕ) → 26 ≤ length bytes
    → counted_all tally (told_through listener (telegrams_in bytes))
    ≡ counted_all (counted tally (heard_by listener (take 26 bytes)).told) (told_through (heard_by listener (take 26 bytes)).listener (telegrams_in (drop 26 bytes)))
unfolding told_through counted_all
first-heard tally listener bytes room =
    ap (λ (l : List (List ℕ)). counted_all tally (told_through listener l))
    (ap telegrams_in (sym (take-append-drop 26 bytes)) ∙ telegrams-first (take 26 bytes) (drop 26 bytes) (length-take-le 26 bytes room))

-- so a turn: one telegram is heard and counted, and more bytes are left
pub count_turn : (tally : Tally) (listener : Listener) {next : Tally} {then : Listener} {bytes : List ℕ} (telegram more : List ℕ) → bytes ≡ telegram ++ more → length telegram ≡ 26
    → next ≡ counted tally (heard_by listener telegram).told → then ≡ (heard_by listener telegram).listener → to_count next then more ≡ to_count tally listener bytes
count_turn tally listener {next} {then} {bytes} telegram more cut long counts means =
    let own : take 26 (telegram ++ more) ≡ telegram = ap (λ (n : ℕ). take n (telegram ++ more)) (sym long) ∙ take-append_seam telegram more in
    let left : drop 26 (telegram ++ more) ≡ more = ap (λ (n : ℕ). drop n (telegram ++ more)) (sym long) ∙ drop-append_seam telegram more in
    let counting : List ℕ → List ℕ → Tally = λ first rest. to_count (counted tally (heard_by listener first).told) (heard_by listener first).listener rest in
    ap₂ (λ (t : Tally) (l : Listener). to_count t l more) counts means
    ∙ sym (ap (to_count tally listener) cut
    ∙ (first-heard tally listener (telegram ++ more) (omega (arith, length-append telegram more, long)) ∙ ap₂ counting own left))

-- the end: no telegram is whole
pub count-end : (tally : Tally) (listener : Listener) (bytes : List ℕ) → length bytes < 26 → to_count tally listener bytes ≡ tally
unfolding told_through counted_all
count-end tally listener bytes short = ap (λ (l : List (List ℕ)). counted_all tally (told_through listener l)) (telegrams-none bytes short)

pub room-left : {lister : Lister} → MadeByPieces lister → lister.kept < 26
room-left m = let kept = (made_kept m).1 in omega (arith, kept.short, kept.counted)

module _ {lister : Lister} (m : MadeByPieces lister) where
  abbrev kept-bytes : List ℕ
  kept-bytes = (made_kept m).0

  abbrev kept : Kept lister kept-bytes
  kept = (made_kept m).1

  -- what is counted is what the kept bytes and the piece have
  all-counted : (tally : Tally) (piece : List ℕ) → counted_piece tally lister piece ≡ to_count tally lister.listener (kept-bytes ++ piece)
  unfolding counted_piece
  all-counted tally piece = ap (to_count tally lister.listener) (joined-kept kept piece)

  -- a piece that makes no telegram whole
  pub piece-short : (tally : Tally) (piece : List ℕ) → length piece < 26 - lister.kept → tally ≡ counted_piece tally lister piece
  piece-short tally piece short =
      sym (all-counted tally piece ∙ count-end tally lister.listener (kept-bytes ++ piece) (omega (arith, length-append kept-bytes piece, kept.counted)))

  -- the telegram in hand is made whole, heard and counted, and the rest of the piece is left
  pub first-counted : (tally : Tally) {piece : List ℕ} (end rest : List ℕ) {next : Tally} {listener then : Listener} {telegram : List ℕ} {past : ℕ} → piece ≡ end ++ rest → length end ≡ 26 - lister.kept
      → Poured lister.tail lister.kept end telegram past → listener ≡ lister.listener → next ≡ counted tally (heard_by listener telegram).told
      → then ≡ (heard_by listener telegram).listener → to_count next then rest ≡ counted_piece tally lister piece
  first-counted tally {piece} end rest {next} {listener} {then} {telegram} {past} cut lacking poured same counts means =
      let room : lister.kept + length end ≤ 26 = omega (arith, lacking, room-left m) in
      let full : 26 ≤ past = omega (arith, filled-to kept room poured, length-append kept-bytes end, kept.counted, lacking) in
      let (is, long) = filled-whole kept room poured full in
      let whole : kept-bytes ++ piece ≡ telegram ++ rest =
      ap (λ (l : List ℕ). kept-bytes ++ l) cut ∙ (sym (append_assoc kept-bytes end rest) ∙ ap (λ (l : List ℕ). l ++ rest) (sym is)) in
      count_turn tally listener telegram rest whole (ap length is ∙ long) counts means
      ∙ (ap (λ (l : Listener). to_count tally l (kept-bytes ++ piece)) same ∙ sym (all-counted tally piece))

-- ---- laws that docs/PORT.md names: the code's loop went, the laws hold as they did

-- the bytes that are still to be heard: the first of a telegram's room, and a piece from a place on
abbrev waiting : List ℕ → ℕ → List ℕ → ℕ → List ℕ
waiting telegram kept piece from = take kept telegram ++ drop from piece

module _ (telegram piece : List ℕ) (kept from : ℕ) (wide : length telegram ≡ 26) (few : kept < 26) where
  front_long : length (take kept telegram) ≡ kept
  front_long = length-take-le kept telegram (omega arith)

  -- `count_turn`, where a telegram's room is filled from the piece
  pub waiting_turn : (tally next : Tally) (listener then : Listener) {after : List ℕ} {past : ℕ} → from + (26 - kept) ≤ length piece
      → Poured telegram kept (take (from + (26 - kept) - from) (drop from piece)) after past → next ≡ counted tally (heard_by listener after).told
      → then ≡ (heard_by listener after).listener → to_count tally listener (waiting telegram kept piece from) ≡ to_count next then (waiting after 0 piece (from + (26 - kept)))
  waiting_turn tally next listener then {after} room poured counts means =
      let front = take kept telegram in
      let part = take (26 - kept) (drop from piece) in
      let size : from + (26 - kept) - from ≡ 26 - kept = omega arith in
      let long : length part ≡ 26 - kept = omega (arith, length-take (26 - kept) (drop from piece), length-drop from piece) in
      let filled : after ≡ front ++ part =
      poured.stored
      ∙ (ap (λ (n : ℕ). sets telegram kept (take n (drop from piece))) size
      ∙ (sets-eq part telegram kept (omega (arith, long))
      ∙ (ap (λ (l : List ℕ). (front ++ part) ++ l) (drop_of_length-le telegram {i = kept + length part} (omega (arith, long))) ∙ append-nil (front ++ part)))) in
      let left : drop from piece ≡ part ++ drop (from + (26 - kept)) piece =
      sym (ap (λ (l : List ℕ). part ++ l) (sym (drop-drop (26 - kept) from piece)) ∙ take-append-drop (26 - kept) (drop from piece)) in
      let cut : waiting telegram kept piece from ≡ after ++ drop (from + (26 - kept)) piece =
      ap (λ (l : List ℕ). front ++ l) left
      ∙ (sym (append_assoc front part (drop (from + (26 - kept)) piece)) ∙ ap (λ (l : List ℕ). l ++ drop (from + (26 - kept)) piece) (sym filled)) in
      let whole : length after ≡ 26 = ap length filled ∙ omega (arith, length-append front part, front_long, long) in
      sym (count_turn tally listener after (drop (from + (26 - kept)) piece) cut whole counts means)
