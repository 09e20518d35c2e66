-- A piece taken in parts: one after another they are the whole; where no telegram is begun, telegrams that lie whole in it are heard one by
-- one; and when a telegram has become whole, none is begun.
use Prim.Native.Nat.{ℕ, ◌+◌, ◌-◌, ◌*◌, ◌/◌, ◌%◌, ◌<◌, ◌≤◌, min}
use mathlib.Core.Path.{◌≡◌, refl, ap, ap₂, sym, ◌∙◌, subst, subst⁻¹}
use mathlib.Core.Logic.{◌⊎◌, inl, inr}
use mathlib.Core.Bool.{cond}
use mathlib.Core.List.{List, [], ◌∷◌, ◌++◌}
use lib.Dec.{eqb, ltb}
use lib.ListN.{length, take, drop, length-take, length-drop, length-append}
use lib.Seq.{take-add, take_all, drop_at, drop-drop}
use native.Mathlib.Omega.{arith}
use borrow.Author.Tests.{eqb-true, ltb-true, ltb-false}
use Rattle.kit.specs.Put.{Poured}
use Rattle.kit.proofs.Cases.{on}
use Rattle.kit.proofs.Put.{poured_as, poured-then}
use Rattle.text.specs.Putting.{put_on}
use Rattle.text.specs.declared.sheets.Sheet.{Sheet}
use Rattle.text.proofs.Putting.{put_next}
use Rattle.listener.specs.declared.Listener.{Listener}
use Rattle.listing_tables.specs.Tables.{heard_lines}
use Rattle.lister.specs.Hearings.{heard_by, tail_of, lines_for}
use Rattle.lister.specs.Lent.{HeardNext}
use Rattle.lister.specs.Pieces.{padded, keeping, take_of, piece_lines, MadeByPieces, taken_piece}
use Rattle.lister.specs.declared.Lister.{Lister}
use Rattle.lister.proofs.Kept.{Kept, state, made_kept, joined-kept, take-then, lines-of-then, take-one, lines-one, heard-one, lines-of-one}

-- ---- one part after another

-- a part begins with a state that was made
pub here : (start : Lister) (bytes : List ℕ) {lister : Lister} → MadeByPieces start → lister ≡ take_of start bytes → MadeByPieces lister
here start bytes m same = subst⁻¹ MadeByPieces same (taken_piece m bytes)

pub lacks : {lister : Lister} → MadeByPieces lister → lister.kept < 26
lacks m = let kept = (made_kept m).1 in omega (arith, kept.short, kept.counted)

-- a piece in two parts, in a lent buffer
pub two_parts : (start : Lister) {piece : List ℕ} (first second : List ℕ) → piece ≡ first ++ second → {between end : Lister} {l m n : List ℕ} {at i j : ℕ}
    → (between ≡ take_of start first) × Poured l at (piece_lines start first) m i → (end ≡ take_of between second) × Poured m i (piece_lines between second) n j
    → (end ≡ take_of start piece) × Poured l at (piece_lines start piece) n j
two_parts start {piece} first second both (a, al) (b, bl) = (
  b ∙ (ap (λ s. take_of s second) a ∙ (sym (take-then start first second) ∙ ap (take_of start) (sym both))),
  poured_as (ap (piece_lines start) both ∙ (lines-of-then start first second ∙ ap (λ s. piece_lines start first ++ piece_lines s second) (sym a))) (poured-then al bl),
)

-- and on a sheet
pub parts_on : (start : Lister) {piece : List ℕ} (first second : List ℕ) → piece ≡ first ++ second → {between end : Lister} (before : Sheet) {middle after : Sheet}
    → (between ≡ take_of start first) × (middle ≡ put_on (piece_lines start first) before) → (end ≡ take_of between second) × (after ≡ put_on (piece_lines between second) middle)
    → (end ≡ take_of start piece) × (after ≡ put_on (piece_lines start piece) before)
parts_on start {piece} first second both {between} before (a, al) (b, bl) =
    let parts : piece_lines start piece ≡ piece_lines start first ++ piece_lines between second =
    ap (piece_lines start) both ∙ (lines-of-then start first second ∙ ap (λ s. piece_lines start first ++ piece_lines s second) (sym a)) in (
      b ∙ (ap (λ s. take_of s second) a ∙ (sym (take-then start first second) ∙ ap (take_of start) (sym both))),
      bl
          ∙ (ap (put_on (piece_lines between second)) al
          ∙ (put_next (piece_lines start first) (piece_lines between second) before ∙ ap (λ bytes. put_on bytes before) (sym parts))),
    )

-- ---- where no telegram is begun

-- then nothing is kept
pub none-begun : {lister : Lister} → MadeByPieces lister → lister.kept ≡ 0 → Kept lister []
none-begun {lister} m e = go (made_kept m).0 (made_kept m).1
  where
    go : (bytes : List ℕ) → Kept lister bytes → Kept lister []
    go [] k = k
    go (b ∷ more) k = absurd (omega (arith, k.counted, e))

-- one telegram heard, as the memory and the count have it
pub next-heard : (lister : Lister) (telegram : List ℕ) (before after : Listener) (tables : ℕ) → before ≡ lister.listener → HeardNext (heard_by before telegram) lister.tables after tables
    → state after tables (padded []) 0 ≡ keeping lister (telegram ∷ []) []
next-heard lister telegram before after tables same next =
    let n : HeardNext (heard_by lister.listener telegram) lister.tables after tables = subst (λ l. HeardNext (heard_by l telegram) lister.tables after tables) same next in
    ap (λ l. state l tables (padded []) 0) n.means ∙ heard-one lister telegram refl refl n.counts

pub next-lines : (lister : Lister) (telegram : List ℕ) (before : Listener) → before ≡ lister.listener → lines_for lister.listener (telegram ∷ []) ≡ heard_lines (heard_by before telegram)
next-lines lister telegram before same = lines-of-one lister.listener telegram ∙ ap (λ l. heard_lines (heard_by l telegram)) (sym same)

-- the same where none is begun: the telegram is a piece
module _ {lister : Lister} (k : Kept lister []) (telegram : List ℕ) (whole : length telegram ≡ 26) where
  pub whole-taken : (after : Listener) (tables : ℕ) → HeardNext (heard_by lister.listener telegram) lister.tables after tables
      → state after tables lister.tail lister.kept ≡ take_of lister telegram
  whole-taken after tables next =
      (λ t. state after tables (k.stored t) (k.counted t)) ∙ (next-heard lister telegram lister.listener after tables refl next ∙ sym (take-one k telegram whole))

  pub whole-lines : piece_lines lister telegram ≡ heard_lines (heard_by lister.listener telegram)
  whole-lines = lines-one k telegram whole ∙ next-lines lister telegram lister.listener refl

-- after whole telegrams none is begun
pub none_after : {lister : Lister} → Kept lister [] → (bytes : List ℕ) → length bytes ≡ length bytes / 26 * 26 → (take_of lister bytes).kept ≡ 0
unfolding take_of keeping tail_of
none_after {lister} k bytes whole =
    ap (λ (x : List ℕ). length (drop (length x / 26 * 26) x)) (joined-kept k bytes) ∙ omega (arith, length-drop (length bytes / 26 * 26) bytes)

-- nor when the one that was begun has become whole
pub none_left : {lister : Lister} {kept : List ℕ} → Kept lister kept → (bytes : List ℕ) → length (kept ++ bytes) ≡ 26 → (take_of lister bytes).kept ≡ 0
unfolding keeping
none_left k bytes whole = ap (λ (l : Lister). l.kept) (take-one k bytes whole)

-- ---- what is left of a piece when telegrams of it were heard: the state has no telegram begun, or there is nothing left; and the state and
-- the lines go on from there as from the start

pub record Left (start : Lister) (piece : List ℕ) (before : Sheet) (lister : Lister) (rest : List ℕ) (sheet : Sheet) : Type 0 where
  pub made : MadeByPieces lister
  pub free : (lister.kept ≡ 0) ⊎ (length rest ≡ 0)
  pub within : length rest ≤ length piece
  pub behind : rest ≡ drop (length piece - length rest) piece
  pub even : length rest % 26 ≡ length piece % 26
  pub goes : take_of lister rest ≡ take_of start piece
  pub put : put_on (piece_lines lister rest) sheet ≡ put_on (piece_lines start piece) before

-- where bytes are left, none is begun
unbegun : {kept left : ℕ} → (kept ≡ 0) ⊎ (left ≡ 0) → 0 < left → kept ≡ 0
unbegun (inl none) some = none
unbegun (inr empty) some = absurd (omega arith)

module _ {start : Lister} {piece : List ℕ} {before : Sheet} where
  pub left-all : MadeByPieces start → (start.kept ≡ 0) ⊎ (length piece ≡ 0) → {lister : Lister} → lister ≡ start → Left start piece before lister piece before
  left-all m free {lister} same =
      let none : length piece - length piece ≡ 0 = omega arith in
      subst⁻¹ (λ l. Left start piece before l piece before) same
      (record {
        made = m;
        free = free;
        within = omega arith;
        behind = ap (λ k. drop k piece) (sym none);
        even = refl;
        goes = refl;
        put = refl;
      })

  -- one telegram of it
  pub left-next : {lister : Lister} {rest : List ℕ} {sheet : Sheet} (telegram more : List ℕ) → Left start piece before lister rest sheet → rest ≡ telegram ++ more → length telegram ≡ 26
      → {listener : Listener} {tables : ℕ} {after : Sheet} → HeardNext (heard_by lister.listener telegram) lister.tables listener tables
      → after ≡ put_on (heard_lines (heard_by lister.listener telegram)) sheet
      → Left start piece before (state listener tables lister.tail lister.kept) more after
  left-next {lister} {rest} {sheet} telegram more l cut long {listener} {tables} heard put =
      let size : length rest ≡ 26 + length more = ap length cut ∙ omega (arith, length-append telegram more, long) in
      let zero-kept : lister.kept ≡ 0 = unbegun l.free (omega (arith, size)) in
      let kept : Kept lister [] = none-begun l.made zero-kept in
      let next : Lister = state listener tables lister.tail lister.kept in
      let same : next ≡ take_of lister telegram = whole-taken kept telegram long listener tables heard in
      let lines : List ℕ = heard_lines (heard_by lister.listener telegram) in
      let told : lines ++ piece_lines next more ≡ piece_lines lister rest =
      ap₂ (λ x s. x ++ piece_lines s more) (sym (whole-lines kept telegram long)) same ∙ (sym (lines-of-then lister telegram more) ∙ ap (piece_lines lister) (sym cut)) in
      let past : length piece - length more ≡ length piece - length rest + 26 = omega (arith, size, l.within) in
      record {
        made = here lister telegram l.made same;
        free = inl zero-kept;
        within = omega (arith, size, l.within);
        behind =
            sym (drop_at telegram more 26 long)
            ∙ (ap (drop 26) (sym cut ∙ l.behind) ∙ (drop-drop 26 (length piece - length rest) piece ∙ ap (λ k. drop k piece) (sym past)));
        even = omega (arith, size, l.even);
        goes = ap (λ s. take_of s more) same ∙ (sym (take-then lister telegram more) ∙ (ap (take_of lister) (sym cut) ∙ l.goes));
        put = ap (put_on (piece_lines next more)) put ∙ (put_next lines (piece_lines next more) sheet ∙ (ap (λ bytes. put_on bytes sheet) told ∙ l.put));
      }

  module _ {lister : Lister} {rest : List ℕ} {sheet : Sheet} (l : Left start piece before lister rest sheet) where
    -- fewer bytes than a telegram has are left: those at the end, and they have room
    pub left-behind : length rest < 26 → rest ≡ drop (length piece - length piece % 26) piece
    left-behind few = let long : length piece - length rest ≡ length piece - length piece % 26 = omega (arith, l.even) in l.behind ∙ ap (λ k. drop k piece) long

    pub left-fits : length rest < 26 → lister.kept + length rest ≤ 26
    left-fits few = go l.free
      where
        go : (lister.kept ≡ 0) ⊎ (length rest ≡ 0) → lister.kept + length rest ≤ 26
        go (inl none) = omega arith
        go (inr empty) = omega (arith, lacks l.made)

    -- the same under other names
    pub left_as : {other : Lister} {bytes : List ℕ} → other ≡ lister → bytes ≡ rest → Left start piece before other bytes sheet
    left_as {other} {bytes} same e = subst⁻¹ (λ s. Left start piece before s bytes sheet) same (subst⁻¹ (λ b. Left start piece before lister b sheet) e l)

    -- what is left is taken
    pub left-done : {end : Lister} {after : Sheet} → end ≡ take_of lister rest → after ≡ put_on (piece_lines lister rest) sheet
        → (end ≡ take_of start piece) × (after ≡ put_on (piece_lines start piece) before)
    left-done same put = (same ∙ l.goes, put ∙ l.put)

-- the bytes that the telegram in hand lacks, and those behind them
module _ {lister : Lister} {piece : List ℕ} (first second : List ℕ) (m : MadeByPieces lister) (both : piece ≡ first ++ second)
    (lacking : length first ≡ cond (eqb lister.kept 0) 0 (min (26 - lister.kept) (length piece))) where
  pub cut_fits : lister.kept + length first ≤ 26
  cut_fits =
      on (eqb lister.kept 0)
      (λ e. let none : length first ≡ 0 = lacking ∙ rw e refl in omega (arith, none, lacks m))
      (λ e. let some : length first ≡ min (26 - lister.kept) (length piece) = lacking ∙ rw e refl in omega (arith, some, lacks m))

  -- after them none is begun, or nothing is left
  pub cut-begun : {between : Lister} → between ≡ take_of lister first → (between.kept ≡ 0) ⊎ (length second ≡ 0)
  cut-begun {between} same =
      on (eqb lister.kept 0)
      (λ e.
      let none : length first ≡ 0 = lacking ∙ rw e refl in
      inl (ap (λ (l : Lister). l.kept) same ∙ none_after (none-begun m (eqb-true lister.kept 0 e)) first (omega (arith, none))))
      (λ e.
      let some : length first ≡ min (26 - lister.kept) (length piece) = lacking ∙ rw e refl in
      let (bytes, kept) = made_kept m in
      on (ltb (26 - lister.kept) (length piece))
      (λ more.
      let all : length (bytes ++ first) ≡ 26 = omega (arith, length-append bytes first, kept.counted, kept.short, some, ltb-true (26 - lister.kept) (length piece) more) in
      inl (ap (λ (l : Lister). l.kept) same ∙ none_left kept first all))
      (λ less. inr (omega (arith, ap length both ∙ length-append first second, some, ltb-false (26 - lister.kept) (length piece) less))))

-- ---- laws that docs/changes/CR-13.md names: the code's loops went, the laws hold as they did

-- the bytes of a turn, after those of the turns before
module _ (start : Lister) (piece : List ℕ) {from to : ℕ} (forth : from ≤ to) where
  pub bytes-to : take to piece ≡ take from piece ++ take (to - from) (drop from piece)
  bytes-to = let e : to ≡ from + (to - from) = omega arith in ap (λ (n : ℕ). take n piece) e ∙ take-add from (to - from) piece

  pub again : {lister next : Lister} → lister ≡ take_of start (take from piece) → next ≡ take_of lister (take (to - from) (drop from piece)) → next ≡ take_of start (take to piece)
  again same step =
      step ∙ (ap (λ (s : Lister). take_of s (take (to - from) (drop from piece))) same
      ∙ (sym (take-then start (take from piece) (take (to - from) (drop from piece))) ∙ ap (take_of start) (sym bytes-to)))

  pub lines-to : {lister : Lister} → lister ≡ take_of start (take from piece)
      → piece_lines start (take to piece) ≡ piece_lines start (take from piece) ++ piece_lines lister (take (to - from) (drop from piece))
  lines-to same =
      ap (piece_lines start) bytes-to
      ∙ (lines-of-then start (take from piece) (take (to - from) (drop from piece))
      ∙ ap (λ (s : Lister). piece_lines start (take from piece) ++ piece_lines s (take (to - from) (drop from piece))) (sym same))

  pub lines-again : {lister : Lister} {l m n : List ℕ} {at i j : ℕ} → lister ≡ take_of start (take from piece) → Poured l at (piece_lines start (take from piece)) m i
      → Poured m i (piece_lines lister (take (to - from) (drop from piece))) n j → Poured l at (piece_lines start (take to piece)) n j
  lines-again same a b = poured_as (lines-to same) (poured-then a b)

-- a piece cut at a place
module _ (start : Lister) (piece : List ℕ) (cut : ℕ) where
  abbrev first : List ℕ
  first = take (cut - 0) piece

  abbrev second : List ℕ
  second = take (length piece - cut) (drop cut piece)

  both : cut ≤ length piece → first ++ second ≡ piece
  both p =
      let e : cut - 0 ≡ cut = omega arith in
      ap (λ (n : ℕ). take n piece ++ second) e
      ∙ (sym (take-add cut (length piece - cut) piece) ∙ take_all (cut + (length piece - cut)) piece (omega arith))

-- how many of its bytes are telegrams that lie whole in it
module _ (lister : Lister) (piece : List ℕ) (m : MadeByPieces lister) (begun : (lister.kept ≡ 0) ⊎ (length piece ≡ 0)) where
  abbrev whole : ℕ
  whole = length piece / 26 * 26

  whole_length : length (first lister piece whole) ≡ whole
  whole_length = omega (arith, length-take (whole - 0) piece)

  pub whole-begun : (lister.kept ≡ 0) ⊎ (length (first lister piece whole) ≡ 0)
  whole-begun = go begun
    where
      go : (lister.kept ≡ 0) ⊎ (length piece ≡ 0) → (lister.kept ≡ 0) ⊎ (length (first lister piece whole) ≡ 0)
      go (inl none) = inl none
      go (inr empty) = inr (omega (arith, whole_length))

  pub whole_even : length (first lister piece whole) ≡ length (first lister piece whole) / 26 * 26
  whole_even = omega (arith, whole_length)

  pub whole-left : {between : Lister} → between ≡ take_of lister (first lister piece whole) → between.kept + length (second lister piece whole) ≤ 26
  whole-left {between} same = go begun
    where
      few : length (second lister piece whole) < 26
      few = omega (arith, length-take (length piece - whole) (drop whole piece), length-drop whole piece)

      go : (lister.kept ≡ 0) ⊎ (length piece ≡ 0) → between.kept + length (second lister piece whole) ≤ 26
      go (inl none) =
          let kept : between.kept ≡ 0 = ap (λ (l : Lister). l.kept) same ∙ none_after (none-begun m none) (first lister piece whole) whole_even in
          omega (arith, kept, few)
      go (inr empty) = let kept = lacks (here lister (first lister piece whole) m same) in omega (arith, kept, length-take (length piece - whole) (drop whole piece), length-drop whole piece)

-- how many bytes the telegram in hand lacks
module _ (lister : Lister) (piece : List ℕ) (m : MadeByPieces lister) (cut : ℕ) (lacking : cut ≡ cond (eqb lister.kept 0) 0 (min (26 - lister.kept) (length piece))) where
  pub cut_inside : cut ≤ length piece
  cut_inside =
      on (eqb lister.kept 0)
      (λ e. let none : cut ≡ 0 = lacking ∙ rw e refl in omega arith)
      (λ e. let some : cut ≡ min (26 - lister.kept) (length piece) = lacking ∙ rw e refl in omega arith)

  cut-length : length (first lister piece cut) ≡ cut
  cut-length = omega (arith, length-take (cut - 0) piece, cut_inside)
