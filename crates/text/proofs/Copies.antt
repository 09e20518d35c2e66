-- As many bytes of words as have room, copied into a buffer at once; and put one by one.
use Prim.Native.Nat.{ℕ, ◌+◌, ◌-◌, ◌<◌, ◌≤◌, min}
use mathlib.Core.Path.{◌≡◌, refl, sym, ap, ◌∙◌, subst}
use mathlib.Core.List.{List, [], ◌∷◌, ◌++◌}
use native.Mathlib.Numerals.{add-one}
use native.Mathlib.Omega.{arith}
use lib.Dec.{leb}
use lib.ListN.{length, take, drop, get_or, set, take-append-drop, drop_of_length-le}
use lib.Seq.{sets, sets-eq, take_all, take-suc, length-take-le}
use borrow.Author.Tests.{leb-true, leb-false}
use borrow.Rule.Slice.PartMut.{put_mid}
use Rattle.std.proofs.lemmas.Slice.{put_mid-paste}
use Rattle.kit.specs.Put.{Put, Poured}
use Rattle.kit.proofs.Cases.{on}
use Rattle.kit.proofs.Put.{put_none_lem, put_then, put_as, put-length, poured-none, poured_as, poured-then, poured-length, poured_full}

-- a part written over is a run of stores
pub part_sets : (l stored : List ℕ) (at count : ℕ) → at + count ≤ length l → length stored ≡ count → put_mid at count l stored ≡ sets l at stored
part_sets l stored at count room long =
    let end : at + count ≡ at + length stored = omega arith in
    put_mid-paste at count l stored stored count refl refl (sym long)
    ∙ (ap (λ s. take at l ++ s ++ drop (at + count) l) (take_all count stored (omega arith))
    ∙ (ap (λ i. take at l ++ stored ++ drop i l) end ∙ sym (sets-eq stored l at (omega arith))))

pub copied : (l words stored : List ℕ) (at end : ℕ) → at < length l → end ≡ at + min (length words) (length l - at) → stored ≡ take (end - at) words
    → Poured l at words (put_mid at (end - at) l stored) end
copied l words stored at end inside reached same =
    let count = end - at in
    let m = put_mid at count l stored in
    let long : length (take count words) ≡ count = length-take-le count words (omega arith) in
    let first : Poured l at (take count words) m end =
    record { stored = ap (put_mid at count l) same ∙ part_sets l (take count words) at count (omega arith) long; past = omega arith } in
    let rest : Poured m end (drop count words) m end =
    on (leb (length words) count)
    (λ e.
    subst (λ bytes. Poured m end bytes m end) (sym (drop_of_length-le words {i = count} (omega (arith, leb-true (length words) count e))))
    (poured-none m end (omega (arith, poured-length first))))
    (λ e.
    let full : length m ≡ end = omega (arith, poured-length first, leb-false (length words) count e) in
    subst (λ next. Poured m end (drop count words) m next) full (poured_full m end (drop count words) (omega arith))) in
    poured_as (sym (take-append-drop count words)) (poured-then first rest)

-- ---- laws that docs/changes/CR-13.md names: the code's loops went, the laws hold as they did

-- the first bytes of words put one by one
pub copied_none : (words : List ℕ) {l : List ℕ} {at : ℕ} → Put l at (take 0 words) l (at + 0)
copied_none words {l} {at} = let here : at ≡ at + 0 = omega arith in subst (λ j. Put l at [] l j) here put_none_lem

pub copied_more : (words : List ℕ) (i : ℕ) {l m : List ℕ} {at : ℕ} → i < length words → Put l at (take i words) m (at + i) → Put l at (take (i + 1) words) (set m (at + i) (get_or words i 0)) (at + (i + 1))
copied_more words i {l} {m} {at} p so_far =
    let one : Put m (at + i) (get_or words i 0 ∷ []) (set m (at + i) (get_or words i 0)) (at + (i + 1)) = record { stored = refl; past = omega arith } in
    put_as (ap (λ k. take k words) (add-one i) ∙ take-suc words i 0 p) (put_then so_far one)

-- all of the words have room
pub copied_all : (words : List ℕ) {l m : List ℕ} {at j : ℕ} → at + length words ≤ length l → Put l at (take (length words) words) m j → Poured l at words m j
copied_all words {l} {m} {at} {j} room p =
    let whole : take (length words) words ≡ words = take_all (length words) words (omega arith) in
    let q : Put l at words m j = put_as (sym whole) p in
    record { stored = q.stored; past = omega (arith, q.past) }

-- so many have room, and they reach the buffer's end
pub copied_part : (words : List ℕ) (count : ℕ) {l m : List ℕ} {at j : ℕ} → at + count ≡ length l → count ≤ length words → Put l at (take count words) m j → Poured l at words m j
copied_part words count {l} {m} {at} {j} end few p =
    let short : length (take count words) ≡ count = length-take-le count words few in
    let long : length m ≡ length l = put-length p in
    let reached : length m ≡ j = omega (arith, p.past) in
    let first : Poured l at (take count words) m j = record { stored = p.stored; past = omega (arith, p.past) } in
    let rest : Poured m j (drop count words) m j = subst (λ k. Poured m j (drop count words) m k) reached (poured_full m j (drop count words) (omega arith)) in
    poured_as (sym (take-append-drop count words)) (poured-then first rest)
