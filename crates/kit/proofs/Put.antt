-- Laws of `Put`: one byte, one run after another, and a run that fills the buffer.
use Prim.Native.Nat.{ℕ, suc, ◌+◌, ◌<◌, ◌≤◌}
use mathlib.Core.Path.{◌≡◌, refl, sym, ap, ◌∙◌, subst}
use mathlib.Core.List.{List, [], ◌∷◌, ◌++◌, append-nil}
use lib.ListN.{length, take, drop, get_or, set, length-append, drop_of_length-le}
use lib.Dec.{leb}
use lib.Seq.{sets, sets-eq, length-sets, length-take-le, take-suc, take_all}
use native.Mathlib.Nat.{add-zero}
use native.Mathlib.Numerals.{add-one}
use native.Mathlib.Omega.{arith}
use borrow.Author.Tests.{leb-true, leb-false}
use Rattle.kit.specs.Each.{each}
use Rattle.kit.specs.Put.{Put, Poured}
use Rattle.kit.proofs.Cases.{on}
use Rattle.kit.proofs.Each.{each_next}
use Rattle.kit.proofs.Stores.{sets-past}

sets_append : (l : List ℕ) (i : ℕ) (a b : List ℕ) → sets (sets l i a) (i + length a) b ≡ sets l i (a ++ b)
sets_append l i [] b = ap (λ (k : ℕ). sets l k b) (add-zero i)
sets_append l i (x ∷ a) b =
    let e : i + suc (length a) ≡ suc i + length a = omega arith in
    ap (λ (k : ℕ). sets (sets (set l i x) (suc i) a) k b) e ∙ sets_append (set l i x) (suc i) a b

pub put_none_lem : {l : List ℕ} {i : ℕ} → Put l i [] l i
put_none_lem {l} {i} = record { stored = refl; past = sym (add-zero i) }

pub put_then : {l m n : List ℕ} {i j k : ℕ} {a b : List ℕ} → Put l i a m j → Put m j b n k → Put l i (a ++ b) n k
put_then {l} {m} {n} {i} {j} {k} {a} {b} p q =
    record {
      stored = q.stored ∙ (ap (λ (x : List ℕ). sets x j b) p.stored ∙ (ap (λ (x : ℕ). sets (sets l i a) x b) p.past ∙ sets_append l i a b));
      past = let e = length-append a b in omega (arith, p.past, q.past, e);
    }

-- the same bytes under another name
pub put_as : {l m : List ℕ} {i j : ℕ} {a b : List ℕ} → a ≡ b → Put l i b m j → Put l i a m j
put_as {l} {m} {i} {j} e p = subst (λ (bytes : List ℕ). Put l i bytes m j) (sym e) p

-- one thing's bytes after those of the i things before it
pub put-each : (of : ℕ → List ℕ) (i : ℕ) {l m n : List ℕ} {at j k : ℕ} → Put l at (each of 0 i) m j → Put m j (of i) n k → Put l at (each of 0 (i + 1)) n k
put-each of i a b = put_as (each_next of i) (put_then a b)

pub put-length : {l m : List ℕ} {i j : ℕ} {bytes : List ℕ} → Put l i bytes m j → length m ≡ length l
put-length {l} {m} {i} {j} {bytes} p = ap length p.stored ∙ length-sets l i bytes

-- what fills a buffer from its start to its end is what the buffer then holds
pub put_whole : {l bytes m : List ℕ} {j : ℕ} → length l ≡ length bytes → Put l 0 bytes m j → m ≡ bytes
put_whole {l} {bytes} {m} h p =
    let room : 0 + length bytes ≤ length l = omega arith in
    let rest : drop (0 + length bytes) l ≡ [] = drop_of_length-le l {i = 0 + length bytes} (omega arith) in
    p.stored ∙ (sets-eq bytes l 0 room ∙ (ap (λ (r : List ℕ). bytes ++ r) rest ∙ append-nil bytes))

-- a loop that puts bytes one by one: one more, and all
pub put_next : (bytes : List ℕ) {l m : List ℕ} (at k : ℕ) {byte : ℕ} → k < length bytes → byte ≡ get_or bytes k 0 → Put l at (take k bytes) m (at + k)
    → Put l at (take (k + 1) bytes) (set m (at + k) byte) (at + (k + 1))
put_next bytes {m = m} at k inside same so_far =
    put_as (ap (λ n. take n bytes) (add-one k) ∙ take-suc bytes k 0 inside)
    (put_then so_far (record { stored = ap (λ b. set m (at + k) b) same; past = omega arith }))

pub put_all : (bytes : List ℕ) (k : ℕ) {l m : List ℕ} {at j : ℕ} → length bytes ≤ k → Put l at (take k bytes) m j → m ≡ sets l at bytes
put_all bytes k {l} {at = at} all put = put.stored ∙ ap (sets l at) (take_all k bytes all)

-- ---- the same with a buffer's end

pub poured-none : (l : List ℕ) (i : ℕ) → i ≤ length l → Poured l i [] l i
poured-none l i h = record { stored = refl; past = omega (arith, add-zero i) }

pub poured_full : (l : List ℕ) (i : ℕ) (bytes : List ℕ) → length l ≤ i → Poured l i bytes l (length l)
poured_full l i bytes h = record { stored = sym (sets-past bytes l i h); past = omega arith }

pub poured-length : {l m : List ℕ} {i j : ℕ} {a : List ℕ} → Poured l i a m j → length m ≡ length l
poured-length {l} {i = i} {a = a} p = ap length p.stored ∙ length-sets l i a

pub poured-then : {l m n : List ℕ} {i j k : ℕ} {a b : List ℕ} → Poured l i a m j → Poured m j b n k → Poured l i (a ++ b) n k
poured-then {l} {m} {n} {i} {j} {k} {a} {b} p q =
    let long : length m ≡ length l = poured-length p in
    record {
      stored =
          q.stored
          ∙ (on (leb (i + length a) (length l))
          (λ fits.
          let e : j ≡ i + length a = omega (arith, p.past, leb-true (i + length a) (length l) fits) in
          ap (λ (x : ℕ). sets m x b) e)
          (λ full.
          sets-past b m j (omega (arith, p.past, leb-false (i + length a) (length l) full))
          ∙ sym (sets-past b m (i + length a) (omega (arith, leb-false (i + length a) (length l) full))))
          ∙ (ap (λ (x : List ℕ). sets x (i + length a) b) p.stored ∙ sets_append l i a b));
      past = let e = length-append a b in omega (arith, p.past, q.past, e, long);
    }

-- where something was poured, nothing more can be
pub poured-here : {l m : List ℕ} {i j : ℕ} {a : List ℕ} → Poured l i a m j → Poured m j [] m j
poured-here {l} {m} {i} {j} p = poured-none m j (omega (arith, p.past, poured-length p))

-- the place past them counts bytes at the buffer's start
pub poured-counts : {l m : List ℕ} {i j : ℕ} {a : List ℕ} → Poured l i a m j → j ≡ length (take j m)
poured-counts {l} {m} {i} {j} p = sym (length-take-le j m (omega (arith, p.past, poured-length p)))

-- the same bytes under another name
pub poured_as : {l m : List ℕ} {i j : ℕ} {a b : List ℕ} → a ≡ b → Poured l i b m j → Poured l i a m j
poured_as {l} {m} {i} {j} e p = subst (λ (bytes : List ℕ). Poured l i bytes m j) (sym e) p

-- one thing's bytes after those of the i things before it
pub poured-each : (of : ℕ → List ℕ) (i : ℕ) {l m n : List ℕ} {at j k : ℕ} → Poured l at (each of 0 i) m j → Poured m j (of i) n k → Poured l at (each of 0 (i + 1)) n k
poured-each of i a b = poured_as (each_next of i) (poured-then a b)

-- where there is room for all of them, all are put
pub poured-put : {l m : List ℕ} {i j : ℕ} {a : List ℕ} → i + length a ≤ length l → Poured l i a m j → Put l i a m j
poured-put room p = record { stored = p.stored; past = omega (arith, p.past) }
