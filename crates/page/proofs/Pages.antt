-- Laws of `Paged`: nothing, one run after another, a store of more bytes than are put, and a page that is copied into a buffer.
use Prim.Native.Nat.{ℕ, ◌+◌, ◌-◌, ◌≤◌, min}
use mathlib.Core.Path.{◌≡◌, refl, sym, ap, ◌∙◌, subst}
use mathlib.Core.Bool.{true, false, cond}
use lib.Dec.{leb}
use borrow.Author.Tests.{leb-true, leb-false}
use Rattle.kit.proofs.Cases.{on}
use Rattle.kit.proofs.Contracts.{agree}
use mathlib.Core.List.{List, [], ◌++◌, append-nil, append_assoc}
use lib.ListN.{length, take, drop, length-append}
use lib.Seq.{sets, take_all, sets-eq, length-take-le, take-append-le, take-append-add}
use native.Mathlib.Omega.{arith}
use Rattle.kit.specs.Each.{each}
use Rattle.kit.specs.Put.{Put, Poured}
use Rattle.kit.proofs.Each.{each_next}
use Rattle.kit.proofs.Put.{put_then, poured_as}
use Rattle.page.specs.Pages.{Paged, Laid}
use Rattle.page.specs.Packed.{low_bytes}
use Rattle.page.specs.Words.{bytes_of_word}
use Rattle.page.specs.declared.Word.{Word}
use Rattle.text.specs.Hexadecimals.{hexadecimal}
use Rattle.text.proofs.Numerals.{hexadecimal-long}
use Rattle.page.proofs.Packed.{low-length, low-take}

pub paged-none : {l : List ℕ} {i : ℕ} → Paged 0 l i [] l i
paged-none {l} {i} = record { held = sym (append-nil (take i l)); past = omega arith; within = omega arith }

pub paged-then : {x y : ℕ} {l m n : List ℕ} {i j k : ℕ} {a b : List ℕ} → Paged x l i a m j → Paged y m j b n k → Paged (x + y) l i (a ++ b) n k
paged-then {l = l} {i = i} {a = a} {b = b} p q =
    record {
      held = q.held ∙ (ap (λ s. s ++ b) p.held ∙ append_assoc (take i l) a b);
      past = omega (arith, length-append a b, p.past, q.past);
      within = omega (arith, p.within, q.within);
    }

-- the same bytes under another name
pub paged_as : {x : ℕ} {l m : List ℕ} {i j : ℕ} {a b : List ℕ} → a ≡ b → Paged x l i b m j → Paged x l i a m j
paged_as {x} {l} {m} {i} {j} e p = subst (λ bytes. Paged x l i bytes m j) (sym e) p

-- within a larger bound
pub paged-most : {x y : ℕ} {l m : List ℕ} {i j : ℕ} {a : List ℕ} → x ≤ y → Paged x l i a m j → Paged y l i a m j
paged-most le p = record { held = p.held; past = p.past; within = omega (arith, p.within) }

-- one thing's bytes after those of the i things before it
pub paged-each : (of : ℕ → List ℕ) (i : ℕ) {x y z : ℕ} {l m n : List ℕ} {at j k : ℕ} → x + y ≤ z → Paged x l at (each of 0 i) m j → Paged y m j (of i) n k
    → Paged z l at (each of 0 (i + 1)) n k
paged-each of i room a b = paged_as (each_next of i) (paged-most room (paged-then a b))

-- the first bytes of a store are put, whatever is stored past them
pub paged-sets : (l : List ℕ) (i : ℕ) (stored : List ℕ) (count : ℕ) → i + length stored ≤ length l → count ≤ length stored
    → Paged count l i (take count stored) (sets l i stored) (i + count)
paged-sets l i stored count room few =
    let long : length (take i l) ≡ i = length-take-le i l (omega arith) in
    record {
      held =
          ap (take (i + count)) (sets-eq stored l i room)
          ∙ (take-append-le (i + count) (take i l ++ stored) (drop (i + length stored) l) (omega (arith, length-append (take i l) stored))
          ∙ (ap (λ n. take (n + count) (take i l ++ stored)) (sym long) ∙ take-append-add (take i l) stored count));
      past = omega (arith, length-take-le count stored few);
      within = omega arith;
    }

pub paged-stored : (l : List ℕ) (i : ℕ) (stored : List ℕ) (count : ℕ) {m : List ℕ} → i + length stored ≤ length l → count ≤ length stored → m ≡ sets l i stored
    → Paged count l i (take count stored) m (i + count)
paged-stored l i stored count room few same = subst (λ m. Paged count l i (take count stored) m (i + count)) (sym same) (paged-sets l i stored count room few)

-- two stores, one after another, are one
pub sets-twice : (l : List ℕ) (i : ℕ) (a b : List ℕ) {m n : List ℕ} {j : ℕ} → m ≡ sets l i a → j ≡ i + length a → n ≡ sets m j b → n ≡ sets l i (a ++ b)
sets-twice l i a b {m} {n} {j} p place q =
    let first : Put l i a m j = record { stored = p; past = place } in
    let second : Put m j b n (j + length b) = record { stored = q; past = refl } in
    (put_then first second).stored

-- the first of the lowest bytes of a number are put
pub paged-low : (l : List ℕ) (i k count piece : ℕ) {m : List ℕ} → i + k ≤ length l → count ≤ k → m ≡ sets l i (low_bytes k piece)
    → Paged count l i (low_bytes count piece) m (i + count)
paged-low l i k count piece room few same =
    let long : length (low_bytes k piece) ≡ k = low-length k piece in
    subst (λ m. Paged count l i (low_bytes count piece) m (i + count)) (sym same)
    (paged_as (sym (low-take count k piece few)) (paged-sets l i (low_bytes k piece) count (omega arith) (omega arith)))

-- within a bound that its bytes keep
pub paged_tight : {x y : ℕ} {l m : List ℕ} {i j : ℕ} {a : List ℕ} → length a ≤ y → Paged x l i a m j → Paged y l i a m j
paged_tight le p = record { held = p.held; past = p.past; within = omega (arith, p.past) }

-- as many as there are at most
pub take_min : (n most : ℕ) (l : List ℕ) → length l ≡ most → take (min n most) l ≡ take n l
take_min n most l long =
    on (leb n most)
    (λ e. let few : min n most ≡ n = omega (arith, leb-true n most e) in ap (λ k. take k l) few)
    (λ e. take_all (min n most) l (omega (arith, leb-false n most e)) ∙ sym (take_all n l (omega (arith, leb-false n most e))))

-- ---- with a test of the room

-- eight digits are stored, and all of them are put
pub paged-digits : (l : List ℕ) (i number : ℕ) {m : List ℕ} → i + 8 ≤ length l → m ≡ sets l i (hexadecimal 8 number) → Paged 8 l i (hexadecimal 8 number) m (i + 8)
paged-digits l i number room same =
    let long : length (hexadecimal 8 number) ≡ 8 = hexadecimal-long 8 number in
    paged_as (sym (take_all 8 (hexadecimal 8 number) (omega arith))) (paged-stored l i (hexadecimal 8 number) 8 (omega arith) (omega arith) same)

-- sixteen bytes are stored, eight and eight, and the first ones of them put
pub laid_word : (word : Word) {l m n : List ℕ} {i few : ℕ} → true ≡ leb (i + 16) (length l) → m ≡ sets l i (low_bytes 8 word.low) → n ≡ sets m (i + 8) (low_bytes 8 word.high)
    → few ≡ min word.count 16 → Laid 16 16 l i (bytes_of_word word) (low_bytes 8 word.low ++ low_bytes 8 word.high) n (i + few)
unfolding bytes_of_word
laid_word word {l} {m} {n} {i} {few} room first second count =
    let stored = low_bytes 8 word.low ++ low_bytes 8 word.high in
    let eight : length (low_bytes 8 word.low) ≡ 8 = low-length 8 word.low in
    let both : length stored ≡ 16 = omega (arith, eight, low-length 8 word.high, length-append (low_bytes 8 word.low) (low_bytes 8 word.high)) in
    let same = sets-twice l i (low_bytes 8 word.low) (low_bytes 8 word.high) first (omega arith) second in
    let shown : take word.count stored ≡ take few stored = sym (ap (λ n. take n stored) count ∙ take_min word.count 16 stored both) in
    let put = paged-most (omega arith) (paged_as shown (paged-stored l i stored few (omega (arith, leb-true (i + 16) (length l) (sym room))) (omega arith) same)) in
    record { exact = rw (sym room) same; place = rw (sym room) put.past; paged = λ _. put }

-- within a bound that the bytes keep
pub laid_tight : {w x y : ℕ} {l m : List ℕ} {i j : ℕ} {a s : List ℕ} → length a ≤ y → Laid w x l i a s m j → Laid w y l i a s m j
laid_tight le laid = record { exact = laid.exact; place = laid.place; paged = λ room. paged_tight le (laid.paged room) }

-- the same bytes, put and stored, under other names and a larger bound
pub laid_as : {w x y : ℕ} {l m : List ℕ} {i j : ℕ} {a b s t : List ℕ} → a ≡ b → s ≡ t → x ≤ y → Laid w x l i b t m j → Laid w y l i a s m j
laid_as {w} {x} {y} {l} {m} {i} {j} {a} {b} {s} {t} put stored le laid =
    record {
      exact = laid.exact ∙ ap (λ bytes. cond (leb (i + w) (length l)) (sets l i bytes) l) (sym stored);
      place = laid.place ∙ ap (λ bytes. cond (leb (i + w) (length l)) (i + length bytes) i) (sym put);
      paged = λ room. paged_as put (paged-most le (laid.paged room));
    }

-- ---- one answer

pub agree_laid : {w x : ℕ} {l a s m n : List ℕ} {i j k : ℕ} → Laid w x l i a s m j → Laid w x l i a s n k → (j ≡ k) × (m ≡ n)
agree_laid p q = (agree p.place q.place, agree p.exact q.exact)

-- ---- laws that docs/changes/CR-13.md names: the code's loops went, the laws hold as they did

pub laid_full : {w x : ℕ} {l : List ℕ} {i : ℕ} {a s : List ℕ} → leb (i + w) (length l) ≡ false → Laid w x l i a s l i
laid_full {w} {x} {l} {i} e = record { exact = rw e refl; place = rw e refl; paged = λ room. absurd (omega (arith, leb-false (i + w) (length l) e)) }

pub laid_room : {w x : ℕ} {l m : List ℕ} {i j : ℕ} {a s : List ℕ} → leb (i + w) (length l) ≡ true → m ≡ sets l i s → Paged x l i a m j → Laid w x l i a s m j
laid_room e same put = record { exact = rw e same; place = rw e put.past; paged = λ room. put }

-- a page filled from its start, copied into a buffer as far as it is filled, pours what was put on the page
pub paged-poured : {x : ℕ} {p l m : List ℕ} {page : List ℕ} {next at j : ℕ} {bytes : List ℕ} → Paged x p 0 bytes page next → Poured l at (take (next - 0) page) m j → Poured l at bytes m j
paged-poured {page = page} {next} put copied = let whole : next ≡ next - 0 = omega arith in poured_as (sym put.held ∙ ap (λ n. take n page) whole) copied
