-- Laws of sheets: one run of bytes after another, and what `Put` and `Poured` say of a buffer and a place, said of a sheet.
use Prim.Native.Nat.{ℕ, ◌+◌, ◌≤◌, min, max}
use mathlib.Core.Path.{◌≡◌, refl, sym, ap, ◌∙◌}
use denote.MutBor.{MutBor}
use borrow.Rule.Slice.Relend.{set_name}
use mathlib.Core.List.{List, [], ◌++◌}
use native.Mathlib.Omega.{arith}
use lib.ListN.{length, length-append}
use lib.Dec.{leb}
use lib.Seq.{sets, length-sets}
use borrow.Author.Tests.{leb-true, leb-false}
use Rattle.kit.proofs.Cases.{on}
use Rattle.kit.specs.Put.{Put, Poured}
use Rattle.kit.specs.Each.{each}
use Rattle.kit.proofs.Each.{each_next}
use Rattle.kit.proofs.Put.{put_then}
use Rattle.kit.proofs.Stores.{sets-past}
use Rattle.text.specs.Putting.{sheet_with, put_on}
use Rattle.text.specs.declared.sheets.Sheet.{Sheet}

one_after : (l : List ℕ) (i : ℕ) (a b : List ℕ) → sets (sets l i a) (i + length a) b ≡ sets l i (a ++ b)
one_after l i a b =
    let first : Put l i a (sets l i a) (i + length a) = record { stored = refl; past = refl } in
    let second : Put (sets l i a) (i + length a) b (sets (sets l i a) (i + length a) b) (i + length a + length b) = record { stored = refl; past = refl } in
    (put_then first second).stored

-- a place that has run into the end leaves nothing more to put, wherever past the end it is
beyond : (l b : List ℕ) (i j : ℕ) → length l ≤ i → length l ≤ j → sets l i b ≡ sets l j b
beyond l b i j h k = sets-past b l i h ∙ sym (sets-past b l j k)

clamped : (l b : List ℕ) (at place : ℕ) → place ≡ min at (length l) → sets l place b ≡ sets l at b
clamped l b at place e =
    on (leb at (length l))
    (λ fits. ap (λ k. sets l k b) (omega (arith, e, leb-true at (length l) fits)))
    (λ past. let h = leb-false at (length l) past in beyond l b place at (omega (arith, e)) (omega arith))

pub put_next : (a b : List ℕ) (sheet : Sheet) → put_on b (put_on a sheet) ≡ put_on (a ++ b) sheet
unfolding put_on
put_next a b sheet =
    let l = sheet.buffer.now in
    let i = sheet.at in
    let n = length l in
    let m = sets l i a in
    let j = max i (min (i + length a) n) in
    let long : length m ≡ n = length-sets l i a in
    let both : length (a ++ b) ≡ length a + length b = length-append a b in
    let stored : sets m j b ≡ sets l i (a ++ b) =
    on (leb (i + length a) n)
    (λ fits.
    let e : j ≡ i + length a = omega (arith, leb-true (i + length a) n fits) in
    ap (λ k. sets m k b) e ∙ one_after l i a b)
    (λ full.
    let h = leb-false (i + length a) n full in
    beyond m b j (i + length a) (omega (arith, long)) (omega (arith, long)) ∙ one_after l i a b) in
    let past : max j (min (j + length b) (length m)) ≡ max i (min (i + length (a ++ b)) n) = omega (arith, long, both) in
    ap (λ bytes. sheet_with bytes (max j (min (j + length b) (length m))) sheet) stored ∙ ap (λ k. sheet_with (sets l i (a ++ b)) k sheet) past

pub put_none : (sheet : Sheet) → put_on [] sheet ≡ sheet
unfolding put_on
put_none sheet = ap (λ k. sheet_with sheet.buffer.now k sheet) (omega arith)

-- one thing's bytes after those of the i things before it
pub put_each : (of : ℕ → List ℕ) (i : ℕ) (sheet : Sheet) → put_on (of i) (put_on (each of 0 i) sheet) ≡ put_on (each of 0 (i + 1)) sheet
put_each of i sheet = put_next (each of 0 i) (of i) sheet ∙ ap (λ bytes. put_on bytes sheet) (sym (each_next of i))

-- what `Poured` says of a buffer and a place, said of a sheet
pub poured_on : {bytes m : List ℕ} {next : ℕ} (sheet : Sheet) → sheet.at ≤ length sheet.buffer.now → Poured sheet.buffer.now sheet.at bytes m next
    → sheet_with m next sheet ≡ put_on bytes sheet
unfolding put_on
poured_on {bytes} {m} {next} sheet inside p =
    ap (λ l. sheet_with l next sheet) p.stored ∙ ap (λ k. sheet_with (sets sheet.buffer.now sheet.at bytes) k sheet) (omega (arith, p.past))

pub none_put : (bytes : List ℕ) (sheet : Sheet) → length sheet.buffer.now ≤ sheet.at → sheet ≡ put_on bytes sheet
unfolding put_on
none_put bytes sheet full =
    let l = sheet.buffer.now in
    ap (λ k. sheet_with l k sheet) (omega arith) ∙ ap (λ m. sheet_with m (max sheet.at (min (sheet.at + length bytes) (length l))) sheet) (sym (sets-past bytes l sheet.at full))

-- and back: on a sheet whose place is no farther than the buffer's end
pub put_poured : (bytes : List ℕ) (sheet : Sheet) → sheet.at ≤ length sheet.buffer.now
    → Poured sheet.buffer.now sheet.at bytes (put_on bytes sheet).buffer.now (put_on bytes sheet).at
unfolding put_on
put_poured bytes sheet inside = record { stored = refl; past = omega arith }

-- what a function learns that made a sheet of a buffer which it was lent, and has put text on it
pub sheet_back : {text x : List ℕ} {name : ℕ} (buffer : MutBor (List ℕ)) {at : ℕ} {before : Sheet} (after : Sheet)
    → before.buffer ≡ set_name name buffer → before.at ≡ min at (length buffer.now) → after ≡ put_on text before
    → (name ≡ after.buffer.ghost_name → x ≡ after.buffer.now) → Poured buffer.now at text x after.at
unfolding put_on
sheet_back {text} {x} {name} buffer {at} {before} after lent place put back =
    let l = buffer.now in
    let same : before.buffer.now ≡ l = ap (λ b. b.now) lent in
    let named : name ≡ after.buffer.ghost_name = sym (ap (λ s. s.buffer.ghost_name) put ∙ ap (λ b. b.ghost_name) lent) in
    let full : length before.buffer.now ≡ length l = ap length same in
    record {
      stored = back named ∙ (ap (λ s. s.buffer.now) put ∙ (ap (λ m. sets m before.at text) same ∙ clamped l text at before.at place));
      past = ap (λ s. s.at) put ∙ omega (arith, place, full);
    }
