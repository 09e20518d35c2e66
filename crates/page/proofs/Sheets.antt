-- Laws of `PagedOn` and `LaidOn`: those of `Paged` and `Laid`, said of a sheet.
use Prim.Native.Nat.{ℕ, ◌+◌, ◌≤◌, min}
use mathlib.Core.Path.{◌≡◌, refl, sym, ap, ap₂, ◌∙◌, subst}
use mathlib.Core.Bool.{true}
use mathlib.Core.List.{List, [], ◌++◌}
use lib.Dec.{leb}
use lib.ListN.{length, get_or}
use lib.Seq.{sets, length-sets}
use Rattle.std.specs.Int.{w32, to_be_bytes}
use native.Mathlib.Omega.{arith}
use borrow.Author.Tests.{leb-true}
use Rattle.kit.specs.Each.{each}
use Rattle.text.specs.Hexadecimals.{hexadecimal}
use Rattle.text.specs.Putting.{sheet_with, put_on}
use Rattle.text.proofs.Numerals.{hexadecimal-long}
use Rattle.text.proofs.Putting.{put_next}
use Rattle.text.specs.declared.sheets.Sheet.{Sheet}
use Rattle.page.specs.Pages.{Paged, room_for, PagedOn, LaidOn}
use Rattle.page.specs.Packed.{low_bytes}
use Rattle.page.specs.Words.{bytes_of_word}
use Rattle.page.specs.declared.Word.{Word}
use Rattle.page.proofs.Packed.{low-length, hex_pair, eight_hex}
use Rattle.page.proofs.Pages.{paged-none, paged-then, paged_as, paged-most, paged-each, paged_tight, paged-low, paged-digits, laid_word, laid_tight, laid_as, agree_laid}

-- ---- with room

pub on-none : {sheet : Sheet} → PagedOn 0 [] sheet sheet
on-none = record { same = refl; long = refl; paged = paged-none }

pub on-then : {x y : ℕ} {a b : List ℕ} {s t u : Sheet} → PagedOn x a s t → PagedOn y b t u → PagedOn (x + y) (a ++ b) s u
on-then {u = u} p q = record { same = q.same ∙ ap (sheet_with u.buffer.now u.at) p.same; long = q.long ∙ p.long; paged = paged-then p.paged q.paged }

-- the same bytes under another name
pub on_as : {x : ℕ} {a b : List ℕ} {s t : Sheet} → a ≡ b → PagedOn x b s t → PagedOn x a s t
on_as e p = record { same = p.same; long = p.long; paged = paged_as e p.paged }

-- within a larger bound
pub on-most : {x y : ℕ} {a : List ℕ} {s t : Sheet} → x ≤ y → PagedOn x a s t → PagedOn y a s t
on-most le p = record { same = p.same; long = p.long; paged = paged-most le p.paged }

-- within a bound that its bytes keep
pub on_tight : {x y : ℕ} {a : List ℕ} {s t : Sheet} → length a ≤ y → PagedOn x a s t → PagedOn y a s t
on_tight le p = record { same = p.same; long = p.long; paged = paged_tight le p.paged }

-- one thing's bytes after those of the i things before it
pub on-each : (of : ℕ → List ℕ) (i : ℕ) {x y z : ℕ} {s t u : Sheet} → x + y ≤ z → PagedOn x (each of 0 i) s t → PagedOn y (of i) t u
    → PagedOn z (each of 0 (i + 1)) s u
on-each of i {u = u} room p q = record { same = q.same ∙ ap (sheet_with u.buffer.now u.at) p.same; long = q.long ∙ p.long; paged = paged-each of i room p.paged q.paged }

-- ---- with a test of the room

-- what was laid where there was room
pub on_page : {w x : ℕ} {a b : List ℕ} {s t : Sheet} → LaidOn w x a b s t → room_for w s → PagedOn x a s t
on_page p room = record { same = p.same; long = p.long; paged = p.laid.paged room }

pub laid_on_tight : {w x y : ℕ} {a b : List ℕ} {s t : Sheet} → length a ≤ y → LaidOn w x a b s t → LaidOn w y a b s t
laid_on_tight le p = record { same = p.same; long = p.long; laid = laid_tight le p.laid }

pub laid_on_as : {w x y : ℕ} {a b c d : List ℕ} {s t : Sheet} → a ≡ b → c ≡ d → x ≤ y → LaidOn w x b d s t → LaidOn w y a c s t
laid_on_as put stored le p = record { same = p.same; long = p.long; laid = laid_as put stored le p.laid }

-- ---- what is put where there is room

stored_on : (bytes : List ℕ) (s : Sheet) {t : Sheet} → t ≡ put_on bytes s → t.buffer.now ≡ sets s.buffer.now s.at bytes
unfolding put_on
stored_on bytes s e = ap (λ (t : Sheet). t.buffer.now) e

pub long_on : (bytes : List ℕ) (s : Sheet) {t : Sheet} → t ≡ put_on bytes s → length t.buffer.now ≡ length s.buffer.now
unfolding put_on
long_on bytes s e = ap (λ (t : Sheet). length t.buffer.now) e ∙ length-sets s.buffer.now s.at bytes

pub past_on : (bytes : List ℕ) (s : Sheet) {t : Sheet} → t ≡ put_on bytes s → room_for (length bytes) s → t.at ≡ s.at + length bytes
unfolding put_on
past_on bytes s e room = ap (λ (t : Sheet). t.at) e ∙ omega arith

-- the place is then set to the end of what has a meaning
set_on : (bytes : List ℕ) (s : Sheet) {t : Sheet} (end : ℕ) → t ≡ put_on bytes s → record { buffer = t.buffer; at = end } ≡ sheet_with t.buffer.now end s
unfolding put_on
set_on bytes s end e = ap (λ (t : Sheet). record { buffer = t.buffer; at = end }) e ∙ ap (λ l. sheet_with l end s) (sym (ap (λ (t : Sheet). t.buffer.now) e))

-- eight bytes of a number are stored, and the first of them put
pub laid_eight : (piece count : ℕ) (s : Sheet) {t : Sheet} → true ≡ leb (s.at + 8) (length s.buffer.now) → count ≤ 8 → t ≡ put_on (low_bytes 8 piece) s
    → LaidOn 8 count (low_bytes count piece) (low_bytes 8 piece) s (record { buffer = t.buffer; at = s.at + count })
laid_eight piece count s {t} room few e =
    let stored = stored_on (low_bytes 8 piece) s e in
    let put : Paged count s.buffer.now s.at (low_bytes count piece) t.buffer.now (s.at + count) =
    paged-low s.buffer.now s.at 8 count piece (leb-true (s.at + 8) (length s.buffer.now) (sym room)) few stored in
    record {
      same = set_on (low_bytes 8 piece) s (s.at + count) e;
      long = long_on (low_bytes 8 piece) s e;
      laid = record { exact = rw (sym room) stored; place = rw (sym room) put.past; paged = λ _. put };
    }

-- sixteen bytes of a word are stored, eight and eight, and the first of them put
pub laid_sixteen : (word : Word) (s : Sheet) {t u : Sheet} {few : ℕ} → true ≡ leb (s.at + 16) (length s.buffer.now) → t ≡ put_on (low_bytes 8 word.low) s
    → u ≡ put_on (low_bytes 8 word.high) t → few ≡ min word.count 16
    → LaidOn 16 16 (bytes_of_word word) (low_bytes 8 word.low ++ low_bytes 8 word.high) s (record { buffer = u.buffer; at = s.at + few })
laid_sixteen word s {t} {u} {few} room first second count =
    let low = low_bytes 8 word.low in
    let high = low_bytes 8 word.high in
    let eight : length low ≡ 8 = low-length 8 word.low in
    let place : t.at ≡ s.at + 8 = past_on low s first (omega (arith, eight, leb-true (s.at + 16) (length s.buffer.now) (sym room))) ∙ omega arith in
    let both : u ≡ put_on (low ++ high) s = second ∙ (ap (put_on high) first ∙ put_next low high s) in
    record {
      same = set_on (low ++ high) s (s.at + few) both;
      long = long_on (low ++ high) s both;
      laid = laid_word word room (stored_on low s first) (stored_on high t second ∙ ap (λ k. sets t.buffer.now k high) place) count;
    }

-- eight digits are stored, and all of them are put
pub laid_digits : (number : ℕ) (s : Sheet) {t : Sheet} → true ≡ leb (s.at + 8) (length s.buffer.now) → t ≡ put_on (hexadecimal 8 number) s
    → LaidOn 8 8 (hexadecimal 8 number) (hexadecimal 8 number) s t
laid_digits number s {t} room e =
    let digits = hexadecimal 8 number in
    let fits = leb-true (s.at + 8) (length s.buffer.now) (sym room) in
    let stored = stored_on digits s e in
    let long : length digits ≡ 8 = hexadecimal-long 8 number in
    let place : t.at ≡ s.at + 8 = past_on digits s e (omega (arith, long, fits)) ∙ omega (arith, long) in
    let put : Paged 8 s.buffer.now s.at digits t.buffer.now t.at =
    subst (λ k. Paged 8 s.buffer.now s.at digits t.buffer.now k) (sym place) (paged-digits s.buffer.now s.at number fits stored) in
    record {
      same = set_on digits s t.at e;
      long = long_on digits s e;
      laid = record { exact = rw (sym room) stored; place = rw (sym room) put.past; paged = λ _. put };
    }

-- the digits of four bytes are put, one byte's after another's
pub digits_put : (bytes : List ℕ) (number : ℕ) (s : Sheet) {t u v w : Sheet} → bytes ≡ to_be_bytes w32 number → t ≡ put_on (hex_pair (get_or bytes 0 0)) s
    → u ≡ put_on (hex_pair (get_or bytes 1 0)) t → v ≡ put_on (hex_pair (get_or bytes 2 0)) u → w ≡ put_on (hex_pair (get_or bytes 3 0)) v
    → w ≡ put_on (hexadecimal 8 number) s
digits_put bytes number s same first second third fourth =
    let of : ℕ → List ℕ = λ k. hex_pair (get_or bytes k 0) in
    fourth
    ∙ (ap (put_on (of 3)) (third ∙ (ap (put_on (of 2)) (second ∙ (ap (put_on (of 1)) first ∙ put_next (of 0) (of 1) s)) ∙ put_next (of 0 ++ of 1) (of 2) s))
    ∙ (put_next ((of 0 ++ of 1) ++ of 2) (of 3) s
    ∙ (ap (λ b. put_on (((hex_pair (get_or b 0 0) ++ hex_pair (get_or b 1 0)) ++ hex_pair (get_or b 2 0)) ++ hex_pair (get_or b 3 0)) s) same
    ∙ ap (λ l. put_on l s) (eight_hex number))))

-- ---- one answer

pub agree_laid_on : {w x : ℕ} {a b : List ℕ} {s t u : Sheet} → LaidOn w x a b s t → LaidOn w x a b s u → t ≡ u
agree_laid_on {s = s} {t} {u} p q =
    let alike = agree_laid p.laid q.laid in
    p.same ∙ (ap₂ (λ bytes at. sheet_with bytes at s) alike.1 alike.0 ∙ sym q.same)
