-- Demand 2: writing a read telegram gives the same 26 bytes, but for the two places that documents 01 and 02 name (K-10 to K-12, CR1-3),
-- which are written as zero: the second word of a slot of type 4 or 5 whose change distance is 8000h, and the country bits of one of type 4
-- with voltage 0.
use Prim.Native.Nat.{ℕ, zero, suc, ◌+◌, ◌-◌, ◌*◌, ◌/◌, ◌%◌, ◌<◌}
use mathlib.Core.Path.{◌≡◌, refl, sym, ap, ◌∙◌}
use mathlib.Core.Bool.{Bool, false, cond, ◌&&◌}
use mathlib.Core.List.{List}
use lib.Dec.{leb, ltb}
use lib.ListN.{get_or}
use native.Mathlib.Nat.{add-zero}
use native.Mathlib.Omega.{arith}
use borrow.Author.Tests.{leb-true, leb-false, ltb-true, ltb-false}
use Rattle.kit.specs.Bytes.{Bytes, bit, word_of_two}
use Rattle.kit.specs.Ladder.{NoneHolds}
use Rattle.kit.proofs.Bits.{bit-above, bit-low, bit_past}
use Rattle.kit.proofs.Bytes.{high-back, low-back}
use Rattle.kit.proofs.Cases.{on}
use Rattle.condition.specs.Slots.{coded_of, settled, six_of}
use Rattle.kinds.specs.Words.{is_idle, second_held}
use Rattle.kinds.proofs.Bits.{held-bit}
use Rattle.condition.proofs.Coding.{coded-back}
use Rattle.condition.specs.declared.slots.Coded.{Coded}
use Rattle.telegram.specs.Telegrams.{place_start, coded_at, read_rows, six_at, telegram_of, bytes_of}
use Rattle.telegram.specs.Sendable.{idle_in, may_alter}
use Rattle.telegram.proofs.Valid.{slot-meant, slot_read}
use Rattle.telegram.proofs.Wire.{byte_at}

-- the second word as it is held, its two bytes bit by bit
module _ (kind first high low b : ℕ) (fits : low < 256) where
  abbrev second : ℕ
  second = word_of_two high low

  abbrev held : ℕ
  held = second_held kind first second

  high_bit : bit b (held / 256) ≡ cond (is_idle kind first second (b + 8)) false (bit b high)
  high_bit =
      sym (bit-above 8 b held)
      ∙ (held-bit kind first second (b + 8) ∙ ap (λ x. cond (is_idle kind first second (b + 8)) false x) (bit-above 8 b second ∙ ap (bit b) (high-back high low fits)))

  low_bit : bit b (held % 256) ≡ cond (is_idle kind first second b) false (bit b low)
  low_bit =
      on (ltb b 8)
      (λ e.
      let inside = ltb-true b 8 e in
      bit-low b held inside
      ∙ (held-bit kind first second b
      ∙ ap (λ x. cond (is_idle kind first second b) false x) (sym (bit-low b second inside) ∙ ap (bit b) (low-back high low fits))))
      (λ e.
      let outside = ltb-false b 8 e in
      bit_past b (held % 256) outside (omega arith)
      ∙ on (is_idle kind first second b) (λ i. rw i refl) (λ i. rw i (sym (bit_past b low outside fits))))

module _ (bytes : List ℕ) (fits : Bytes bytes) where
  abbrev alters : ℕ → ℕ → ℕ → Bool
  alters k r b = leb 4 r && idle_in (coded_at bytes k) (b + (5 - r) * 8)

  -- bit b of byte r of place k, settled
  settled-bit : (k r b : ℕ) → r < 6
      → bit b (get_or (six_of (settled (coded_at bytes k))) r 0) ≡ cond (alters k r b) false (bit b (get_or bytes (place_start k + r) 0))
  unfolding six_of coded_at
  settled-bit k zero b p = ap (λ i. bit b (get_or bytes i 0)) (sym (add-zero (place_start k)))
  settled-bit k (suc zero) b p = refl
  settled-bit k (suc (suc zero)) b p = ap (bit b) (high-back (get_or bytes (place_start k + 2) 0) (get_or bytes (place_start k + 3) 0) (fits (place_start k + 3)))
  settled-bit k (suc (suc (suc zero))) b p = ap (bit b) (low-back (get_or bytes (place_start k + 2) 0) (get_or bytes (place_start k + 3) 0) (fits (place_start k + 3)))
  settled-bit k (suc (suc (suc (suc zero)))) b p =
      let c : Coded = coded_at bytes k in high_bit c.kind c.first (get_or bytes (place_start k + 4) 0) (get_or bytes (place_start k + 5) 0) b (fits (place_start k + 5))
  settled-bit k (suc (suc (suc (suc (suc zero))))) b p =
      let c : Coded = coded_at bytes k in
      simp (add-zero b) (low_bit c.kind c.first (get_or bytes (place_start k + 4) 0) (get_or bytes (place_start k + 5) 0) b (fits (place_start k + 5)))
  settled-bit k (suc (suc (suc (suc (suc (suc r)))))) b p = absurd (omega arith)

  module _ (s : NoneHolds (read_rows bytes)) where
    -- place k, read and coded again
    six_again : (k : ℕ) → k < 4 → six_at (telegram_of bytes).slots k ≡ six_of (settled (coded_at bytes k))
    six_again k p = ap (λ x. six_of (coded_of x)) (slot-meant bytes k p) ∙ ap six_of (coded-back (coded_at bytes k) (slot_read bytes s k p))

    head_again : (i : ℕ) → i < 2 → get_or (bytes_of (telegram_of bytes)) i 0 ≡ get_or bytes i 0
    unfolding bytes_of telegram_of
    head_again zero p = omega (arith, fits 0, fits 1)
    head_again (suc zero) p = omega (arith, fits 0, fits 1)
    head_again (suc (suc i)) p = absurd (omega arith)

    place-again : (i k r b : ℕ) → k < 4 → r < 6 → i ≡ 2 + (k * 6 + r)
        → bit b (get_or (bytes_of (telegram_of bytes)) i 0) ≡ cond (alters k r b) false (bit b (get_or bytes i 0))
    place-again i k r b p q e =
        let same : place_start k + r ≡ i = omega arith in
        ap (bit b) (byte_at (telegram_of bytes) k r i p q e ∙ ap (λ six. get_or six r 0) (six_again k p))
        ∙ (settled-bit k r b q ∙ ap (λ j. cond (alters k r b) false (bit b (get_or bytes j 0))) same)

    -- K-12, CR1-3: bit by bit, the same, or zero where it is not considered
    pub write_again : (i b : ℕ) → i < 26 → bit b (get_or (bytes_of (telegram_of bytes)) i 0) ≡ cond (may_alter bytes i b) false (bit b (get_or bytes i 0))
    unfolding may_alter
    write_again i b p =
        on (leb 2 i)
        (λ e. rw e (place-again i ((i - 2) / 6) ((i - 2) % 6) b (omega arith) (omega arith) (omega (arith, leb-true 2 i e))))
        (λ e. rw e (ap (bit b) (head_again i (leb-false 2 i e))))
