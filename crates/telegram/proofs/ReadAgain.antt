-- Demand 2: reading a written telegram gives it back, for all slots that a desk or a reader can hold.
use Prim.Native.Nat.{ℕ, ◌<◌}
use mathlib.Core.Path.{◌≡◌, refl, sym, ap, ◌∙◌, subst}
use mathlib.Core.Bool.{true, false, ◌&&◌}
use mathlib.Core.List.{[], ◌∷◌}
use lib.Dec.{eqb, ltb}
use lib.ListN.{length, get_or}
use native.Mathlib.Omega.{arith}
use borrow.Author.Tests.{ltb-true, eq-eqb, ne_eqb, le-ltb}
use Rattle.kit.specs.Ladder.{NoneHolds}
use Rattle.kit.proofs.Cases.{on}
use Rattle.kit.proofs.Ladder.{ladder-silent, silent-join, silent-all}
use Rattle.kit.proofs.Loops.{scan-none}
use Rattle.condition.specs.Slots.{slot_rows, slot_in, coding, coded_of, HeldBody}
use Rattle.condition.specs.declared.slots.Body.{Body}
use Rattle.condition.specs.declared.slots.Body.TheVariants.{Empty, Area, Traction, Current}
use Rattle.wire.specs.Verdicts.{verdict_accepted}
use Rattle.condition.proofs.Coding.{coded-silent, slot_in-back}
use Rattle.telegram.specs.Telegrams.{place_start, coded_at, taken_before, taken_row, place_rows, read_rows, slot_at, telegram_of, read_of, bytes_of}
use Rattle.telegram.specs.Sendable.{slot_on, Sendable}
use Rattle.telegram.specs.declared.Telegram.{Telegram}
use Rattle.telegram.proofs.Four.{four-list}
use Rattle.telegram.proofs.Rows.{read-accepted}
use Rattle.telegram.proofs.Wire.{length-bytes, coded-on, packet-on, step-on}

-- the number of a held slot is the one that is written
coded-number : (number : ℕ) (body : Body) → HeldBody number body → (coding number body).number ≡ number
coded-number number Empty h = sym h
coded-number number (Area k a b) h = refl
coded-number number (Traction a c v) h = refl
coded-number number (Current a l) h = refl

module _ (t : Telegram) (s : Sendable t) where
  number-on : (k : ℕ) → k < 4 → (coded_at (bytes_of t) k).number ≡ (slot_on t k).number
  unfolding coded_of
  number-on k p = ap (λ c. c.number) (coded-on t k p) ∙ coded-number (slot_on t k).number (slot_on t k).body (s.held k)

  untaken : (k : ℕ) → k < 4 → ltb 0 (coded_at (bytes_of t) k).number && taken_before (bytes_of t) k (coded_at (bytes_of t) k).number ≡ false
  unfolding taken_before coded_at
  untaken k p =
      let n : ℕ = (coded_at (bytes_of t) k).number in
      on (ltb 0 n)
      (λ e.
      rw e
      (scan-none (λ j. eqb (get_or (bytes_of t) (place_start j) 0) n) (λ j. true) false 0 k
      (λ j low below.
      ne_eqb (get_or (bytes_of t) (place_start j) 0) n
      (λ same.
      let a : (coded_at (bytes_of t) j).number ≡ (slot_on t j).number = number-on j (omega arith) in
      let b : n ≡ (slot_on t k).number = number-on k p in
      s.distinct j k (omega arith) p (omega (arith, ltb-true 0 n e)) (sym a ∙ (same ∙ b))))))
      (λ e. rw e refl)

  places-silent : (k : ℕ) → k < 4 → NoneHolds (place_rows (bytes_of t) k)
  places-silent k p =
      silent-join (slot_rows (coded_at (bytes_of t) k)) (taken_row (bytes_of t) k (coded_at (bytes_of t) k).number)
      (subst (λ c. NoneHolds (slot_rows c)) (sym (coded-on t k p)) (coded-silent (slot_on t k) (s.held k)))
      (untaken k p, tt)

  -- no row refuses it
  pub sent-silent : NoneHolds (read_rows (bytes_of t))
  unfolding read_rows
  sent-silent = (
    rw (eq-eqb (length (bytes_of t)) 26 (length-bytes t)) refl,
    (
      rw (packet-on t s.packet_to) (le-ltb t.packet 3 s.packet_from),
      silent-all (place_rows (bytes_of t)) 0 4 (λ k low below. places-silent k (omega arith)),
    ),
  )

  slot_on_lem : (k : ℕ) → k < 4 → slot_at (bytes_of t) k ≡ slot_on t k
  slot_on_lem k p = ap slot_in (coded-on t k p) ∙ slot_in-back (slot_on t k) (s.held k)

  meant : telegram_of (bytes_of t) ≡ t
  unfolding telegram_of
  meant =
      let slots : slot_at (bytes_of t) 0 ∷ slot_at (bytes_of t) 1 ∷ slot_at (bytes_of t) 2 ∷ slot_at (bytes_of t) 3 ∷ [] ≡ t.slots =
      rw (slot_on_lem 0 (omega arith), slot_on_lem 1 (omega arith), slot_on_lem 2 (omega arith), slot_on_lem 3 (omega arith)) (four-list t.slots s.four) in
      λ i. record { packet = packet-on t s.packet_to i; step = step-on t s.step_below i; slots = slots i }

  -- M-2d
  pub read_again : read_of (bytes_of t) ≡ record { verdict = verdict_accepted; telegram = t }
  read_again =
      read-accepted (bytes_of t) 0 (sym (ladder-silent 0 (read_rows (bytes_of t)) sent-silent)) refl
      ∙ ap (λ m. record { verdict = verdict_accepted; telegram = m }) meant
