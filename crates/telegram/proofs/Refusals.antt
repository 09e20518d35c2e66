-- Demand 1 of telegrams (R-19, R-20, R-23, R-25): each refusal is given exactly when its row holds and no earlier one does, and a
-- refused write changes no byte.
use Prim.Native.Nat.{ℕ, ◌≤◌}
use mathlib.Core.Path.{◌≡◌, refl, sym, ◌∙◌}
use mathlib.Core.Logic.{◌↔◌}
use mathlib.Core.List.{List}
use lib.Dec.{eqb, leb}
use lib.ListN.{length}
use borrow.Author.Tests.{eqb-true, eqb-false, eq-eqb, leb-true, le-leb, not-false}
use Rattle.kit.specs.Ladder.{Decides, NoneHolds}
use Rattle.kit.proofs.Cases.{on, and_both}
use Rattle.wire.proofs.Answers.{accepted_or_refused, refused_when, accepted_when}
use Rattle.wire.specs.Verdicts.{verdict_accepted, verdict_refused}
use Rattle.telegram.specs.Telegrams.{read_rows, read_of, bytes_of, write_rows, write_refusal, write_verdict, written}
use Rattle.telegram.specs.declared.Telegram.{Telegram}
use Rattle.telegram.proofs.Rows.{read-numbered, write-numbered, write-refused, write-accepted}

module _ (bytes : List ℕ) where
  pub reading_refused : (number : ℕ) → ((read_of bytes).verdict ≡ verdict_refused number) ↔ Decides (read_rows bytes) number
  unfolding read_of
  reading_refused = refused_when (read_rows bytes) (read-numbered bytes)

  pub reading_accepted : ((read_of bytes).verdict ≡ verdict_accepted) ↔ NoneHolds (read_rows bytes)
  unfolding read_of
  reading_accepted = accepted_when (read_rows bytes) (read-numbered bytes)

module _ (t : Telegram) (buffer : List ℕ) where
  pub writing_refused : (number : ℕ) → (write_verdict t buffer ≡ verdict_refused number) ↔ Decides (write_rows t.packet (length buffer)) number
  unfolding write_verdict
  writing_refused = refused_when (write_rows t.packet (length buffer)) (write-numbered t.packet (length buffer))

  pub writing_accepted : (write_verdict t buffer ≡ verdict_accepted) ↔ NoneHolds (write_rows t.packet (length buffer))
  unfolding write_verdict
  writing_accepted = accepted_when (write_rows t.packet (length buffer)) (write-numbered t.packet (length buffer))

  -- M-1e, R-25: a refused write changes no byte
  pub refused_untouched : (number : ℕ) → write_verdict t buffer ≡ verdict_refused number → written t buffer ≡ buffer
  refused_untouched number e =
      let refusal : ℕ = write_refusal t.packet (length buffer) in
      on (eqb refusal 0)
      (λ z. absurd (accepted_or_refused number (sym (write-accepted t buffer refusal refl (eqb-true refusal 0 z)).0 ∙ e)))
      (λ z. (write-refused t buffer refusal refl (eqb-false refusal 0 z)).1)

  -- M-2a: an accepted one leaves the telegram's 26 bytes
  pub accepted-written : write_verdict t buffer ≡ verdict_accepted → written t buffer ≡ bytes_of t
  accepted-written e =
      let refusal : ℕ = write_refusal t.packet (length buffer) in
      on (eqb refusal 0)
      (λ z. (write-accepted t buffer refusal refl (eqb-true refusal 0 z)).1)
      (λ z. absurd (accepted_or_refused refusal (sym e ∙ (write-refused t buffer refusal refl (eqb-false refusal 0 z)).0)))

  -- R-09, R-10: a packet from 3 to 7 is accepted into a buffer of 26 bytes
  pub packet-accepted : 3 ≤ t.packet → t.packet ≤ 7 → length buffer ≡ 26 → write_verdict t buffer ≡ verdict_accepted
  packet-accepted low high long =
      writing_accepted.1 (rw (le-leb 3 t.packet low, le-leb t.packet 7 high) refl, (rw (eq-eqb (length buffer) 26 long) refl, tt))

  -- M-2a: and fills it, whatever it held
  pub packet_fills : 3 ≤ t.packet → t.packet ≤ 7 → length buffer ≡ 26 → written t buffer ≡ bytes_of t
  packet_fills low high long = accepted-written (packet-accepted low high long)

  -- R-09, R-10: and an accepted one is of a packet from 3 to 7, into a buffer of 26 bytes
  pub accepted-asked : write_verdict t buffer ≡ verdict_accepted → (3 ≤ t.packet) × (t.packet ≤ 7) × (length buffer ≡ 26)
  accepted-asked e =
      let rows : NoneHolds (write_rows t.packet (length buffer)) = writing_accepted.0 e in
      let asked = and_both (leb 3 t.packet) (leb t.packet 7) (not-false _ rows.0) in
      (leb-true 3 t.packet asked.0, leb-true t.packet 7 asked.1, eqb-true (length buffer) 26 (not-false _ rows.1.0))
