-- How many bytes are printed for telegrams at most: 639 for each five together, and 11 for each one over. A table is taken when five packets
-- of its set are held, and a telegram brings at most one packet; so what is printed for telegrams, and the room for as many as there are packets
-- in hand after them, has place in the room for the telegrams and the packets in hand before them. That is so because every slot that the
-- listener holds was read from bytes.
use Prim.Native.Nat.{ℕ, suc, ◌+◌, ◌≤◌}
use mathlib.Core.Path.{◌≡◌, refl, sym, ap, subst}
use mathlib.Core.Bool.{false}
use mathlib.Core.List.{List, [], ◌∷◌}
use lib.ListN.{length, get_or, length-append}
use native.Mathlib.Omega.{arith}
use Rattle.kit.specs.Bytes.{Bytes}
use Rattle.kit.proofs.Cases.{on}
use Rattle.kit.proofs.Loops.{count_most}
use Rattle.condition.specs.Slots.{empty_slot}
use Rattle.wire.specs.Verdicts.{Verdict, verdict_accepted, verdict_refused}
use Rattle.telegram.specs.Tables.{packets}
use Rattle.telegram.specs.Telegrams.{read_of}
use Rattle.telegram.specs.declared.Telegram.{Telegram}
use Rattle.telegram.proofs.Valid.{never_invalid}
use Rattle.picture.specs.Pictures.{clashes}
use Rattle.hand.specs.Sets.{begun, set_for, is_held, joined, is_whole}
use Rattle.last_step.specs.LastSteps.{is_last}
use Rattle.listener.specs.Answers.{Hearing, refused_as, as_repeat, as_held}
use Rattle.listener.specs.Listeners.{carries, fresh_listener, holding, taken_by, told_of_table, heard_of, after_reading, hear_of}
use Rattle.listener.specs.declared.Listener.{Listener}
use Rattle.listener.proofs.Every.{Every, fresh_every, hear_every}
use Rattle.listener.proofs.Hearing.{heard-last, heard_copy, heard-part, heard-clash, heard-taken}
use Rattle.listing_tables.specs.Tables.{heard_lines}
use Rattle.lister.specs.Hearings.{heard_by, listener_through, lines_for}
use Rattle.listing_room.specs.Rooms.{telegrams_room}
use Rattle.listing_room.proofs.Held.{held_count, joined-count, begun-count, set-count, whole_count_lem}
use Rattle.listing_room.proofs.Lines.{refused-short}
use Rattle.listing_room.proofs.Sizes.{Small, number_byte, hear-small}
use Rattle.listing_room.proofs.Tables.{Narrow, heard-short}

pub empty-narrow : Narrow empty_slot
empty-narrow = (refl, omega arith)

-- ---- one telegram

-- its lines, and the room for further telegrams and the packets then in hand, have place in the room for all of them and the packets in hand now
abbrev Paid : Listener → Hearing → Type 0
Paid listener heard =
    (further : ℕ) → length (heard_lines heard) + telegrams_room (further + held_count heard.listener.hand) ≤ telegrams_room (suc further + held_count listener.hand)

-- nothing is printed, and at most one packet more is held
silent_paid : (listener : Listener) (heard : Hearing) → heard_lines heard ≡ [] → held_count heard.listener.hand ≤ held_count listener.hand + 1 → Paid listener heard
silent_paid listener heard silent one further = omega (arith, ap length silent, one)

-- a refusal is printed, and no packet more is held
refusal_paid : (listener : Listener) (heard : Hearing) → length (heard_lines heard) ≤ 11 → held_count heard.listener.hand ≤ held_count listener.hand → Paid listener heard
refusal_paid listener heard short none further = omega (arith, short, none)

-- a table is printed, four packets were held before, and none is
table_paid : (listener : Listener) (heard : Hearing) → length (heard_lines heard) ≤ 639 → 4 ≤ held_count listener.hand → held_count heard.listener.hand ≡ 0 → Paid listener heard
table_paid listener heard short four none further = omega (arith, short, four, none)

paid_as : (listener : Listener) {heard way : Hearing} → heard ≡ way → Paid listener way → Paid listener heard
paid_as listener e = subst (Paid listener) (sym e)

module _ (reach : ℕ) (listener : Listener) where
  heard_paid : (t : Telegram) → length (heard_lines (heard_of reach listener t)) ≤ 639 → Paid listener (heard_of reach listener t)
  unfolding taken_by heard_lines
  heard_paid t short =
      let hand = listener.hand in
      let own = set_for hand t.step in
      let with_it = joined own t in
      let more : held_count with_it ≤ held_count hand + 1 = omega (arith, joined-count own t, set-count hand t.step) in
      let repeat : Hearing = record { told = as_repeat; listener = listener } in
      let part : Hearing = record { told = as_held; listener = holding listener with_it } in
      let dropped : Hearing = record { told = refused_as 15; listener = holding listener (begun 0) } in
      let taken : Hearing = record { told = told_of_table listener with_it; listener = taken_by reach listener with_it } in
      on (is_last listener.last t.step)
      (λ a. paid_as listener (heard-last reach listener t a) (silent_paid listener repeat refl (omega arith)))
      (λ a.
      on (is_held own t.packet)
      (λ b. paid_as listener (heard_copy reach listener t a b) (silent_paid listener repeat refl (omega arith)))
      (λ b.
      on (is_whole with_it)
      (λ c.
      on (clashes with_it.slots)
      (λ d. paid_as listener (heard-clash reach listener t a b c d) (refusal_paid listener dropped (refused-short 15 (omega arith)) (omega (arith, begun-count 0))))
      (λ d.
      let e = heard-taken reach listener t a b c d in
      paid_as listener e (table_paid listener taken (subst (λ h. length (heard_lines h) ≤ 639) e short) (omega (arith, whole_count_lem with_it c, more)) (begun-count 0))))
      (λ c. paid_as listener (heard-part reach listener t a b c) (silent_paid listener part refl more))))

  after_paid : (t : Telegram) (verdict : Verdict) → Small (after_reading verdict reach listener t).told → length (heard_lines (after_reading verdict reach listener t)) ≤ 639
      → Paid listener (after_reading verdict reach listener t)
  unfolding heard_lines
  after_paid t verdict_accepted small short = heard_paid t short
  after_paid t (verdict_refused number) small short = refusal_paid listener (record { told = refused_as number; listener = listener }) (refused-short number (omega (arith, small.number))) (omega arith)

module _ (listener : Listener) (narrow : Every Narrow listener) (telegram : List ℕ) (bytes : Bytes telegram) where
  next-narrow : Every Narrow (heard_by listener telegram).listener
  next-narrow = hear_every Narrow empty-narrow carries listener (read_of telegram) narrow (λ k. (never_invalid telegram k, number_byte telegram bytes k))

  telegram_paid : Paid listener (heard_by listener telegram)
  unfolding hear_of
  telegram_paid =
      let small = hear-small carries listener telegram in
      after_paid carries listener (read_of telegram).telegram (read_of telegram).verdict small (heard-short (heard_by listener telegram) small next-narrow.picture)

-- ---- telegrams one after another

-- each of them has bytes alone
abbrev pub AllBytes : List (List ℕ) → Type 0
AllBytes [] = Unit
AllBytes (telegram ∷ more) = Bytes telegram × AllBytes more

lines_paid : (telegrams : List (List ℕ)) → AllBytes telegrams → (listener : Listener) → Every Narrow listener
    → length (lines_for listener telegrams) ≤ telegrams_room (length telegrams + held_count listener.hand)
unfolding lines_for
lines_paid [] bytes listener narrow = omega arith
lines_paid (telegram ∷ more) (own, bytes) listener narrow =
    let heard = heard_by listener telegram in
    omega (
      arith,
      length-append (heard_lines heard) (lines_for heard.listener more),
      telegram_paid listener narrow telegram own (length more),
      lines_paid more bytes heard.listener (next-narrow listener narrow telegram own),
    )

pub through_narrow : (telegrams : List (List ℕ)) → AllBytes telegrams → (listener : Listener) → Every Narrow listener → Every Narrow (listener_through listener telegrams)
unfolding listener_through
through_narrow [] bytes listener narrow = narrow
through_narrow (telegram ∷ more) (own, bytes) listener narrow =
    through_narrow more bytes (heard_by listener telegram).listener (next-narrow listener narrow telegram own)

-- after any telegrams at most five packets are held
pub lines_more : (telegrams : List (List ℕ)) → AllBytes telegrams → (listener : Listener) → Every Narrow listener → length (lines_for listener telegrams) ≤ telegrams_room (length telegrams) + 639
lines_more telegrams bytes listener narrow =
    omega (arith, lines_paid telegrams bytes listener narrow, count_most (λ k. get_or listener.hand.held k false) packets)

-- G-03, G-07: a fresh listener holds no packet
pub lines_room_lem : (telegrams : List (List ℕ)) → AllBytes telegrams → length (lines_for fresh_listener telegrams) ≤ telegrams_room (length telegrams)
unfolding fresh_listener
lines_room_lem telegrams bytes = omega (arith, lines_paid telegrams bytes fresh_listener (fresh_every Narrow empty-narrow), begun-count 0)
