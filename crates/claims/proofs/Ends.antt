-- Where the desk's half of demand 3 and the listener's meet, over the figures and any binding that reads back what was written: a telegram of
-- the desk is read as it was sent, and a mark is set exactly when the condition is carried on, where the listener's figure is not above the
-- desk's. Claimed.antt puts the claim together from these.
use Prim.Native.Nat.{ℕ, ◌-◌, ◌≤◌}
use mathlib.Core.Path.{◌≡◌, sym, ◌∙◌}
use mathlib.Core.Logic.{◌↔◌}
use mathlib.Core.Bool.{true}
use mathlib.Core.List.{List, [], ◌∷◌}
use native.Mathlib.Omega.{arith}
use Rattle.kit.proofs.Cases.{clash, given}
use Rattle.wire.specs.Verdicts.{verdict_accepted}
use Rattle.telegram.specs.Tables.{table_slot, four_of}
use Rattle.telegram.specs.Sendable.{Sendable}
use Rattle.telegram.specs.declared.Telegram.{Telegram}
use Rattle.desk.specs.Desks.{packet_of}
use Rattle.desk.proofs.Tables.{telegram-is, packet_sendable}
use Rattle.marks.proofs.Carrying.{mark_at_lem, carried-exactly, none-carried}
use Rattle.listener.specs.Listeners.{mark_at}
use Rattle.listener.proofs.Hearing.{fresh_unmarked}
use Rattle.claims.specs.Calls.{desk_of, table_in}
use Rattle.claims.specs.Hearings.{sent}
use Rattle.claims.specs.Ends.{Binding, message_of, OfTheDesk, picture_of, IsCarriedOn}
use Rattle.claims.proofs.Following.{telegram_in, marks_for, Falling}
use Rattle.claims.proofs.History.{sound, step_is, occupied_ordered, again-stood, stood-again}

-- M-2d: reading a written telegram gives that telegram
abbrev pub ReadsBack : {Message : Type 0} → Binding Message → Type 0
ReadsBack binding = (t : Telegram) → Sendable t → binding.CanCarry t → binding.read (binding.write t) ≡ record { verdict = verdict_accepted; telegram = t }

module _ (rest reach : ℕ) (enough : reach ≤ rest) (few : rest ≤ 11) {Message : Type 0} (binding : Binding Message) (back : ReadsBack binding) (calls : List (List ℕ)) where
  -- a telegram that was sent is read as it was sent
  pub read_back : (n p : ℕ) → OfTheDesk rest reach binding calls n p
      → binding.read (message_of rest reach binding calls (sent n p)) ≡ record { verdict = verdict_accepted; telegram = telegram_in rest reach binding calls n p }
  read_back n p (made, low, high, carries) =
      let step = step_is rest few calls n made in
      let telegram : packet_of (desk_of rest calls n) p ≡ telegram_in rest reach binding calls n p =
      telegram-is (desk_of rest calls n) p ∙ (λ i. record { packet = p; step = step i; slots = four_of (table_in rest calls n) p }) in
      back (packet_of (desk_of rest calls n) p) (packet_sendable (sound rest few calls n) p low high) carries
      ∙ (λ i. record { verdict = verdict_accepted; telegram = telegram i })

  -- a mark is set exactly when the condition is carried
  pub marked : (whole : List ℕ) → Falling rest reach binding calls whole → (i : ℕ)
      → (mark_at (marks_for rest reach binding calls whole) i ≡ true) ↔ IsCarriedOn rest reach binding calls whole i
  marked [] f i = (λ e. clash e (fresh_unmarked i), λ none. absurd none)
  marked (n ∷ []) f i = (
    λ e. clash e (mark_at_lem reach 0 (picture_of rest reach binding calls []) (table_in rest calls n) i ∙ none-carried reach (picture_of rest reach binding calls []) (table_slot (table_in rest calls n) i)),
    λ none. absurd none,
  )
  marked (n ∷ m ∷ before) (later, made, f) i =
      let is = mark_at_lem reach (n - m) (table_in rest calls m) (table_in rest calls n) i in
      let exactly = carried-exactly (table_in rest calls m) (table_slot (table_in rest calls n) i) reach (n - m) in
      let ordered = occupied_ordered rest few calls n i in (
        λ e.
            given (exactly.0 (sym is ∙ e))
            (λ (occupied, low, high, again).
            (ordered.0 occupied, omega arith, again-stood rest few calls m n i (omega arith) (omega arith) made (ordered.0 occupied) again)),
        λ (order, near, stood).
            is ∙ exactly.1 (ordered.1 order, omega arith, omega arith, stood-again rest few calls m n i (omega arith) (omega arith) made order stood),
      )
