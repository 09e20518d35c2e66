-- Demand 3. The user's words:
--
--   "Start both ends fresh. Let telegrams be lost or repeated, step order kept, each one heard coming at most 8,191 steps after the
--   last table heard whole (before any, after the first telegram heard). Then each table heard whole becomes the vehicle's picture
--   exactly, and until then the previous picture stands. A condition is marked as carried on exactly when at most eight steps lie
--   from the previous whole table to this one and the same order stood in every accepted list from that one to this; a fresh desk's
--   table counts as an empty list. However long the loss within that bound, the next whole table puts the vehicle right."
--
-- It is said here of the fleet's figures, eight and eight, and of its telegrams of 26 bytes: each phrase in plain words, over what states
-- it. Where the text of a definition that is named stands: Calls.antt has the desk, its calls and the tables of its steps; Hearings.antt
-- what was heard, and which tables were heard whole; Ends.antt both ends, phrase by phrase, over any two figures and any binding;
-- Regular.antt runs that can be heard; what a desk, a telegram and a listener are, the crates of these names. proofs/Demand3.antt proves it.
use Rattle.std.specs.Prelude.{ℕ, ◌≤◌, ◌≡◌, ◌↔◌, true, List, ◌∷◌, length, replicate}
use Rattle.wire.specs.Verdicts.{ruled_accepted, ruling_of}
use Rattle.telegram.specs.Telegrams.{bytes_of, read_of}
use Rattle.desk.specs.Desks.{base_rest as eight, fresh_with, accept_of, packet_of, Made}
use Rattle.listener.specs.Answers.{told_of, hearing_of}
use Rattle.listener.specs.Lent.{listener_in}
use Rattle.listener.specs.Listeners.{carries, fresh_listener, hear_of, mark_at}
use Rattle.listener.specs.declared.Listener.{Listener}
use Rattle.claims.specs.Calls.{desk_after, steps_made}
use Rattle.claims.specs.Ends.{Binding, listener_after, Premises, picture_of, last_of, IsCarriedOn, PutRight, Answered}
use Rattle.claims.specs.Functions.{OfFreshDesk, OfAccept, OfWrite, OfFreshListener, OfHear, OfHearIn}
use Rattle.claims.specs.Hearings.{Item, wholes}
use Rattle.claims.specs.Regular.{wholly, Spaced}

-- ---- the figures and the bytes

-- D-12, L-06: `eight` is for how many steps an ended number rests at the desk, and `carries`, eight as well, over how many steps at most
-- the listener carries a condition. M-2a, M-2b: a telegram is sent as its 26 bytes, whatever it says, and bytes are read as the reader
-- reads them.
abbrev pub fleet_binding : Binding (List ℕ)
fleet_binding = record { write = bytes_of; read = read_of; CanCarry = λ telegram. Unit }

-- a run: the lists that were handed to a desk, and what a listener heard of the desk's telegrams, the newest first in both
module _ (calls : List (List ℕ)) (heard : List (Item (List ℕ))) where
  -- ---- "Start both ends fresh."

  -- D-04, W-03, A-20: the vehicle's listener was fresh, and then became with each telegram what `hear` makes of it. `sent n p` is heard as
  -- the 26 bytes of packet p of the desk of step n; that desk was fresh, and then became with each call what `accept` makes of it.
  -- `spoilt bytes` is heard as these bytes.
  abbrev pub vehicle : Listener
  vehicle = listener_after eight carries fleet_binding calls heard

  -- ---- "Let telegrams be lost or repeated, step order kept, each one heard coming at most 8,191 steps after the last table heard
  -- whole (before any, after the first telegram heard)."

  -- M-3, A-24: each telegram is one of the packets 3 to 7 of a step that the desk has made, or of step 0, the fresh desk's; no telegram
  -- before it is of a later step; and it comes at most 8,191 steps after the last table heard whole, or before any after the first
  -- telegram. Any may be missing, and any may come again. More is allowed than the user asks for: a telegram of the last whole table
  -- at any later time, and anywhere bytes that the reader refuses.
  abbrev pub LostOrRepeated : Type 0
  LostOrRepeated = Premises eight carries fleet_binding calls heard

  -- ---- "Then each table heard whole becomes the vehicle's picture exactly, and until then the previous picture stands."

  -- M-3a, M-3b: the picture is the table of the newest step heard whole: all twenty slots. Before any it is the fresh one, which is empty.
  abbrev pub PictureExact : Type 0
  PictureExact = vehicle.picture ≡ picture_of eight carries fleet_binding calls (wholes heard)

  -- ---- "A condition is marked as carried on exactly when at most eight steps lie from the previous whole table to this one and the
  -- same order stood in every accepted list from that one to this; a fresh desk's table counts as an empty list."

  -- M-3c, M-3d: of the two newest steps heard whole, m and then n: the mark of slot i is set exactly when a condition stands in slot i of
  -- the table of n, n is at most m + 8, and that condition's order stood in the accepted list of every step from m to n, both among
  -- them; no order stood in that of step 0. After the first table heard whole, and before it, no mark is set.
  abbrev pub MarkedExactly : Type 0
  MarkedExactly = (i : ℕ) → (mark_at vehicle.marks i ≡ true) ↔ IsCarriedOn eight carries fleet_binding calls (wholes heard) i

  -- ---- "However long the loss within that bound, the next whole table puts the vehicle right."

  -- M-3e: whatever was lost before: where the newest telegram is one of step n, and all five of that step have been heard, the picture
  -- is the table of step n.
  abbrev pub NextPutsRight : Type 0
  NextPutsRight = PutRight eight carries fleet_binding calls heard

  -- ---- and what the user reads in the listing

  -- L-04: the step last taken is the step number of the newest table heard whole; before any, none.
  abbrev pub LastExact : Type 0
  LastExact = vehicle.last ≡ last_of eight carries fleet_binding calls (wholes heard)

  -- L-01 to L-05, L-08, C-09: the newest telegram was answered as a repeat where it had been heard before; where it made its table whole,
  -- with that table's step number, how many conditions it has, and how many steps lie from the whole table before it (0 for the first);
  -- else as held. No telegram of the desk is refused, and what was spoilt is refused under the reader's number.
  abbrev pub AnsweredExactly : Type 0
  AnsweredExactly = Answered eight carries fleet_binding calls heard

-- ---- the demand

-- C-08: the desk, the writer and the listener of this page are the public functions: by its contract each answers so, and a fresh end is
-- what its maker gives
pub record TheFunctions : Type 0 where
  pub desk_begins : OfFreshDesk (λ desk. desk ≡ fresh_with eight)
  pub accepts : OfAccept (λ desk list answer. answer ≡ accept_of eight desk list)
  -- R-26: what `accept` requires of a desk is so of the desk of any calls
  pub made : (calls : List (List ℕ)) → Made (desk_after eight calls)
  -- M-2a: what the buffer held before does not matter: an accepted call leaves the bytes of the telegram, and these alone
  pub writes : OfWrite (λ desk packet buffer verdict after. ruling_of verdict ≡ ruled_accepted → after ≡ fleet_binding.write (packet_of desk packet))
  -- R-09, R-10: each of the five packets is accepted into a buffer of 26 bytes
  pub writes_five : OfWrite (λ desk packet buffer verdict after. 3 ≤ packet → packet ≤ 7 → length buffer ≡ 26 → ruling_of verdict ≡ ruled_accepted)
  pub listener_begins : OfFreshListener (λ listener. listener ≡ fresh_listener)
  pub hears : OfHear (λ listener telegram heard. hearing_of heard ≡ hear_of carries listener (fleet_binding.read telegram))
  -- W-04: and so it is where the listener stands in memory that is lent; 310 zeros are a fresh one's
  pub fresh_memory : listener_in (replicate 310 0) ≡ fresh_listener
  pub hears_lent : OfHearIn (λ memory telegram answer after.
      let next = hear_of carries (listener_in memory) (fleet_binding.read telegram) in
      (told_of answer ≡ next.told) × (listener_in after ≡ next.listener))

-- M-3: of every sequence of lists handed to a fresh desk, and of everything heard so: after each telegram, and for any length of service
abbrev pub InEveryRun : ((calls : List (List ℕ)) → List (Item (List ℕ)) → Type 0) → Type 0
InEveryRun Such = (calls : List (List ℕ)) (heard : List (Item (List ℕ))) → LostOrRepeated calls heard → Such calls heard

pub record Demand3 : Type 0 where
  pub functions : TheFunctions
  pub picture : InEveryRun PictureExact
  pub carried : InEveryRun MarkedExactly
  pub right : InEveryRun NextPutsRight
  pub last : InEveryRun LastExact
  pub answered : InEveryRun AnsweredExactly
  -- C-08: and there are such runs: whatever the calls, the tables of any of the desk's steps that are at most 8,191 apart may be heard
  -- whole, one after another (Regular.antt), and they are then the tables heard whole
  pub met : (calls : List (List ℕ)) (n : ℕ) (before : List ℕ) → Spaced (steps_made eight calls) (n ∷ before)
      → LostOrRepeated calls (wholly (List ℕ) (n ∷ before)) × (wholes (wholly (List ℕ) (n ∷ before)) ≡ n ∷ before)
