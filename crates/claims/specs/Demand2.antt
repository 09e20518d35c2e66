-- Demand 2. The user's words:
--
--   "Conditions, written and read, and signals, read, are coded as SUBSET-119 issue 4.0.0 and our fleet binding in document 01 say.
--   Reading a written table gives that table. An invalid code never shows as a valid state."
--
-- It is said of the contracts of the functions that write and read (Functions.antt): whatever such a function is handed, each outcome
-- that its contract allows is as told below; where one function is handed what another gave, of both their outcomes. What the codings
-- are, document 01 says, and of voltage 0 document 02, request 1; and after them specs/ of `kinds`, `condition`, `telegram`, `train_codes`
-- and `train_telegram`. proofs/Demand2.antt proves it.
use Rattle.std.specs.Prelude.{ℕ, ◌+◌, ◌/◌, ◌%◌, ◌<◌, ◌≡◌, ◌⊎◌, false, cond, List, [], ◌∷◌, length, get_or, Some}
use Rattle.kit.specs.Bytes.{Bytes, bit}
use Rattle.wire.specs.Distances.{InRange, distance_word}
use Rattle.wire.specs.Verdicts.{ruled_accepted, ruling_of}
use Rattle.condition.specs.Slots.{MayHold, coded_of, settled}
use Rattle.condition.specs.declared.slots.Coded.{Coded}
use Rattle.telegram.specs.Sendable.{slot_on, may_alter}
use Rattle.telegram.specs.Tables.{table_slot}
use Rattle.telegram.specs.Telegrams.{packet_in, step_in, coded_at}
use Rattle.telegram.specs.declared.Telegram.{Telegram}
use Rattle.desk.specs.Desks.{Made, packet_of}
use Rattle.listener.specs.Listeners.{carries, heard_all}
use Rattle.train_telegram.specs.Readings.{Shows}
use Rattle.train_telegram.specs.States.{silent}
use Rattle.signals.specs.Answers.{acceptance, noted_of}
use Rattle.signals.specs.Histories.{Call, LastAccepted}
use Rattle.signals.specs.Signals.{fresh_signals, update_of}
use Rattle.signals.specs.declared.Signals.{Signals}
use Rattle.claims.specs.Functions.{OfDistance, OfRead, OfWriteTelegram, OfTable, OfWrite, OfFreshListener, OfHear, OfFreshSignals, OfUpdate, OfUpdateLent, call_of, OfUpdateBy, OfUpdateByLent}

-- ---- "Conditions, written and read, and signals, read, are coded as SUBSET-119 issue 4.0.0 and our fleet binding in document 01 say."

-- T-02, T-03: 26 bytes code a telegram: its packet number in the top three bits, its step number in the low thirteen, and in each of the
-- four places what its slot there is coded as (K-01 to K-05). `taken` is as what number, type and words are taken.
pub record Codes (taken : Coded → Coded) (bytes : List ℕ) (t : Telegram) : Type 0 where
  pub long : length bytes ≡ 26
  pub packet : packet_in bytes ≡ t.packet
  pub step : step_in bytes ≡ t.step
  pub places : (k : ℕ) → k < 4 → taken (coded_at bytes k) ≡ coded_of (slot_on t k)

-- of a country with voltage 0, as document 02 says, request 1
pub record AsDocument01Says : Type 2 where
  -- M-2a: what a desk writes codes its telegram
  pub writes : OfWrite (λ desk packet buffer verdict after. Made desk → ruling_of verdict ≡ ruled_accepted → Codes (λ c. c) after (packet_of desk packet))
  -- M-2b: what is read from bytes is the telegram that they code, with the bits of a second word that are not considered taken as zero (K-11,
  -- CR1-2)
  pub reads_so : OfRead (λ bytes reading. ruling_of reading.verdict ≡ ruled_accepted → Codes settled bytes reading.telegram)
  -- K-06, K-07: a word of 16 bits is metres from -32,767 to 32,767 or no value, and each of these is one word
  pub distances : OfDistance (λ word distance. word < 0x10000 → InRange distance × (distance_word distance ≡ word))
  -- M-2c: each signal has the state whose code stands in its own bits; S-01: of the record that is lent, too
  pub signals : OfUpdate (λ signals present telegram updated. noted_of updated.answer ≡ acceptance → Shows updated.signals.states telegram)
  pub signals_lent : OfUpdateLent (λ signals present telegram answer after. noted_of answer ≡ acceptance → Shows after.states telegram)
  -- and of what programs and other languages go through: an accepted call has a telegram, and that is shown
  pub signals_by : OfUpdateBy (λ signals call updated. noted_of updated.answer ≡ acceptance → (telegram : List ℕ) × (call ≡ Some telegram) × Shows updated.signals.states telegram)
  pub signals_by_lent : OfUpdateByLent (λ signals call answer after. noted_of answer ≡ acceptance → (telegram : List ℕ) × (call ≡ Some telegram) × Shows after.states telegram)

-- ---- "Reading a written table gives that table."

pub record ReadBack : Type 0 where
  -- M-2d: what a desk wrote is read as it was, in each of the five packets
  pub each_packet : OfWrite (λ desk packet buffer verdict after. Made desk → ruling_of verdict ≡ ruled_accepted
      → OfRead (λ bytes reading. bytes ≡ after → (ruling_of reading.verdict ≡ ruled_accepted) × (reading.telegram ≡ packet_of desk packet)))
  -- T-04: and they carry the table: slot i is place i % 4 of packet 3 + i / 4
  pub table : OfTable (λ desk table. (i : ℕ) → i < 20 → slot_on (packet_of desk (3 + i / 4)) (i % 4) ≡ table_slot table i)
  -- K-12, CR1-3: what was read and is written again has the same 26 bytes, bit by bit, but for two places, where the bits are zero. Both
  -- stand in kinds/specs/Words.antt `is_idle`, and `may_alter` says which bits of the 26 bytes these are. That each place is needed,
  -- reckoned/specs/Requests.antt shows by telegrams.
  --   K-10: of types 4 and 5 with change distance 8000h, all bits of the second word
  --   CR1-1: of type 4 with voltage 0, the ten country bits of the second word
  pub again : OfRead (λ bytes reading. Bytes bytes → ruling_of reading.verdict ≡ ruled_accepted
      → OfWriteTelegram (λ telegram buffer verdict after. telegram ≡ reading.telegram → length buffer ≡ 26
      → (i b : ℕ) → i < 26 → bit b (get_or after i 0) ≡ cond (may_alter bytes i b) false (bit b (get_or bytes i 0))))

-- ---- "An invalid code never shows as a valid state."

-- S-17, R-26: the record of this page: what a fresh one has become after these calls, the newest first
unfoldable pub record_after : List Call → Signals
record_after [] = fresh_signals
record_after ((present, telegram) ∷ earlier) = (update_of (record_after earlier) present telegram).signals

-- C-07: it is the public functions that make that record: a fresh one is what the maker gives, and a call leaves the next of the one
-- that it found, whether the record is handed over or lent
pub record TheSignalReader : Type 2 where
  pub signals_begin : OfFreshSignals (λ signals. signals ≡ record_after [])
  pub updates : (earlier : List Call) → OfUpdate (λ signals present telegram updated. signals ≡ record_after earlier → updated.signals ≡ record_after ((present, telegram) ∷ earlier))
  pub updates_lent : (earlier : List Call) → OfUpdateLent (λ signals present telegram answer after. signals ≡ record_after earlier → after ≡ record_after ((present, telegram) ∷ earlier))
  -- and whether a flag and bytes are handed over, or a telegram or none, as programs and other languages do
  pub updates_by : (earlier : List Call) → OfUpdateBy (λ signals call updated. signals ≡ record_after earlier → updated.signals ≡ record_after (call_of call ∷ earlier))
  pub updates_by_lent : (earlier : List Call) → OfUpdateByLent (λ signals call answer after. signals ≡ record_after earlier → after ≡ record_after (call_of call ∷ earlier))

-- R-26, M-1b: what a fresh listener has become after these telegrams, of any bytes, the newest first, is `heard_all`. It, too, is what the
-- public functions make.
pub record TheListener : Type 0 where
  pub listener_begins : OfFreshListener (λ listener. listener ≡ heard_all carries [])
  pub hears : (earlier : List (List ℕ)) → OfHear (λ listener telegram heard. listener ≡ heard_all carries earlier → heard.listener ≡ heard_all carries (telegram ∷ earlier))

pub record Valid : Type 0 where
  -- M-2e: whatever the bytes, a slot that is read has a type, a country, a voltage and a limit of the table of conditions, and no country
  -- with voltage 0 (CR1-2)
  pub read : OfRead (λ bytes reading. (k : ℕ) → MayHold (slot_on reading.telegram k))
  -- M-2e: and so has each slot of the picture, whatever was heard
  pub picture : (telegrams : List (List ℕ)) (i : ℕ) → MayHold (table_slot (heard_all carries telegrams).picture i)
  -- M-2e, S-12: whatever the calls were, the signals are silent, or each has the state whose code the last accepted telegram has for it
  pub signals : (calls : List Call) → ((record_after calls).states ≡ silent) ⊎ ((t : List ℕ) × LastAccepted calls t × Shows (record_after calls).states t)

-- ---- the demand

pub record Demand2 : Type 2 where
  pub coded : AsDocument01Says
  pub read_back : ReadBack
  pub reader : TheSignalReader
  pub listener : TheListener
  pub valid : Valid
