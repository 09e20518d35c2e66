-- The packets of a table, one after another in their order.
use Prim.Native.Nat.{ℕ}
use mathlib.Core.List.{List, ◌++◌}
use mathlib.Core.Path.{◌≡◌, sym, ap, ◌∙◌}
use Rattle.text.specs.Putting.{put_on}
use Rattle.text.specs.declared.sheets.Sheet.{Sheet}
use Rattle.text.proofs.Putting.{put_next}
use Rattle.condition.specs.declared.slots.Slot.{Slot}
use Rattle.telegram.specs.Tables.{four_of}
use Rattle.telegram.specs.Telegrams.{bytes_of}
use Rattle.telegram.specs.declared.Telegram.{Telegram}
use Rattle.desk.specs.Desks.{table_of, packet_of}
use Rattle.desk.specs.declared.Desk.{Desk}
use Rattle.desk.proofs.Tables.{telegram-is}

module _ (desk : Desk) where
  abbrev carrying : ℕ → List Slot → Telegram
  carrying packet four = record { packet = packet; step = desk.step; slots = four }

  -- a packet with its four slots of the table is that of the desk
  pub packed : {table : List Slot} → table ≡ table_of desk → (packet : ℕ) {four : List Slot} → four ≡ four_of table packet
      → (before : Sheet) {after : Sheet} → after ≡ put_on (bytes_of (carrying packet four)) before → after ≡ put_on (bytes_of (packet_of desk packet)) before
  packed same packet own before here =
      here ∙ ap (λ t. put_on (bytes_of t) before) (ap (carrying packet) (own ∙ ap (λ (t : List Slot). four_of t packet) same) ∙ sym (telegram-is desk packet))

-- bytes that are put, and what is put behind them
pub and_then : (a b : List ℕ) (before : Sheet) {middle after : Sheet} → middle ≡ put_on a before → after ≡ put_on b middle → after ≡ put_on (a ++ b) before
and_then a b before first second = second ∙ (ap (put_on b) first ∙ put_next a b before)
