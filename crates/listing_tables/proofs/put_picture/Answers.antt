-- `put_picture`: after i turns the lines of the first i slots are put.
use mathlib.Core.Path.{◌≡◌, ap, ap₂, sym}
use native.Mathlib.Omega.{arith}
use Rattle.kit.specs.Each.{each}
use Rattle.page.proofs.Sheets.{on-none, on_as, on-most, on-each}
use Rattle.listing_entries.specs.Entries.{entry_line}
use Rattle.listing_tables.specs.Tables.{picture_lines}
use Rattle.listing_tables.proofs.put_picture.Invariants.{lines}
use borrow.Author.Rules.{rules}
use Rattle.listing_tables.proofs.put_picture.Goals as goal

pub loop-i-init : goal.loop-i-init
unfolding each
loop-i-init c = on-none

pub loop-i-preserved : goal.loop-i-preserved
loop-i-preserved c =
    let line = ap₂ (entry_line c.loop-i.i) c.shown_slot-slot.ensures c.is_marked-carried.ensures in
    on-each (lines c.args.memory.now) c.loop-i.i (omega arith) c.loop-i.invariant (on_as (sym line) c.put_entry.ensures)

pub returns : goal.returns
unfolding picture_lines
returns c =
    let all : c.loop-i.i ≡ 20 = search rules in
    on_as (ap (each (lines c.args.memory.now) 0) (sym all)) (on-most (omega arith) c.loop-i.invariant)
