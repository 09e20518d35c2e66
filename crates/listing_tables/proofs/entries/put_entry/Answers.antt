-- `put_entry`: nothing for an empty slot, otherwise its words one after another.
use mathlib.Core.Path.{ap, sym, ◌∙◌}
use mathlib.Core.List.{[], ◌∷◌, ◌++◌}
use native.Mathlib.Omega.{arith}
use Rattle.condition.specs.declared.slots.Coded.{Coded}
use Rattle.text.specs.Words.{blank}
use Rattle.listing_words.specs.Words.{distance_text}
use Rattle.listing_seconds.specs.Seconds.{second_word}
use Rattle.listing_entries.specs.Entries.{entry_words}
use Rattle.listing_entries.proofs.Entries.{entry-empty, entry_occupied}
use Rattle.page.proofs.Sheets.{on-none, on_as, on-then, on-most}
use Rattle.listing_tables.proofs.Words.{numbers-then}
use Rattle.listing_tables.proofs.entries.put_entry.Goals as goal

pub returns-then-not-is_occupied : goal.returns-then-not-is_occupied
returns-then-not-is_occupied c = on_as (entry-empty _ _ _ (sym c.is_occupied.ensures ∙ c.if-not-is_occupied.true)) (on-most (omega arith) on-none)

pub returns : goal.returns
unfolding entry_words
returns c =
    let coded = c.coded_of-coded in
    on_as (entry_occupied _ _ _ (sym c.is_occupied.ensures ∙ c.if-not-is_occupied.false))
    (on-then
    (on_as (numbers-then c.args.place c.args.slot coded.result coded.ensures) c.put_numbers.ensures)
    (on-then
    (on_as (ap (λ (as-coded : Coded). distance_text as-coded.first ++ ((blank ∷ []) ++ (second_word c.args.slot.body ++ (blank ∷ [])))) (sym coded.ensures)) c.put_both.ensures)
    c.put_mark.ensures))
