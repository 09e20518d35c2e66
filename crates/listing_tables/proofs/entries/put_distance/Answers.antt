-- `put_distance`: nothing but a sign, or a sign where there is one and then the metres.
use mathlib.Core.Path.{ap, sym}
use native.Mathlib.Omega.{arith}
use Rattle.text.specs.Words.{blank}
use Rattle.listing_words.specs.Words.{number_then}
use Rattle.page.proofs.Sheets.{on_page, on_as, on-then}
use Rattle.listing_tables.proofs.Words.{distance_signed}
use Rattle.listing_tables.proofs.entries.put_distance.Goals as goal

pub returns-else-word-eq-NO_VALUE : goal.returns-else-word-eq-NO_VALUE
returns-else-word-eq-NO_VALUE c =
    let sign = on_page c.put_byte_if.ensures (omega arith) in
    let metres = on_page c.put_number.ensures (omega arith) in
    on_as (distance_signed _ c.if-word-eq-NO_VALUE.false) (on-then sign (on_as (ap (λ n. number_then n blank) (sym c.metres.ensures)) metres))
