-- `hear_next`: the answer, the count and the lines, each by the contract of its function.
use Prim.Native.Nat.{◌+◌, min}
use mathlib.Core.Path.{ap, ◌∙◌}
use Rattle.text.specs.Putting.{put_on}
use Rattle.listener.specs.Lent.{listener_in}
use Rattle.listing_tables.specs.Tables.{heard_lines, tables_of}
use Rattle.lister.specs.Pieces.{most_tables}
use Rattle.lister.proofs.hear_next.Goals as goal

pub returns : goal.returns
unfolding heard_lines listener_in
returns c =
    let a = c.args in
    let meant = c.hear_in-answer.ensures.meant in (
      record {
        means = ap (λ h. h.listener) meant;
        counts = c.saturating_add.ensures ∙ ap (λ n. min (a.tables + n) most_tables) (c.tables_of.ensures ∙ ap (λ h. tables_of h.told) meant);
      },
      c.put_heard.ensures ∙ ap (λ heard. put_on (heard_lines heard) a.listing.now) meant,
      c.hear_in-answer.ensures,
    )
