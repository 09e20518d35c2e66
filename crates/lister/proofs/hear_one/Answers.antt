-- `hear_one`: the listener's memory hears.
use mathlib.Core.List.{[]}
use mathlib.Core.Path.{◌≡◌, ap, sym, ◌∙◌}
use Rattle.text.specs.Putting.{put_on}
use Rattle.listener.specs.Lent.{listener_in}
use Rattle.listener.proofs.Back.{Sized, means-back}
use Rattle.lister.specs.Pieces.{padded}
use Rattle.lister.proofs.Kept.{state}
use Rattle.lister.proofs.Phases.{next-heard, next-lines}
use borrow.Author.Rules.{rules}
use Rattle.lister.proofs.hear_one.Goals as goal

pub returns : goal.returns
returns c =
    let lister = c.args.lister in
    let listener = lister.listener in
    let telegram = c.args.telegram.now in
    let sized : Sized listener =
    record {
      picture = search rules;
      marks = search rules;
      held = search rules;
      set = search rules;
    } in
    let same : listener_in c.memory_of-memory.result ≡ listener = ap listener_in c.memory_of-memory.ensures ∙ means-back listener sized in (
      ap (λ l. state l c.hear_next-next.result.tables (padded []) 0) c.listener_in.ensures
          ∙ next-heard lister telegram _ _ _ same c.hear_next-next.ensures.0,
      c.hear_next-next.ensures.1 ∙ ap (λ bytes. put_on bytes c.args.listing.now) (sym (next-lines lister telegram _ same)),
    )
