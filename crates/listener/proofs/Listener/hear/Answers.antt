-- `Listener::hear`: its memory hears.
use mathlib.Core.Path.{ap, ◌∙◌}
use Rattle.telegram.specs.Telegrams.{read_of}
use Rattle.listener.specs.Answers.{told_of}
use Rattle.listener.specs.Listeners.{carries, hear_of}
use Rattle.listener.specs.Lent.{listener_in}
use Rattle.listener.proofs.Back.{Sized, means-back}
use borrow.Author.Rules.{rules}
use Rattle.listener.proofs.Listener.hear.Goals as goal

pub returns : goal.returns
returns c =
    let a = c.args in
    let sized : Sized a.self =
    record {
      picture = search rules;
      marks = search rules;
      held = search rules;
      set = search rules;
    } in
    ap (λ l. record { told = told_of c.hear_in-answer.result; listener = l }) c.listener_in.ensures
    ∙ (c.hear_in-answer.ensures.meant
    ∙ ap (λ l. hear_of carries l (read_of a.telegram.now))
    (ap listener_in c.memory_of-memory.ensures ∙ means-back a.self sized))
