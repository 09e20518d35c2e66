-- `judge`: a clash decides.
use mathlib.Core.Path.{sym, ◌∙◌, ap}
use Rattle.listener.specs.Answers.{refused_as}
use Rattle.listener.proofs.Lent.{judged_clash, judged_taken}
use Rattle.listener.proofs.judge.Goals as goal

pub returns-then-clashes : goal.returns-then-clashes
returns-then-clashes c =
    ap (λ number. record { told = refused_as number; memory = c.begin.new.memory }) c.from.ensures
    ∙ judged_clash c.args.memory.now _ (sym c.clashes.ensures ∙ c.if-clashes.true) c.begin.ensures

pub returns-else-clashes : goal.returns-else-clashes
returns-else-clashes c = judged_taken c.args.memory.now _ (sym c.clashes.ensures ∙ c.if-clashes.false) c.take.ensures
