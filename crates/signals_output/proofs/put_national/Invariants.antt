-- `put_national`: the words of the systems so far are put.
use Rattle.std.proofs.Common.{◌*◌}
use Rattle.kit.specs.Each.{each}
use Rattle.page.specs.Pages.{PagedOn}
use Rattle.signals_output.specs.Lines.{national_word}
use Rattle.signals_output.proofs.put_national.Given as goal

abbrev pub invariant-loop-isolation : goal.invariant-loop-isolation
invariant-loop-isolation l =
    PagedOn (16 * l.isolation-index) (each (national_word l.fn.national) 0 l.isolation-index) l.initial.page l.page
