-- `begun_tally`: before any telegram every count can be held.
use mathlib.Core.Path.{◌≡◌, subst⁻¹}
use Rattle.std.proofs.Common.{rules, Bool, true, false, cond, [], Option, Some, None, IfSome}
use Rattle.summary.specs.Counts.{tally_of}
use Rattle.summary.specs.Rooms.{Countable}
use Rattle.summary.specs.declared.Tally.{Tally}
use Rattle.summary.proofs.Room.{tally-fits}
use Rattle.list_conditions.proofs.begun_tally.Goals as goal

begun-fits : (wanted : Bool) (counted : Option Tally) → counted ≡ cond wanted (Some (tally_of [])) None → IfSome counted Countable
begun-fits true counted e = subst⁻¹ (λ tally. IfSome tally Countable) e (tally-fits [])
begun-fits false counted e = subst⁻¹ (λ tally. IfSome tally Countable) e tt

pub returns-clause-fits : goal.returns-clause-fits
returns-clause-fits c = begun-fits c.args.asked.summary c.then.result (search rules)
