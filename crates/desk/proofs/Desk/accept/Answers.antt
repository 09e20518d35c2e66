-- `Desk::accept`: by what `refusal_of` answered; an accepted list makes who ends and who stays, and then who is new.
use Prim.Native.Nat.{ℕ, ◌<◌, ◌≤◌}
use mathlib.Core.List.{List}
use mathlib.Core.Path.{◌≡◌, refl, sym}
use lib.ListN.{length}
use native.Mathlib.Omega.{arith}
use borrow.Author.Rules.{rules}
use Rattle.wire.specs.Steps.{steps}
use Rattle.wire.specs.Verdicts.{verdict_accepted, verdict_refused, row_number}
use Rattle.wire.specs.declared.refusals.Refusal.{Refusal}
use Rattle.wire.proofs.Results.{number-positive}
use Rattle.order_list.specs.Lists.{order_count}
use Rattle.orders.specs.Orders.{list_refusal}
use Rattle.orders.proofs.Lists.{fair-length}
use Rattle.resting.specs.Rests.{is_resting}
use Rattle.leaving.specs.Leaving.{remains_of}
use Rattle.leaving.specs.declared.Remains.{Remains}
use Rattle.arriving.specs.Arriving.{seated_all}
use Rattle.arriving.specs.declared.Seats.{Seats}
use Rattle.desk.specs.declared.Desk.{Desk}
use Rattle.desk.specs.Desks.{Accepting, base_rest, accept_of}
use Rattle.desk.specs.Steps.{next_step, step_of}
use Rattle.desk.proofs.Making.{accepts, refuses, made-sound}
use Rattle.desk.proofs.Desk.accept.Goals as goal

module _ (desk : Desk) (list : List ℕ) where
  refusing : (refusal : Refusal) → row_number refusal ≡ list_refusal desk.places list
      → ◌≡◌ {A = Accepting} (record { verdict = verdict_refused (row_number refusal); desk = desk }) (accept_of base_rest desk list)
  refusing refusal e = let one : 1 ≤ row_number refusal = number-positive refusal in rw e (sym (refuses base_rest desk list (λ z. omega (arith, one, e, z))))

  accepting : (next : Desk) → list_refusal desk.places list ≡ 0 → next ≡ step_of base_rest desk list
      → ◌≡◌ {A = Accepting} (record { verdict = verdict_accepted; desk = next }) (accept_of base_rest desk list)
  accepting next z s = rw s (sym (accepts base_rest desk list z))

stepped : (desk : Desk) (list : List ℕ) (left : Remains) (seats : Seats)
    → left ≡ remains_of list (order_count list) (next_step desk.step) desk.places desk.ended
    → seats ≡ seated_all (is_resting base_rest (next_step desk.step) left.ended) list (record { places = left.places; last = desk.last }) (order_count list)
    → record { places = seats.places; ended = left.ended; last = seats.last; step = next_step desk.step } ≡ step_of base_rest desk list
unfolding step_of remains_of
stepped desk list left seats e s = rw (s, e) refl

pub returns-in-Err : goal.returns-in-Err
returns-in-Err c = refusing c.args.self c.args.list.now c.in-Err.refusal c.in-Err.ensures

pub overflow_add-step : goal.overflow_add-step
overflow_add-step c =
    let p : c.args.self.step < steps = (made-sound c.requires).below in
    search rules

pub overflow_cast-n : goal.overflow_cast-n
overflow_cast-n c =
    let p : length c.args.list.now ≤ 200 = fair-length c.args.self.places c.args.list.now (sym c.in_default.ensures) in
    search rules

pub returns : goal.returns
returns c = accepting c.args.self c.args.list.now _ (sym c.in_default.ensures) (stepped c.args.self c.args.list.now _ _ c.leave.ensures c.seat_all-last.ensures)
