-- `seat`: the place taken is the lowest free one, and where none is free nothing is stored.
use Prim.Native.Nat.{ℕ, ◌≤◌}
use mathlib.Core.Bool.{Bool, false}
use mathlib.Core.List.{List}
use mathlib.Core.Path.{◌≡◌, refl, sym, ap, ◌∙◌}
use lib.ListN.{length, set}
use lib.Seq.{set_out}
use native.Mathlib.Omega.{arith}
use borrow.Author.Rules.{rules}
use Rattle.condition.specs.declared.slots.Body.{Body}
use Rattle.places.specs.Places.{lowest_free, is_live}
use Rattle.condition.specs.Slots.{slot_count}
use Rattle.order_list.specs.declared.Order.{Order}
use Rattle.order_list.proofs.Searched.{some-below, none-below}
use Rattle.places.specs.declared.Place.{Place}
use Rattle.places.proofs.Live.{lowest_free_lem}
use Rattle.resting.specs.Rests.{rests_in}
use Rattle.numbers.specs.Numbers.{next_number}
use Rattle.leaving.specs.Leaving.{body_in}
use Rattle.arriving.specs.Arriving.{seated}
use Rattle.arriving.specs.declared.Seats.{Seats}
use Rattle.arriving.proofs.Seated.{seated-new}
use Rattle.arriving.proofs.seat.Goals as goal

-- the place that a new order takes
abbrev placed : Order → ℕ → Body → Place
placed order number body = record { order = order.number; slot = record { number = number; body = body } }

-- the seats with a new order in them
abbrev with : Seats → Order → ℕ → ℕ → Body → Seats
with seats order number at body = record { places = set seats.places at (placed order number body); last = number }

wrote : (resting : ℕ → Bool) (order : Order) (seats : Seats) (number at : ℕ) (body : Body) → is_live seats.places order.number ≡ false
    → number ≡ next_number resting seats.places seats.last → at ≡ lowest_free seats.places → body ≡ body_in order
    → with seats order number at body ≡ seated resting order seats
wrote resting order seats number at body new a b c = rw (a, b, c) (sym (seated-new resting order seats new))

-- where no place is free, what is stored past the end changes none
crowded : (resting : ℕ → Bool) (order : Order) (seats : Seats) (number at : ℕ) → is_live seats.places order.number ≡ false
    → number ≡ next_number resting seats.places seats.last → at ≡ lowest_free seats.places → length seats.places ≤ at
    → ◌≡◌ {A = Seats} (record { places = seats.places; last = number }) (seated resting order seats)
crowded resting order seats number at new a b past =
    ap (λ (l : List Place). record { places = l; last = number }) (sym (set_out seats.places at (placed order number (body_in order)) past))
    ∙ wrote resting order seats number at (body_in order) new a b refl

pub returns-in-Some : goal.returns-in-Some
returns-in-Some c =
    let a = c.args in
    let (found, p) = some-below _ _ _ c.in-Some.ensures in
    wrote (rests_in a.at_rest) a.order a.seats _ _ _ c.requires c.next_number-last.ensures (found ∙ lowest_free_lem a.seats.places) c.body_of.ensures

pub returns-in_default : goal.returns-in_default
returns-in_default c =
    let a = c.args in
    let twenty : length a.seats.places ≡ slot_count = search rules in
    let full = none-below _ _ c.in_default.ensures in
    crowded (rests_in a.at_rest) a.order a.seats _ _ c.requires c.next_number-last.ensures (lowest_free_lem a.seats.places) (omega (arith, twenty, full))
