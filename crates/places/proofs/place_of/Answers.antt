-- `place_of`: the search among the orders of the places.
use mathlib.Core.Path.{◌≡◌, ap, ◌∙◌}
use mathlib.Core.List.{List}
use Prim.Native.Nat.{ℕ}
use lib.ListN.{length}
use borrow.Author.Rules.{rules}
use Rattle.condition.specs.Slots.{slot_count}
use Rattle.order_list.specs.Lists.{index_below, found_at}
use Rattle.places.proofs.Live.{found-live}
use Rattle.places.proofs.place_of.Goals as goal

pub returns : goal.returns
returns c =
    let twenty : length c.args.places ≡ slot_count = search rules in
    c.found_at.ensures
    ∙ ap (index_below 20) (ap (λ (l : List ℕ). found_at l c.args.order) c.orders_of.ensures ∙ found-live c.args.places c.args.order twenty)
