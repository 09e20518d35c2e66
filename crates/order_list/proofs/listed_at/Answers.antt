-- `listed_at`: the first index at which the order has the number.
use Rattle.std.proofs.Common.{rules, ◌≡◌, true, false}
use borrow.Author.Tests.{tests}
use lib.Dec.{eqb}
use Rattle.std.proofs.lemmas.Iterator.{first_from_Range}
use Rattle.order_list.specs.Lists.{order_at, listed_at}
use Rattle.order_list.proofs.Searched.{searched}
use Rattle.order_list.proofs.listed_at.Goals as goal

pub returns : goal.returns
unfolding listed_at
returns c =
    let a = c.args in
    searched (λ j. eqb (order_at a.list.now j).number a.number) a.n _
    (first_from_Range _ _ _ _
    (λ j. eqb (order_at a.list.now j).number a.number ≡ true)
    (λ j. eqb (order_at a.list.now j).number a.number ≡ false)
    c.find.ensures.ran (λ x q k. search (rules, tests)) (λ x q k. search (rules, tests)))
