-- `numbers_of`: the array has twenty elements, each the number of its order.
use Prim.Native.Nat.{ℕ, ◌<◌}
use mathlib.Core.Path.{◌∙◌, sym}
use mathlib.Core.List.{List}
use lib.Seq.{ext_get_or}
use native.Mathlib.Omega.{arith}
use borrow.Author.Rules.{rules}
use Rattle.order_list.specs.Lists.{order_at, numbers_of}
use Rattle.kit.proofs.Arrays.{made-at}
use Rattle.order_list.proofs.Listed.{numbers-long, number_at}
use Rattle.order_list.proofs.numbers_of.Goals as goal

pub returns : goal.returns
returns c =
    let list : List ℕ = c.args.list.now in
    let made = c.from_fn.ensures.items in
    ext_get_or 0 c.from_fn.result (numbers_of list) (made.long ∙ sym (numbers-long list)) (λ i p.
    let q : i < 20 = omega (arith, made.long) in
    made-at _ _ (λ j. (order_at list j).number) 20 (λ j y s r k. search rules) _ 0 i made q ∙ sym (number_at list i q))
