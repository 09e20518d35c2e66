-- `next_number`: no number before the one in hand is permitted, and of 255 numbers one is, so the loop ends at one.
use Rattle.std.proofs.Common.{◌≡◌, ℕ, length, map, sym, arith, rules, ◌∙◌}
use lib.ListN.{length-map}
use Rattle.resting.specs.Rests.{rests_in}
use Rattle.resting.specs.declared.Ended.{Ended}
use Rattle.resting.proofs.Rested.{covers-resting}
use Rattle.numbers.proofs.Search.{number-first}
use Rattle.numbers.proofs.Permitted.{others-few}
use Rattle.numbers.proofs.next_number.Goals as goal

pub returns-then-is_permitted : goal.returns-then-is_permitted
returns-then-is_permitted c =
    let a = c.args in
    let n = c.number_after-number.ensures in
    n
    ∙ sym (number-first (rests_in a.at_rest) a.places a.last c.loop-others.others (search rules) (rw n at (sym c.is_permitted.ensures ∙ c.if-is_permitted.true)) c.loop-others.invariant)

pub unreachable-requires : goal.unreachable-requires
unreachable-requires c =
    let a = c.args in
    let number : Ended → ℕ = λ e. e.number in
    let all : length a.at_rest.ended ≡ 160 = search rules in
    let few =
    others-few (rests_in a.at_rest) (map number a.at_rest.ended) (covers-resting a.at_rest.rest a.at_rest.step a.at_rest.ended) (omega (arith, length-map a.at_rest.ended number, all)) a.places
    (search rules) a.last c.loop-others.others c.loop-others.invariant
    in omega (arith, few, c.loop-others-test.false)
