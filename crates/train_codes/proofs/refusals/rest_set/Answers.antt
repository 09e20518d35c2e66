-- `rest_set`: the bytes from 11 on, one after another.
use Rattle.std.proofs.Common.{◌≡◌, ℕ, List, length, take, drop, rules, tests, sym, ◌∙◌, arith}
use Rattle.std.specs.Prelude.{not, ◌==◌}
use Rattle.std.proofs.lemmas.Iterator.{YieldsList-from_slice}
use Rattle.std.proofs.lemmas.Iterator.Search.{any_from_yields_List}
use Rattle.train_codes.specs.Refusals.{rest_set}
use Rattle.train_codes.proofs.Rest.{any_list}
use Rattle.train_codes.proofs.refusals.rest_set.Goals as goal

pub returns : goal.returns
unfolding rest_set
returns c =
    let t : List ℕ = c.args.telegram.now in
    let whole : length t ≡ 26 = omega arith in
    any_from_yields_List (λ byte. not (byte == 0)) _ _ c.any.result c.any.ensures.ran (YieldsList-from_slice (take 15 (drop 11 t)) c.iter.ensures.rest) (λ x b q k. search (rules, tests))
    ∙ sym (any_list (λ byte. not (byte == 0)) t 15 11 (omega arith))
