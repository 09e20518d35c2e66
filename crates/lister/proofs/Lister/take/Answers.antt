-- `take`: what the telegram in hand lacks, and then the rest.
use mathlib.Core.Path.{◌∙◌}
use native.Mathlib.Omega.{arith}
use Rattle.lister.proofs.Phases.{here, lacks, parts_on, cut_fits, cut-begun}
use Rattle.lister.proofs.Lister.take.Goals as goal

pub lacking-requires : goal.lacking-requires
lacking-requires c = let few = lacks c.requires in omega (arith, few)

pub bite-between-requires : goal.bite-between-requires
bite-between-requires c = let cut = c.split_at.ensures in (c.requires, cut_fits _ _ c.requires cut.by_index.0 (cut.front_len ∙ c.lacking.ensures))

pub take_rest-requires : goal.take_rest-requires
take_rest-requires c =
    let cut = c.split_at.ensures in
    let same = c.bite-between.ensures.0 in
    (here c.args.self _ c.requires same, cut-begun _ _ c.requires cut.by_index.0 (cut.front_len ∙ c.lacking.ensures) same)

pub returns : goal.returns
returns c = parts_on c.args.self _ _ c.split_at.ensures.by_index.0 c.args.listing.now c.bite-between.ensures c.take_rest.ensures
