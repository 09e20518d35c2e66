-- `orders_of`: each element is the order of its place.
use Rattle.std.proofs.Common.{◌≡◌, length, refl, rules}
use Rattle.kit.proofs.Arrays.{made_map}
use Rattle.places.specs.Places.{free_place, place_at}
use Rattle.places.specs.declared.Place.{Place}
use Rattle.places.proofs.orders_of.Goals as goal

pub returns : goal.returns
returns c =
    let twenty : length c.args.places ≡ 20 = search rules in
    made_map _ _ (λ i. (place_at c.args.places i).order) 20 (λ i y q p k. search rules) (λ (p : Place). p.order) c.args.places free_place twenty (λ i. refl) _ 0
    c.from_fn.ensures.items
