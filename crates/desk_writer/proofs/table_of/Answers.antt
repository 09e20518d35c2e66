-- `table_of`: each element is the slot of its place.
use Rattle.std.proofs.Common.{◌≡◌, length, refl, rules}
use Rattle.kit.proofs.Arrays.{made_map}
use Rattle.condition.specs.Slots.{empty_slot}
use Rattle.places.specs.Places.{free_place, place_at}
use Rattle.places.specs.declared.Place.{Place}
use Rattle.desk.specs.Desks.{table_of}
use Rattle.desk_writer.proofs.table_of.Goals as goal

pub returns : goal.returns
unfolding table_of
returns c =
    let twenty : length c.args.desk.places ≡ 20 = search rules in
    made_map _ _ (λ i. (place_at c.args.desk.places i).slot) 20 (λ i y q p k. search rules) (λ (p : Place). p.slot) c.args.desk.places free_place twenty (λ i. refl) _ empty_slot
    c.from_fn.ensures.items
