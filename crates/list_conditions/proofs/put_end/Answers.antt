-- `put_end`: where the input has ended all of it is put, else nothing.
use mathlib.Core.Path.{sym, ap, ◌∙◌}
use Rattle.std.proofs.Common.{arith, rules, cond, []}
use Rattle.kit.proofs.Put.{put_as, poured-put}
use Rattle.text.proofs.Putting.{sheet_back}
use Rattle.listing.specs.Listings.{end_of}
use Rattle.listing_room.proofs.Room.{end_room_lem}
use Rattle.list_conditions.proofs.put_end.Goals as goal

pub returns-then-is_ended : goal.returns-then-is_ended
returns-then-is_ended c =
    put_as
    (ap (λ b. cond b (end_of c.args.lister) []) (sym c.is_ended.ensures ∙ c.if-is_ended.true))
    (poured-put (omega (arith, end_room_lem c.requires.0, c.requires.1))
    (sheet_back c.args.out c.finish.new.sheet c.on-sheet.ensures.0 c.on-sheet.ensures.1 c.finish.ensures (search rules)))
