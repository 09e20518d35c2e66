-- `put_packet`: the telegram fills the 26 bytes, and they are put one after another.
use mathlib.Core.Path.{ap, ◌∙◌, refl}
use Rattle.text.specs.Putting.{put_on}
use Rattle.wire.proofs.Results.{accepted_ok}
use Rattle.telegram.proofs.Refusals.{packet-accepted, packet_fills}
use Rattle.desk_output.proofs.put_packet.Goals as goal

pub returns : goal.returns
returns c =
    let written = c.write.ensures.1 in
    let a = c.args in
    c.put_words.ensures
    ∙ ap (λ bytes. put_on bytes c.args.sheet.now) (written ∙ packet_fills (record { packet = a.packet; step = a.step; slots = a.slots }) _ c.requires.0 c.requires.1 refl)

-- a packet from 3 to 7 is never refused
pub unwrap-requires : goal.unwrap-requires
unwrap-requires c =
    let a = c.args in
    accepted_ok _ (c.write.ensures.0 ∙ packet-accepted (record { packet = a.packet; step = a.step; slots = a.slots }) _ c.requires.0 c.requires.1 refl)
