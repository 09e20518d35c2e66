-- `put_packets`: after each turn the packets so far are put.
use mathlib.Core.Path.{◌≡◌, ap, sym, ◌∙◌}
use borrow.Author.Rules.{rules}
use Rattle.kit.specs.Each.{each}
use Rattle.text.specs.Putting.{put_on}
use Rattle.text.proofs.Putting.{put_none, put_each}
use Rattle.summary.specs.Summaries.{packet_at, packet_parts}
use Rattle.summary.proofs.put_packets.Goals as goal

pub loop-k-init : goal.loop-k-init
unfolding each
loop-k-init c = sym (put_none c.args.sheet.now)

pub loop-k-preserved : goal.loop-k-preserved
loop-k-preserved c =
    let l = c.loop-k in
    let part = packet_at c.args.held in
    c.put_packet.ensures ∙ (ap (put_on (part l.k)) l.invariant ∙ put_each part l.k c.args.sheet.now)

pub returns : goal.returns
unfolding packet_parts
returns c =
    let all : c.loop-k.k ≡ 5 = search rules in
    c.loop-k.invariant ∙ ap (λ n. put_on (each (packet_at c.args.held) 0 n) c.args.sheet.now) all
