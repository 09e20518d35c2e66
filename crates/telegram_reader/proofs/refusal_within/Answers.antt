-- `refusal_within`: the packet by the test that led there; then the loop leaves at the first place whose ladder answers.
use Rattle.std.proofs.Common.{◌≡◌, sym, ◌∙◌, arith, rules, eq-eqb, lt-ltb, le-ltb, length}
use Rattle.kit.specs.Ladder.{ladder}
use Rattle.kit.proofs.Ladder.{ladder-each}
use Rattle.kit.proofs.Loops.{first-go, first_hit, scan-end}
use Rattle.wire.proofs.Results.{exit_number, number_nonzero}
use Rattle.telegram.specs.Telegrams.{place_rows, read_rows}
use Rattle.telegram.proofs.Rows.{place-numbered}
use Rattle.telegram_reader.proofs.refusal_within.Invariants.{judged}
use Rattle.telegram_reader.proofs.refusal_within.Goals as goal

pub returns-then-packet_in-lt-FIRST_PACKET : goal.returns-then-packet_in-lt-FIRST_PACKET
unfolding ladder read_rows
returns-then-packet_in-lt-FIRST_PACKET c = let n : length c.args.telegram.now ≡ 26 = search rules in simp (eq-eqb _ _ n, sym c.packet_in.ensures.0, lt-ltb _ _ c.if-packet_in-lt-FIRST_PACKET.true)

pub loop-k-init : goal.loop-k-init
unfolding ladder read_rows
loop-k-init c =
    let b = c.args.telegram.now in
    let n : length b ≡ 26 = search rules in (
      omega arith,
      simp (eq-eqb _ _ n, sym c.packet_in.ensures.0, le-ltb _ _ c.if-packet_in-lt-FIRST_PACKET.false) (ladder-each (place_rows b) (place-numbered b) 0 4),
    )

pub returns-in_err-refusal : goal.returns-in_err-refusal
returns-in_err-refusal c =
    let e = c.in_err-refusal.ensures in
    exit_number c.from_residual.result _ c.from_residual.ensures.1
    ∙ (e ∙ sym (c.loop-k.invariant.1 ∙ first_hit (judged c.args.telegram.now) 4 c.loop-k.k (search rules) (number_nonzero _ _ e)))

pub loop-k-preserved : goal.loop-k-preserved
loop-k-preserved c = (
  search rules,
  c.loop-k.invariant.1 ∙ first-go (judged c.args.telegram.now) 4 c.loop-k.k (search rules) (sym c.in_ok-refusal.ensures),
)

pub returns : goal.returns
returns c = let l = c.loop-k in sym (l.invariant.1 ∙ scan-end _ _ _ 4 l.k (search rules))
