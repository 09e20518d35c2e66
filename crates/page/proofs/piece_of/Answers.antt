-- `piece_of`: from the last byte on, what is packed is all that stands from the place on.
use Prim.Native.Nat.{◌-◌, ◌<◌}
use mathlib.Core.Path.{sym, ap, subst}
use native.Mathlib.Omega.{arith}
use lib.ListN.{get_or}
use Rattle.page.specs.Packed.{Small, none_small, number_made}
use Rattle.page.proofs.Packed.{packed_none, packed_more, small-more, packed_fits}
use Rattle.page.proofs.piece_of.Goals as goal

pub loop-i-init : goal.loop-i-init
unfolding number_made
loop-i-init c =
    let words = c.args.words.now in
    let nothing = packed_none words c.args.from c.min-i.result c.min-i.ensures in
    (omega (arith, c.min-i.ensures), sym (ap number_made nothing), subst Small (sym nothing) none_small)

pub overflow_mul-piece : goal.overflow_mul-piece
overflow_mul-piece c =
    let l = c.loop-i in
    omega (arith, l.invariant.1, packed_fits c.args.words.now c.args.from l.i (omega arith) l.invariant.0 l.invariant.2)

pub overflow_add-piece : goal.overflow_add-piece
overflow_add-piece c =
    let l = c.loop-i in
    omega (arith, l.invariant.1, c.type_inv.words (l.i - 1), packed_fits c.args.words.now c.args.from l.i (omega arith) l.invariant.0 l.invariant.2)

pub loop-i-preserved : goal.loop-i-preserved
loop-i-preserved c =
    let words = c.args.words.now in
    let l = c.loop-i in
    let above : c.args.from < l.i = omega arith in
    let byte : get_or words (l.i - 1) 0 < 256 = omega (arith, c.type_inv.words (l.i - 1)) in (
      omega (arith, l.invariant.0),
      packed_more words c.args.from l.i above l.invariant.0 l.invariant.1,
      small-more words c.args.from l.i above l.invariant.0 l.invariant.2 byte,
    )
