-- `Tally::take`: what is counted so far and what is still to be heard make the whole, turn by turn.
use mathlib.Core.Path.{◌≡◌, sym, ap, ap₂, ◌∙◌}
use mathlib.Core.List.{◌++◌}
use Prim.Native.Nat.{◌-◌}
use lib.ListN.{take-append-drop}
use native.Mathlib.Omega.{arith}
use borrow.Author.Rules.{rules}
use Rattle.listener.specs.Lent.{listener_in}
use Rattle.listener.proofs.Back.{Sized, means-back}
use Rattle.lister.proofs.Kept.{part_filled}
use Rattle.summary.specs.Tallies.{counted}
use Rattle.summary.proofs.Filling.{to_count, room-left, piece-short, first-counted, count_turn, count-end}
use Rattle.summary.proofs.Tally.take.Goals as goal

pub overflow_sub-lister : goal.overflow_sub-lister
overflow_sub-lister c = omega (arith, room-left c.requires)

pub slice_bounds-copy_from_slice-count : goal.slice_bounds-copy_from_slice-count
slice_bounds-copy_from_slice-count c = let few = room-left c.requires in omega (arith, few)

pub slice_bounds-first-start : goal.slice_bounds-first-start
slice_bounds-first-start c = let few = room-left c.requires in omega (arith, few)

pub returns-in_default : goal.returns-in_default
returns-in_default c = piece-short c.requires c.args.self c.args.piece.now c.in_default.ensures.cases

pub loop-telegram-init : goal.loop-telegram-init
loop-telegram-init c =
    let lister = c.args.lister in
    let listener = lister.listener in
    let sized : Sized listener =
    record {
      picture = search rules;
      marks = search rules;
      held = search rules;
      set = search rules;
    } in
    let same : listener_in c.memory_of-memory.result ≡ listener = ap listener_in c.memory_of-memory.ensures ∙ means-back listener sized in
    let cut = c.in-Some.ensures.cases in
    let both : c.args.piece.now ≡ c.in-Some.end.now ++ c.in-Some.rest.now = sym (ap₂ (λ a b. a ++ b) cut.1 cut.2 ∙ take-append-drop (26 - lister.kept) c.args.piece.now) in
    let few = room-left c.requires in
    let filled = part_filled (search rules) (omega (arith, cut.3, few)) c.copy_from_slice.ensures.after (sym cut.3) in
    let meant = c.hear_in.ensures.meant in
    let iterator = c.into_iter-telegram-iterator.ensures.into_iter_gives in
    record {
      size = ap (λ i. i.size) iterator ∙ c.chunks_exact-telegram-items.ensures.size;
      goes =
          ap (to_count c.count-tally.result (listener_in c.hear_in.new.memory)) (ap (λ i. i.rest.now) iterator ∙ c.chunks_exact-telegram-items.ensures.rest)
          ∙ first-counted c.requires c.args.self c.in-Some.end.now c.in-Some.rest.now both cut.3 filled same
          (c.count-tally.ensures ∙ ap (λ h. counted c.args.self h.told) meant) (ap (λ h. h.listener) meant);
    }

pub loop-telegram-preserved : goal.loop-telegram-preserved
loop-telegram-preserved c =
    let l = c.loop-telegram in
    let steps = c.in-Some-telegram.ensures.steps in
    let meant = c.hear_in-in-loop-telegram.ensures.meant in
    record {
      size = steps.0 ∙ l.invariant.size;
      goes =
          count_turn l.tally (listener_in l.memory) c.in-Some-telegram.telegram.now c.next.new.self.rest.now steps.1.0 (steps.1.1 ∙ l.invariant.size)
          (c.count-tally-in-loop-telegram.ensures ∙ ap (λ h. counted l.tally h.told) meant) (ap (λ h. h.listener) meant)
          ∙ l.invariant.goes;
    }

pub returns : goal.returns
returns c =
    let l = c.loop-telegram in
    sym (count-end l.tally (listener_in l.memory) l.telegram-iterator.rest.now (omega (arith, c.in-None.ensures.steps.1.0, l.invariant.size))) ∙ l.invariant.goes
