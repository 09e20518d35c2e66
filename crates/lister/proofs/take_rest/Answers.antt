-- `take_rest`: after each turn the state, and what is put, go on from what is left as from the start.
use mathlib.Core.Path.{◌≡◌, refl, ap, sym, ◌∙◌}
use Prim.Native.Nat.{◌<◌}
use lib.ListN.{length}
use native.Mathlib.Omega.{arith}
use borrow.Author.Rules.{rules}
use Rattle.listener.specs.Lent.{listener_in}
use Rattle.listener.proofs.Back.{Sized, means-back}
use Rattle.lister.proofs.Kept.{state}
use Rattle.lister.proofs.Phases.{left-all, left-next, left-behind, left-fits, left_as}
use Rattle.lister.proofs.take_rest.Goals as goal

pub loop-telegram-init : goal.loop-telegram-init
loop-telegram-init c =
    let lister = c.args.lister in
    let listener = lister.listener in
    let sized : Sized listener =
    record {
      picture = search rules;
      marks = search rules;
      held = search rules;
      set = search rules;
    } in
    let same : listener_in c.memory_of-memory.result ≡ listener = ap listener_in c.memory_of-memory.ensures ∙ means-back listener sized in
    let iterator = c.into_iter-telegram-iterator.ensures.into_iter_gives in
    let cut = c.chunks_exact-telegrams.ensures in
    record {
      size = ap (λ i. i.size) iterator ∙ cut.size;
      left =
          left_as (left-all c.requires.0 c.requires.1 (ap (λ l. state l lister.tables lister.tail lister.kept) same)) refl
          (ap (λ i. i.rest.now) iterator ∙ cut.rest);
    }

pub loop-telegram-preserved : goal.loop-telegram-preserved
loop-telegram-preserved c =
    let l = c.loop-telegram.invariant in
    let steps = c.in-Some.ensures.steps in
    record {
      size = steps.0 ∙ l.size;
      left = left-next c.in-Some.telegram.now c.next.new.self.rest.now l.left steps.1.0 (steps.1.1 ∙ l.size) c.hear_next-tables.ensures.0 c.hear_next-tables.ensures.1;
    }

pub bite-requires : goal.bite-requires
bite-requires c =
    let l = c.loop-telegram.invariant in
    let few : length c.loop-telegram.telegram-iterator.rest.now < 26 = omega (arith, c.in-None.ensures.steps.1.0, l.size) in
    let end = c.remainder-left.ensures ∙ (c.chunks_exact-telegrams.ensures.remainder ∙ sym (left-behind l.left few)) in
    let now = left_as l.left (ap (λ x. state x c.loop-telegram.tables c.args.lister.tail c.args.lister.kept) c.listener_in.ensures) end in
    (now.made, left-fits now (omega (arith, ap length end, few)))
