-- `listen`: of the step last taken, a second copy, or one more of the set that it goes into.
use Prim.Native.Nat.{◌≤◌}
use mathlib.Core.Bool.{true, false}
use mathlib.Core.Path.{◌≡◌, refl, sym, ap, ap₂, subst, ◌∙◌}
use lib.ListN.{length}
use Rattle.kit.proofs.Cases.{clash}
use Rattle.telegram.specs.Telegrams.{packet_in, step_in}
use Rattle.telegram.proofs.Rows.{read_length}
use Rattle.memory.specs.Memory.{memory_size}
use Rattle.hand.specs.Lent.{hand_in}
use Rattle.hand.specs.Sets.{set_for, is_held}
use Rattle.last_step.specs.LastSteps.{is_last}
use Rattle.last_step.specs.Lent.{last_in}
use Rattle.listener.specs.Answers.{as_repeat, told_of}
use Rattle.listener.specs.Lent.{memory_for}
use Rattle.listener.proofs.Lent.{Listened, left-last, left-found, left-joined}
use borrow.Author.Rules.{rules}
use Rattle.listener.proofs.listen.Goals as goal
use Rattle.listener.proofs.listen.Goals.{then-is_last, else-is_last}

pub returns-then-find_or_begin : goal.returns-then-find_or_begin
returns-then-find_or_begin c =
    let memory = c.args.memory.now in
    let telegram = c.args.telegram.now in
    let whole : length telegram ≡ 26 = read_length telegram 0 (sym c.requires) refl in
    let small : packet_in telegram ≤ 7 = subst (λ n. n ≤ 7) c.packet_in-packet.ensures.0 c.packet_in-packet.ensures.1 in
    let long : length memory ≡ memory_size = search rules in
    let last : is_last (last_in memory) (step_in telegram) ≡ c.is_last.result = sym (ap₂ is_last c.last_in.ensures c.step_in-step.ensures) ∙ sym c.is_last.ensures in
    elim c.if-is_last.branch [
      | then-is_last w ↦ subst (Listened memory telegram whole small as_repeat) (sym w.memory-is) (left-last memory telegram whole small (last ∙ w.if-is_last.true))
      | else-is_last w ↦
          let held : is_held (set_for (hand_in memory) (step_in telegram)) (packet_in telegram) ≡ true =
          sym (ap₂ (λ s p. is_held (set_for (hand_in memory) s) p) c.step_in-step.ensures c.packet_in-packet.ensures.0) ∙ (sym w.find_or_begin.ensures.0 ∙ (sym w.value-is ∙ c.if-find_or_begin.true)) in
          left-found memory telegram whole small long (last ∙ w.if-is_last.false) _ (w.memory-is ∙ (w.find_or_begin.ensures.1 ∙ ap (memory_for memory) c.step_in-step.ensures)) held
    ]

pub returns-else-find_or_begin : goal.returns-else-find_or_begin
returns-else-find_or_begin c =
    let memory = c.args.memory.now in
    let telegram = c.args.telegram.now in
    let whole : length telegram ≡ 26 = read_length telegram 0 (sym c.requires) refl in
    let small : packet_in telegram ≤ 7 = subst (λ n. n ≤ 7) c.packet_in-packet.ensures.0 c.packet_in-packet.ensures.1 in
    let long : length memory ≡ memory_size = search rules in
    let last : is_last (last_in memory) (step_in telegram) ≡ c.is_last.result = sym (ap₂ is_last c.last_in.ensures c.step_in-step.ensures) ∙ sym c.is_last.ensures in
    elim c.if-is_last.branch [
      | then-is_last w ↦ absurd (clash (w.value-is ∙ w.if-is_last.true) c.if-find_or_begin.false)
      | else-is_last w ↦
          let free : is_held (set_for (hand_in memory) (step_in telegram)) (packet_in telegram) ≡ false =
          sym (ap₂ (λ s p. is_held (set_for (hand_in memory) s) p) c.step_in-step.ensures c.packet_in-packet.ensures.0) ∙ (sym w.find_or_begin.ensures.0 ∙ (sym w.value-is ∙ c.if-find_or_begin.false)) in
          left-joined memory telegram whole small long (last ∙ w.if-is_last.false) _ (w.memory-is ∙ (w.find_or_begin.ensures.1 ∙ ap (memory_for memory) c.step_in-step.ensures)) free
          (record { told = told_of c.add.result; memory = c.add.new.memory }) c.add.ensures
    ]
