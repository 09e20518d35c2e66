-- `leave`: those that were there stand twenty further back, and then each place puts what becomes of it and its entry of this step.
use Prim.Native.Nat.{ℕ, ◌+◌, ◌-◌, ◌<◌, ◌≤◌}
use mathlib.Core.List.{List, map}
use mathlib.Core.Path.{◌≡◌, refl, sym, ◌∙◌, subst}
use lib.ListN.{length}
use lib.Seq.{get_or-set_other, ext_get_or}
use native.Mathlib.Omega.{arith}
use borrow.Author.Rules.{rules}
use lib.Dec.{ltb}
use borrow.Author.Tests.{ltb-true, ltb-false}
use Rattle.kit.proofs.Cases.{on}
use Rattle.kit.proofs.Fill.{filled_none, filled_more, mapped_none, mapped_more, mapped_all}
use Rattle.condition.specs.Slots.{slot_count}
use Rattle.places.specs.Places.{free_place}
use Rattle.places.specs.declared.Place.{Place}
use Rattle.resting.specs.Rests.{none_ended, ended_at}
use Rattle.resting.specs.declared.Ended.{Ended}
use Rattle.leaving.specs.Leaving.{kept_among, ended_among, remains_of}
use Rattle.leaving.specs.declared.Remains.{Remains}
use Rattle.leaving.proofs.Left.{ended-long, ended-now, ended-before}
use Rattle.leaving.proofs.leave.Goals as goal

remained : (list : List ℕ) (n step : ℕ) (places : List Place) (ended : List Ended) {kept : List Place} {next : List Ended}
    → kept ≡ map (kept_among list n) places → next ≡ ended_among list n step places ended
    → ◌≡◌ {A = Remains} (record { places = kept; ended = next }) (remains_of list n step places ended)
unfolding remains_of
remained list n step places ended e f = rw (e, f) refl

pub loop-i-init : goal.loop-i-init
loop-i-init c =
    let a = c.args in
    let twenty : length a.places ≡ slot_count = search rules in
    record {
      kept = mapped_none (kept_among a.list.now a.n) a.places refl;
      ended = filled_none (c.copy_within.ensures.len ∙ sym (ended-long a.list.now a.n a.step a.places a.ended twenty));
      behind = λ j p q.
          let here : slot_count + (j - slot_count) ≡ j = omega arith in
          let all : length a.ended ≡ 160 = search rules in
          c.copy_within.ensures.by_index.0 j none_ended (omega arith) (omega arith)
          ∙ subst (λ k. ended_at a.ended (0 + (j - slot_count)) ≡ ended_at (ended_among a.list.now a.n a.step a.places a.ended) k) here
          (subst (λ k. ended_at a.ended k ≡ ended_at (ended_among a.list.now a.n a.step a.places a.ended) (slot_count + (j - slot_count))) (omega arith) (sym (ended-before a.list.now a.n a.step a.places a.ended twenty (j - slot_count) (omega arith))));
    }

pub loop-i-preserved : goal.loop-i-preserved
loop-i-preserved c =
    let fate = c.fate_of-fate.ensures in
    let l = c.loop-i in
    let a = c.args in
    let twenty : length a.places ≡ slot_count = search rules in
    let all : length a.ended ≡ 160 = search rules in
    let p : l.i < slot_count = search rules in
    record {
      kept = mapped_more (kept_among a.list.now a.n) a.places free_place (omega (arith, twenty)) l.invariant.kept fate.0;
      ended =
          filled_more (omega (arith, ended-long a.list.now a.n a.step a.places a.ended twenty)) l.invariant.ended
          (fate.1 ∙ sym (ended-now a.list.now a.n a.step a.places a.ended twenty l.i p (omega (arith, p))));
      behind = λ j q r. get_or-set_other _ l.i j _ none_ended (omega (arith, p, q)) ∙ l.invariant.behind j q r;
    }

pub returns : goal.returns
returns c =
    let l = c.loop-i in
    let a = c.args in
    let twenty : length a.places ≡ slot_count = search rules in
    let all : length a.ended ≡ 160 = search rules in
    let end : slot_count ≤ l.i = search rules in
    let long : length l.next ≡ length (ended_among a.list.now a.n a.step a.places a.ended) = l.invariant.ended.long in
    remained a.list.now a.n a.step a.places a.ended
    (mapped_all (kept_among a.list.now a.n) a.places (omega (arith, twenty, end)) l.invariant.kept)
    (ext_get_or none_ended l.next (ended_among a.list.now a.n a.step a.places a.ended) long (λ i p.
    on (ltb i slot_count)
    (λ e. l.invariant.ended.same i (omega (arith, ltb-true i slot_count e, end)))
    (λ e. l.invariant.behind i (ltb-false i slot_count e) (omega (arith, long, ended-long a.list.now a.n a.step a.places a.ended twenty, all)))))
