-- `Calls::next`: the call that is given has the size that is known, and what stands behind it is left.
use Rattle.std.proofs.Common.{ℕ, ap, refl, ◌∙◌, arith, ◌-◌, take, drop}
use borrow.Author.Rules.{part_to_end}
use Rattle.frames.specs.Frames.{whole_size, bare_in}
use Rattle.frames.proofs.Splitting.{size_some}
use Rattle.frames.proofs.calls.CallsIterator.next.Goals as goal

pub returns-clause-steps : goal.returns-clause-steps
returns-clause-steps c =
    let calls = c.args.self.now in
    let known = size_some (whole_size (bare_in calls.bare) calls.rest.now) c.in-Some.ensures in
    record {
      whole = omega arith;
      announced = c.word_at.ensures;
      own = ap (λ (size : ℕ). take (size - 2) (drop 2 calls.rest.now)) known.0;
      left = part_to_end calls.rest.now c.in-Some.size ∙ ap (λ (size : ℕ). drop size calls.rest.now) known.0;
      bare = refl;
    }
