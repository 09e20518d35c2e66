-- One answer of the iterator over calls: what it gives reads the same, and so does what it leaves. Where a slice lies is no answer: two outcomes
-- may name the same bytes by other references.
use mathlib.Core.Path.{◌≡◌, refl, sym, ap, ap₂, ◌∙◌}
use Prim.Native.Nat.{ℕ, ◌≤◌}
use mathlib.Core.List.{List}
use lib.ListN.{length}
use native.Mathlib.Omega.{arith}
use Rattle.std.specs.Prelude.{Option, None, Some, Result, Ok, Err}
use Rattle.frames.specs.Calls.{next_size, CallGiven, ShortGiven, GivesCall}
use Rattle.frames.specs.Frames.{Framed, bare_in}
use Rattle.frames.specs.declared.calls.WholeCall.{WholeCall}
use Rattle.frames.specs.declared.calls.Calls.{Calls}
use Rattle.frames.specs.declared.calls.Short.{Short}
use Rattle.frames.proofs.Splitting.{size_bounds}

-- a call, that the input is short, or none; and what is left
abbrev pub given_as : Option (Result WholeCall Short) → Option (Option Framed)
given_as None = None
given_as (Some (Err short)) = Some None
given_as (Some (Ok call)) = Some (Some (call.length, call.bytes.now))

abbrev pub left_as : Calls → List ℕ × Option ℕ
left_as calls = (calls.rest.now, calls.bare)

-- a call that is given has bytes, so that the input is not at its end
some_left : {before after : Calls} {call : WholeCall} → CallGiven before call after → 1 ≤ length before.rest.now
some_left {before} given = omega (arith, size_bounds (bare_in before.bare) before.rest.now (next_size before) refl given.whole)

module _ {before after then : Calls} where
  calls-agree : {call other : WholeCall} → CallGiven before call after → CallGiven before other then
      → (given_as (Some (Ok call)) ≡ given_as (Some (Ok other))) × (left_as after ≡ left_as then)
  calls-agree p q =
      let left = p.left ∙ sym q.left in
      let bare = p.bare ∙ sym q.bare in (
        ap₂ (λ (w : ℕ) (b : List ℕ). Some (Some (w, b))) (p.announced ∙ sym q.announced) (p.own ∙ sym q.own),
        ap₂ (λ (l : List ℕ) (b : Option ℕ). (l, b)) left bare,
      )

  short-agree : ShortGiven before after → ShortGiven before then → left_as after ≡ left_as then
  short-agree p q = ap₂ (λ (l : List ℕ) (b : Option ℕ). (l, b)) (p.left ∙ sym q.left) (p.bare ∙ sym q.bare)

pub frames-next : (before after then : Calls) (given other : Option (Result WholeCall Short)) → GivesCall before given after → GivesCall before other then
    → (given_as given ≡ given_as other) × (left_as after ≡ left_as then)
frames-next before after then None None p q = (refl, ap left_as (p.1 ∙ sym q.1))
frames-next before after then None (Some (Err short)) p q = absurd (omega (arith, p.0, q.some))
frames-next before after then None (Some (Ok call)) p q = absurd (omega (arith, p.0, some_left q))
frames-next before after then (Some (Err short)) None p q = absurd (omega (arith, q.0, p.some))
frames-next before after then (Some (Err short)) (Some (Err other)) p q = (refl, short-agree p q)
frames-next before after then (Some (Err short)) (Some (Ok call)) p q = absurd (omega (arith, p.part, q.whole))
frames-next before after then (Some (Ok call)) None p q = absurd (omega (arith, q.0, some_left p))
frames-next before after then (Some (Ok call)) (Some (Err short)) p q = absurd (omega (arith, q.part, p.whole))
frames-next before after then (Some (Ok call)) (Some (Ok other)) p q = calls-agree p q
