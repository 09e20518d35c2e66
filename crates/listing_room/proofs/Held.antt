-- How many packets of a set are held: a telegram brings at most one more, of a set that begins none is held, and of a whole one five are.
use Prim.Native.Nat.{ℕ, zero, suc, ◌+◌, ◌-◌, ◌≤◌}
use mathlib.Core.Path.{◌≡◌, refl}
use mathlib.Core.Bool.{Bool, true, false}
use lib.Dec.{eqb}
use lib.ListN.{get_or}
use lib.Seq.{get_or-set_other}
use native.Mathlib.Omega.{arith}
use borrow.Author.Tests.{eqb-true, eqb-false}
use Rattle.kit.specs.Loops.{how_many, fold}
use Rattle.kit.proofs.Cases.{on}
use Rattle.kit.proofs.Loops.{count_same}
use Rattle.telegram.specs.Tables.{packets, first_packet}
use Rattle.telegram.specs.declared.Telegram.{Telegram}
use Rattle.hand.specs.Sets.{begun, set_for, joined, is_whole}
use Rattle.hand.specs.declared.Hand.{Hand}

-- L-04: how many are held
abbrev pub held_count : Hand → ℕ
held_count hand = how_many (λ k. get_or hand.held k false) packets

-- tests that agree but for one place count at most one more
one_more : (f g : ℕ → Bool) (at : ℕ) → ((k : ℕ) → (k ≡ at → ⊥) → g k ≡ f k) → (n : ℕ) → how_many g n ≤ how_many f n + 1
unfolding how_many fold
one_more f g at same zero = omega arith
one_more f g at same (suc n) =
    on (eqb n at)
    (λ here.
    let before = count_same g f n (λ k p. same k (omega (arith, eqb-true n at here))) in
    on (g n)
    (λ a. on (f n) (λ b. rw (a, b) (omega (arith, before))) (λ b. rw (a, b) (omega (arith, before))))
    (λ a. on (f n) (λ b. rw (a, b) (omega (arith, before))) (λ b. rw (a, b) (omega (arith, before)))))
    (λ there.
    let before = one_more f g at same n in
    let e = same n (eqb-false n at there) in
    on (f n) (λ b. rw (e, b) (omega (arith, before))) (λ b. rw (e, b) (omega (arith, before))))

-- L-03: a telegram that joins a set
pub joined-count : (hand : Hand) (t : Telegram) → held_count (joined hand t) ≤ held_count hand + 1
unfolding joined
joined-count hand t =
    one_more (λ k. get_or hand.held k false) (λ k. get_or (joined hand t).held k false) (t.packet - first_packet)
    (λ k other. get_or-set_other hand.held (t.packet - first_packet) k true false other) packets

-- L-03: a set that begins
pub begun-count : (step : ℕ) → held_count (begun step) ≡ 0
unfolding begun how_many fold
begun-count step = refl

-- L-03: the set that a telegram goes into has no more than the one in hand
pub set-count : (hand : Hand) (step : ℕ) → held_count (set_for hand step) ≤ held_count hand
unfolding set_for
set-count hand step = on (eqb hand.step step) (λ e. rw e (omega arith)) (λ e. rw e (omega (arith, begun-count step)))

-- L-04: a whole set
pub whole_count_lem : (hand : Hand) → is_whole hand ≡ true → held_count hand ≡ packets
unfolding is_whole
whole_count_lem hand e = eqb-true (held_count hand) packets e
