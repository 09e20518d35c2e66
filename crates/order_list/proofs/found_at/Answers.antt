-- `found_at`: the lowest bit that is set tells the first that is the number; none is set where there is none.
use Rattle.std.proofs.Common.{◌≡◌, ℕ, ◌*◌, ◌^◌, ◌%◌, ◌<◌, ◌≤◌, Bool, true, false, List, get_or, eqb, ltb, bit_or, Some, None, refl, sym, ap, ◌∙◌, subst, arith, rules}
use Rattle.std.specs.Int.{bit_at, trailing_zeros}
use Rattle.std.proofs.lemmas.Nat.Bits.{bit_at_set_same, bit_at_set_other, bit_at-trailing_zeros, bit_at-zero}
use Rattle.std.specs.Int.Bits.{or_zero_r}
use mir.Syntax.{w32}
use mir.Val.{bool_byte}
use borrow.Author.Tests.{eqb-true, eqb-false, ltb-true, ltb-false}
use Rattle.kit.proofs.Cases.{on}
use Rattle.order_list.specs.Lists.{found_at}
use Rattle.order_list.proofs.Searched.{searched}
use Rattle.order_list.proofs.found_at.Goals as goal

-- one bit more, or none
module _ (bits i : ℕ) (p : i < 20) where
  left : bit_or bits (0 * 2 ^ i % 4294967296) ≡ bits
  left = let none : 0 * 2 ^ i % 4294967296 ≡ 0 = omega arith in ap (bit_or bits) none ∙ or_zero_r bits

  set_same : (is : Bool) → bit_at bits i ≡ 0 → bit_at (bit_or bits (bool_byte is * 2 ^ i % 4294967296)) i ≡ bool_byte is
  set_same true e = bit_at_set_same w32 bits i (omega arith)
  set_same false e = ap (λ n. bit_at n i) left ∙ e

  set_other : (is : Bool) (k : ℕ) → (k ≡ i → ⊥) → bit_at (bit_or bits (bool_byte is * 2 ^ i % 4294967296)) k ≡ bit_at bits k
  set_other true k e = bit_at_set_other w32 bits i (omega arith) k e
  set_other false k e = ap (λ n. bit_at n k) left

-- a bit that is set, or not, tells
bit_told : (is : Bool) (n : ℕ) → n ≡ 1 → n ≡ bool_byte is → is ≡ true
bit_told true n e f = refl
bit_told false n e f = absurd (omega arith)

no_bit : (is : Bool) (n : ℕ) → n ≡ 0 → n ≡ bool_byte is → is ≡ false
no_bit true n e f = absurd (omega arith)
no_bit false n e f = refl

pub loop-i-preserved : goal.loop-i-preserved
loop-i-preserved c =
    let i = c.loop-i.i in
    let bits = c.loop-i.bits in
    let numbers : List ℕ = c.args.numbers.now in
    let is : ℕ → Bool = λ k. eqb (get_or numbers k 0) c.args.number in
    let p : i < 20 = c.loop-i-test.true in
    let inv = c.loop-i.invariant in
    let same : bit_at (bit_or bits (c.from.result * 2 ^ i % 4294967296)) i ≡ bool_byte (is i) = rw c.from.ensures (set_same bits i p (is i) (inv.blank i (omega arith))) in
    let other : (k : ℕ) → (k ≡ i → ⊥) → bit_at (bit_or bits (c.from.result * 2 ^ i % 4294967296)) k ≡ bit_at bits k = λ k e. rw c.from.ensures (set_other bits i p (is i) k e) in
    record {
      told = λ k q.
          on (eqb k i)
          (λ here. subst (λ j. bit_at (bit_or bits (c.from.result * 2 ^ i % 4294967296)) j ≡ bool_byte (is j)) (sym (eqb-true k i here)) same)
          (λ there. other k (eqb-false k i there) ∙ inv.told k (omega (arith, eqb-false k i there)));
      blank = λ k q. other k (λ e. omega arith) ∙ inv.blank k (omega arith);
    }

pub returns-then-bits-eq0 : goal.returns-then-bits-eq0
unfolding found_at
returns-then-bits-eq0 c =
    let numbers : List ℕ = c.args.numbers.now in
    let is : ℕ → Bool = λ k. eqb (get_or numbers k 0) c.args.number in
    searched is 20 None
    (λ k p q.
    no_bit (is k) _ (ap (λ n. bit_at n k) c.if-bits-eq0.true ∙ bit_at-zero k) (c.loop-i.invariant.told k (omega (arith, c.loop-i-test.false))))

pub returns-else-bits-eq0 : goal.returns-else-bits-eq0
unfolding found_at
returns-else-bits-eq0 c =
    let bits = c.loop-i.bits in
    let inv = c.loop-i.invariant in
    let numbers : List ℕ = c.args.numbers.now in
    let is : ℕ → Bool = λ k. eqb (get_or numbers k 0) c.args.number in
    let some : 0 < bits = omega (arith, c.if-bits-eq0.false) in
    let small : bits < 2 ^ 32 = search rules in
    let lowest = bit_at-trailing_zeros w32 bits some small in
    let at : ℕ = trailing_zeros w32 bits in
    on (ltb at 20)
    (λ e.
    let p : at < 20 = ltb-true at 20 e in
    searched is 20 (Some at) (
      omega arith,
      p,
      bit_told (is at) _ lowest.1 (inv.told at (omega (arith, c.loop-i-test.false))),
      λ k a b. no_bit (is k) _ (lowest.2 k b) (inv.told k (omega (arith, c.loop-i-test.false))),
    ))
    (λ e.
    let p : 20 ≤ at = ltb-false at 20 e in
    absurd (omega (arith, lowest.1, inv.blank at (omega (arith, c.loop-i.auto.i-end)))))
