-- Facts of heard sequences: what a telegram more changes, and that the tables heard whole stand newest first.
use Prim.Native.Nat.{ℕ, ◌+◌, ◌-◌, ◌<◌, ◌≤◌}
use mathlib.Core.Path.{◌≡◌, refl, sym, ap, ◌∙◌, subst}
use mathlib.Core.Bool.{Bool, true, false, not, ◌&&◌, ◌||◌}
use mathlib.Core.List.{List, [], ◌∷◌}
use lib.Dec.{eqb, ltb}
use native.Mathlib.Omega.{arith}
use borrow.Author.Tests.{eqb-true, eqb-false, eq-eqb, ne_eqb, ltb-true, ltb-false}
use Rattle.kit.specs.Loops.{how_many}
use Rattle.kit.proofs.Cases.{on, clash, and_both}
use Rattle.kit.proofs.Loops.{count-all, all-counted, count_same}
use Rattle.telegram.specs.Tables.{packets, first_packet}
use Rattle.claims.specs.Hearings.{Item, sent, spoilt, was_heard, heard_whole, wholes, first_or, NoneAfter}

module _ {Message : Type 0} where
  -- ---- what was heard

  pub heard-more : (item : Item Message) (r : List (Item Message)) (n p : ℕ) → was_heard r n p ≡ true → was_heard (item ∷ r) n p ≡ true
  unfolding was_heard
  heard-more (sent m q) r n p h = on (eqb n m && eqb p q) (λ e. rw e refl) (λ e. rw (e, h) refl)
  heard-more (spoilt message) r n p h = h

  pub heard-here : (n p : ℕ) (r : List (Item Message)) (q : ℕ) → was_heard (sent n p ∷ r) n q ≡ (eqb q p || was_heard r n q)
  unfolding was_heard
  heard-here n p r q = rw (eq-eqb n n refl)

  pub heard-other : (m p : ℕ) (r : List (Item Message)) (n q : ℕ) → (n ≡ m → ⊥) → was_heard (sent m p ∷ r) n q ≡ was_heard r n q
  unfolding was_heard
  heard-other m p r n q apart = rw (ne_eqb n m apart)

  pub heard-spoilt : (message : Message) (r : List (Item Message)) (n q : ℕ) → was_heard (spoilt message ∷ r) n q ≡ was_heard r n q
  unfolding was_heard
  heard-spoilt message r n q = refl

  pub heard-above : (n m : ℕ) (r : List (Item Message)) (q : ℕ) → NoneAfter m r → m < n → was_heard r n q ≡ false
  unfolding was_heard
  heard-above n m [] q b h = refl
  heard-above n m (sent k p ∷ r) q (a, b) h = rw (ne_eqb n k (λ e. omega arith), heard-above n m r q b h)
  heard-above n m (spoilt message ∷ r) q b h = heard-above n m r q b h

  -- ---- heard whole

  pub whole-heard : (r : List (Item Message)) (n : ℕ) → heard_whole r n ≡ true → (k : ℕ) → k < packets → was_heard r n (first_packet + k) ≡ true
  unfolding heard_whole
  whole-heard r n w = all-counted (λ k. was_heard r n (first_packet + k)) packets (eqb-true _ _ w)

  pub packet-heard : (r : List (Item Message)) (n p : ℕ) → heard_whole r n ≡ true → 3 ≤ p → p ≤ 7 → was_heard r n p ≡ true
  packet-heard r n p w low high =
      let same : first_packet + (p - first_packet) ≡ p = omega arith in
      subst (λ q. was_heard r n q ≡ true) same (whole-heard r n w (p - first_packet) (omega arith))

  heard_whole_lem : (r : List (Item Message)) (n : ℕ) → ((k : ℕ) → k < packets → was_heard r n (first_packet + k) ≡ true) → heard_whole r n ≡ true
  unfolding heard_whole
  heard_whole_lem r n each = eq-eqb _ _ (count-all (λ k. was_heard r n (first_packet + k)) packets each)

  -- by the packets of a step that were heard, where these are known
  pub whole-known : (r : List (Item Message)) (n : ℕ) (packet : ℕ → Bool) → ((q : ℕ) → was_heard r n q ≡ packet q)
      → heard_whole r n ≡ eqb (how_many (λ k. packet (first_packet + k)) packets) packets
  unfolding heard_whole
  whole-known r n packet known =
      ap (λ c. eqb c packets) (count_same (λ k. was_heard r n (first_packet + k)) (λ k. packet (first_packet + k)) packets (λ k small. known (first_packet + k)))

  pub whole_same : (r s : List (Item Message)) (n : ℕ) → ((q : ℕ) → was_heard r n q ≡ was_heard s n q) → heard_whole r n ≡ heard_whole s n
  unfolding heard_whole
  whole_same r s n same = whole-known r n (was_heard s n) same

  pub whole-more : (item : Item Message) (r : List (Item Message)) (n : ℕ) → heard_whole r n ≡ true → heard_whole (item ∷ r) n ≡ true
  whole-more item r n w = heard_whole_lem (item ∷ r) n (λ k p. heard-more item r n (first_packet + k) (whole-heard r n w k p))

  pub part-before : (item : Item Message) (r : List (Item Message)) (n : ℕ) → heard_whole (item ∷ r) n ≡ false → heard_whole r n ≡ false
  part-before item r n u = on (heard_whole r n) (λ w. absurd (clash (whole-more item r n w) u)) (λ w. w)

  -- a telegram makes no other table whole than its own
  pub whole-other : (m p : ℕ) (r : List (Item Message)) (n : ℕ) → (n ≡ m → ⊥) → heard_whole (sent m p ∷ r) n ≡ true → heard_whole r n ≡ true
  whole-other m p r n apart w = sym (whole_same (sent m p ∷ r) r n (λ q. heard-other m p r n q apart)) ∙ w

  pub whole-old : (m p : ℕ) (r : List (Item Message)) (n : ℕ) → heard_whole r m ≡ true → heard_whole (sent m p ∷ r) n ≡ true → heard_whole r n ≡ true
  whole-old m p r n old w =
      on (eqb n m) (λ e. subst (λ k. heard_whole r k ≡ true) (sym (eqb-true n m e)) old) (λ e. whole-other m p r n (eqb-false n m e) w)

  pub whole-spoilt : (message : Message) (r : List (Item Message)) (n : ℕ) → heard_whole (spoilt message ∷ r) n ≡ heard_whole r n
  whole-spoilt message r n = whole_same (spoilt message ∷ r) r n (λ q. heard-spoilt message r n q)

  -- two steps, one heard whole and the other not
  pub whole_apart : (r : List (Item Message)) (m n : ℕ) → heard_whole r m ≡ true → heard_whole r n ≡ false → m ≡ n → ⊥
  whole_apart r m n w u e = clash w (subst (λ k. heard_whole r k ≡ false) (sym e) u)

  pub whole_below : (n m : ℕ) (r : List (Item Message)) → NoneAfter m r → heard_whole r n ≡ true → n ≤ m
  whole_below n m r b w =
      on (ltb m n)
      (λ e. absurd (clash (whole-heard r n w 0 (omega arith)) (heard-above n m r first_packet b (ltb-true m n e))))
      (λ e. ltb-false m n e)

  -- ---- the tables heard whole

  pub wholes-old : (n p : ℕ) (r : List (Item Message)) → heard_whole r n ≡ true → wholes (sent n p ∷ r) ≡ wholes r
  unfolding wholes
  wholes-old n p r w = rw (w, whole-more (sent n p) r n w)

  pub wholes-part : (n p : ℕ) (r : List (Item Message)) → heard_whole (sent n p ∷ r) n ≡ false → wholes (sent n p ∷ r) ≡ wholes r
  unfolding wholes
  wholes-part n p r u = rw u

  pub wholes-new : (n p : ℕ) (r : List (Item Message)) → heard_whole (sent n p ∷ r) n ≡ true → heard_whole r n ≡ false → wholes (sent n p ∷ r) ≡ n ∷ wholes r
  unfolding wholes
  wholes-new n p r w u = rw (w, u)

  pub wholes-spoilt : (message : Message) (r : List (Item Message)) → wholes (spoilt message ∷ r) ≡ wholes r
  unfolding wholes
  wholes-spoilt message r = refl

  -- a step among them was heard whole
  pub newest_whole : (r : List (Item Message)) (m : ℕ) (ms : List ℕ) → wholes r ≡ m ∷ ms → heard_whole r m ≡ true
  unfolding wholes
  newest_whole [] m ms h = let z : ◌≡◌ {A = ℕ} 0 1 = cc in absurd (omega arith)
  newest_whole (sent n p ∷ r) m ms h =
      on (heard_whole (sent n p ∷ r) n && not (heard_whole r n))
      (λ e. let q : n ≡ m = cc (rw e at h) in subst (λ k. heard_whole (sent n p ∷ r) k ≡ true) q (and_both _ _ e).0)
      (λ e. whole-more (sent n p) r m (newest_whole r m ms (rw e at h)))
  newest_whole (spoilt message ∷ r) m ms h = whole-more (spoilt message) r m (newest_whole r m ms h)

  -- the first telegram heard is of no later step
  pub first_below : (r : List (Item Message)) (m n : ℕ) → NoneAfter m r → n ≤ m → first_or n r ≤ m
  first_below [] m n b k = k
  first_below (sent l p ∷ r) m n (a, b) k = first_below r m l b a
  first_below (spoilt message ∷ r) m n b k = first_below r m n b k

-- of nothing heard no table is whole
pub nothing-whole : (Message : Type 0) (n : ℕ) → heard_whole {Message = Message} [] n ≡ false
unfolding was_heard
nothing-whole Message n = on (heard_whole {Message = Message} [] n) (λ w. absurd (clash (whole-heard [] n w 0 (omega arith)) refl)) (λ w. w)
