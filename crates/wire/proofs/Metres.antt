-- Every word is one distance and every distance one word: 8000h is no number of metres, and no other word is missing.
use Rattle.std.proofs.Common.{◌≡◌, ℕ, ◌-◌, ◌<◌, ◌≤◌, eqb, ltb, sym, refl, arith, ltb-false, ltb-true, le-ltb, lt-ltb, ne_eqb, eqb-true}
use borrow.Author.Tests.{eqb-false}
use Rattle.kit.proofs.Cases.{on}
use Rattle.wire.specs.Distances.{no_value, distance_of, distance_word, InRange}
use Rattle.wire.specs.declared.distances.Distance.{Distance}
use Rattle.wire.specs.declared.distances.Distance.TheVariants.{Missing, Metres, Below}

-- K-06: what a word of 16 bits says is in range, and says that word
pub word-said : (word : ℕ) → word < 0x10000 → InRange (distance_of word) × (distance_word (distance_of word) ≡ word)
unfolding distance_of
word-said word p =
    on (eqb word no_value)
    (λ e. rw e (tt, sym (eqb-true word no_value e)))
    (λ e.
    on (ltb word no_value)
    (λ f. rw (e, f) (omega (arith, ltb-true word no_value f), refl))
    (λ f.
    let above : no_value ≤ word = ltb-false word no_value f in
    let other : word ≡ no_value → ⊥ = eqb-false word no_value e in
    rw (e, f) ((omega arith, omega arith), omega arith)))

-- and each distance in range is said by its word
pub distance_said : (d : Distance) → InRange d → distance_of (distance_word d) ≡ d
unfolding distance_of
distance_said Missing r = refl
distance_said (Metres m) r = rw (ne_eqb m no_value (λ e. omega arith), lt-ltb m no_value (omega arith)) refl
distance_said (Below m) (a, b) =
    let same : 0x10000 - (0x10000 - m) ≡ m = omega arith in
    rw (ne_eqb (0x10000 - m) no_value (λ e. omega arith), le-ltb (0x10000 - m) no_value (omega arith)) (λ i. Below (same i))
