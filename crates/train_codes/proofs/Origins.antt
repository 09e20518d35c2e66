-- Each state comes from exactly its code (M-2c, M-2e).
use Prim.Native.Nat.{ℕ, zero, suc, ◌<◌, ◌≤◌}
use mathlib.Core.Bool.{Bool, true, false}
use mathlib.Core.Logic.{◌↔◌}
use mathlib.Core.Path.{◌≡◌, refl, sym, ap, subst}
use lib.Dec.{ltb}
use native.Mathlib.Omega.{arith}
use borrow.Author.Tests.{ne_eqb, ltb-true, ltb-false}
use Rattle.kit.specs.Ladder.{ladder}
use Rattle.kit.proofs.Cases.{on}
use Rattle.train_codes.proofs.Bits.{bits_same}
use Rattle.train_codes.specs.Codes.{cab_of, brake_of, isolation_of}
use Rattle.train_codes.specs.Origins.{CabCode, BrakeCode, IsolationCode, TractionCode}
use Rattle.train_codes.specs.declared.Brake.{Brake}
use Rattle.train_codes.specs.declared.Brake.TheVariants as Brake'
use Rattle.train_codes.specs.declared.Cab.{Cab}
use Rattle.train_codes.specs.declared.Cab.TheVariants as Cab'
use Rattle.train_codes.specs.declared.Isolation.{Isolation}
use Rattle.train_codes.specs.declared.Isolation.TheVariants as Isolation'
use Rattle.train_codes.specs.declared.Traction.{Traction}
use Rattle.train_codes.specs.declared.Traction.TheVariants as Traction'

-- a code that only one state has: where the state's own code holds and a code gives one state alone, that state is the code's
exactly : {State : Type 0} (Code : State → Type 0) (own : State) → Code own → ((state : State) → Code state → own ≡ state) → (state : State) → (own ≡ state) ↔ Code state
exactly Code own holds one state = (λ e. subst Code e holds, one state)

-- S-09
pub cab-exactly : (a b : Bool) (state : Cab) → (cab_of a b ≡ state) ↔ CabCode state a b
cab-exactly a b = exactly (λ state. CabCode state a b) (cab_of a b) (own a b) (one a b)
  where
    own : (a b : Bool) → CabCode (cab_of a b) a b
    own false false = (refl, refl)
    own true false = (refl, refl)
    own false true = (refl, refl)
    own true true = (refl, refl)

    one : (a b : Bool) (state : Cab) → CabCode state a b → cab_of a b ≡ state
    one a b Cab'.None (p, q) = rw (p, q) refl
    one a b Cab'.A (p, q) = rw (p, q) refl
    one a b Cab'.B (p, q) = rw (p, q) refl
    one a b Cab'.Invalid (p, q) = rw (p, q) refl
    one a b Cab'.Silent code = absurd code

-- S-10
brake-invalid : (number : ℕ) → 4 ≤ number → brake_of number ≡ Brake'.Invalid
unfolding brake_of ladder
brake-invalid number p =
    rw (ne_eqb number 0 (λ e. omega arith), ne_eqb number 1 (λ e. omega arith), ne_eqb number 2 (λ e. omega arith), ne_eqb number 3 (λ e. omega arith)) refl

brake-own : (number : ℕ) → BrakeCode (brake_of number) number
unfolding brake_of ladder
brake-own number =
    on (ltb number 4)
    (λ e. below number (ltb-true number 4 e))
    (λ e. let p : 4 ≤ number = omega (arith, ltb-false number 4 e) in subst (λ state. BrakeCode state number) (sym (brake-invalid number p)) p)
  where
    below : (n : ℕ) → n < 4 → BrakeCode (brake_of n) n
    below zero p = refl
    below (suc zero) p = refl
    below (suc (suc zero)) p = refl
    below (suc (suc (suc zero))) p = refl
    below (suc (suc (suc (suc n)))) p = absurd (omega arith)

brake-one : (number : ℕ) (state : Brake) → BrakeCode state number → brake_of number ≡ state
unfolding brake_of ladder
brake-one number Brake'.PassengerInP e = ap brake_of e
brake-one number Brake'.FreightInP e = ap brake_of e
brake-one number Brake'.FreightInG e = ap brake_of e
brake-one number Brake'.Unknown e = ap brake_of e
brake-one number Brake'.Invalid p = brake-invalid number p
brake-one number Brake'.Silent code = absurd code

pub brake-exactly : (number : ℕ) (state : Brake) → (brake_of number ≡ state) ↔ BrakeCode state number
brake-exactly number = exactly (λ state. BrakeCode state number) (brake_of number) (brake-own number) (brake-one number)

-- S-11
pub isolation-exactly : (isolated inverse : Bool) (state : Isolation) → (isolation_of isolated inverse ≡ state) ↔ IsolationCode state isolated inverse
isolation-exactly isolated inverse = exactly (λ state. IsolationCode state isolated inverse) (isolation_of isolated inverse) (own isolated inverse) (one isolated inverse)
  where
    own : (a b : Bool) → IsolationCode (isolation_of a b) a b
    own false false = refl
    own true false = (refl, refl)
    own false true = (refl, refl)
    own true true = refl

    one : (a b : Bool) (state : Isolation) → IsolationCode state a b → isolation_of a b ≡ state
    one a b Isolation'.Isolated (p, q) = rw (p, q) refl
    one a b Isolation'.NotIsolated (p, q) = rw (p, q) refl
    one true b Isolation'.Invalid p = rw (← p) refl
    one false b Isolation'.Invalid p = rw (← p) refl
    one a b Isolation'.Silent code = absurd code

-- S-07
pub traction-exactly : (list : ℕ) (state : Traction) → (Traction'.Supported list ≡ state) ↔ TractionCode state list
traction-exactly list = exactly (λ state. TractionCode state list) (Traction'.Supported list) (λ system. refl) one
  where
    one : (state : Traction) → TractionCode state list → Traction'.Supported list ≡ state
    one (Traction'.Supported systems) e = ap Traction'.Supported (bits_same list systems (λ i. sym (e i)))
    one Traction'.Silent code = absurd code
