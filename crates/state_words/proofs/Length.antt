-- How long the words are at most.
use Prim.Native.Nat.{◌≤◌}
use lib.ListN.{length}
use native.Mathlib.Omega.{arith}
use Rattle.text.proofs.Numerals.{hexadecimal-long}
use Rattle.train_codes.specs.declared.Brake.{Brake}
use Rattle.train_codes.specs.declared.Brake.TheVariants as Brake'
use Rattle.train_codes.specs.declared.Cab.{Cab}
use Rattle.train_codes.specs.declared.Cab.TheVariants as Cab'
use Rattle.train_codes.specs.declared.Isolation.{Isolation}
use Rattle.train_codes.specs.declared.Isolation.TheVariants as Isolation'
use Rattle.train_codes.specs.declared.Traction.{Traction}
use Rattle.train_codes.specs.declared.Traction.TheVariants as Traction'
use Rattle.state_words.specs.Words.{cab_word, brake_word, isolation_word, traction_word}

pub cab-short : (cab : Cab) → length (cab_word cab) ≤ 8
cab-short Cab'.Silent = omega arith
cab-short Cab'.None = omega arith
cab-short Cab'.A = omega arith
cab-short Cab'.B = omega arith
cab-short Cab'.Invalid = omega arith

pub brake-short : (brake : Brake) → length (brake_word brake) ≤ 12
brake-short Brake'.Silent = omega arith
brake-short Brake'.PassengerInP = omega arith
brake-short Brake'.FreightInP = omega arith
brake-short Brake'.FreightInG = omega arith
brake-short Brake'.Unknown = omega arith
brake-short Brake'.Invalid = omega arith

pub isolation-short : (isolation : Isolation) → length (isolation_word isolation) ≤ 13
isolation-short Isolation'.Silent = omega arith
isolation-short Isolation'.Isolated = omega arith
isolation-short Isolation'.NotIsolated = omega arith
isolation-short Isolation'.Invalid = omega arith

pub traction-short : (traction : Traction) → length (traction_word traction) ≤ 9
traction-short Traction'.Silent = omega arith
traction-short (Traction'.Supported systems) = omega (arith, hexadecimal-long 8 systems)
