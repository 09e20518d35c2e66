-- The codes of document 01, "Signals from the train", read the other way: of each state, exactly which code it comes from. None comes
-- from an invalid code but invalid, and silent comes from no code at all.
use Rattle.std.specs.Prelude.{ℕ, ◌≤◌, Bool, true, false, ◌≡◌}
use Rattle.kit.specs.Bytes.{bit}
use Rattle.train_codes.specs.Codes.{is_supported}
use Rattle.train_codes.specs.declared.Brake.{Brake}
use Rattle.train_codes.specs.declared.Brake.TheVariants as Brake'
use Rattle.train_codes.specs.declared.Cab.{Cab}
use Rattle.train_codes.specs.declared.Cab.TheVariants as Cab'
use Rattle.train_codes.specs.declared.Isolation.{Isolation}
use Rattle.train_codes.specs.declared.Isolation.TheVariants as Isolation'
use Rattle.train_codes.specs.declared.Traction.{Traction}
use Rattle.train_codes.specs.declared.Traction.TheVariants as Traction'

-- S-09: by the bits of cab A and cab B
abbrev pub CabCode : Cab → Bool → Bool → Type 0
CabCode Cab'.None a b = (a ≡ false) × (b ≡ false)
CabCode Cab'.A a b = (a ≡ true) × (b ≡ false)
CabCode Cab'.B a b = (a ≡ false) × (b ≡ true)
CabCode Cab'.Invalid a b = (a ≡ true) × (b ≡ true)
CabCode Cab'.Silent a b = ⊥

-- S-10: by the number
abbrev pub BrakeCode : Brake → ℕ → Type 0
BrakeCode Brake'.PassengerInP number = number ≡ 0
BrakeCode Brake'.FreightInP number = number ≡ 1
BrakeCode Brake'.FreightInG number = number ≡ 2
BrakeCode Brake'.Unknown number = number ≡ 3
BrakeCode Brake'.Invalid number = 4 ≤ number
BrakeCode Brake'.Silent number = ⊥

-- S-11: by the bit and its inverse
abbrev pub IsolationCode : Isolation → Bool → Bool → Type 0
IsolationCode Isolation'.Isolated isolated inverse = (isolated ≡ true) × (inverse ≡ false)
IsolationCode Isolation'.NotIsolated isolated inverse = (isolated ≡ false) × (inverse ≡ true)
IsolationCode Isolation'.Invalid isolated inverse = isolated ≡ inverse
IsolationCode Isolation'.Silent isolated inverse = ⊥

-- S-07: by the bits of the list: each system is supported exactly where its own bit is set; A-27: no code is invalid
abbrev pub TractionCode : Traction → ℕ → Type 0
TractionCode (Traction'.Supported systems) list = (system : ℕ) → is_supported systems system ≡ bit system list
TractionCode Traction'.Silent list = ⊥
