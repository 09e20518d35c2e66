-- The codes of the signals from the train: document 01, "Signals from the train", its second paragraph.
use Rattle.std.specs.Prelude.{ℕ, Bool, true, false, [], ◌∷◌, eqb}
use Rattle.kit.specs.Bytes.{bit}
use Rattle.kit.specs.Ladder.{ladder}
use Rattle.train_codes.specs.declared.Brake.{Brake}
use Rattle.train_codes.specs.declared.Brake.TheVariants as Brake'
use Rattle.train_codes.specs.declared.Cab.{Cab}
use Rattle.train_codes.specs.declared.Cab.TheVariants as Cab'
use Rattle.train_codes.specs.declared.Isolation.{Isolation}
use Rattle.train_codes.specs.declared.Isolation.TheVariants as Isolation'

-- S-09: cab A and cab B: none, A, B; both set is invalid
abbrev pub cab_of : Bool → Bool → Cab
cab_of false false = Cab'.None
cab_of true false = Cab'.A
cab_of false true = Cab'.B
cab_of true true = Cab'.Invalid

-- S-10: 0 passenger in P, 1 freight in P, 2 freight in G, 3 unknown, 4 to 7 invalid
unfoldable pub brake_of : ℕ → Brake
brake_of number =
    ladder Brake'.Invalid
    ((eqb number 0, Brake'.PassengerInP)
    ∷ (eqb number 1, Brake'.FreightInP)
    ∷ (eqb number 2, Brake'.FreightInG)
    ∷ (eqb number 3, Brake'.Unknown)
    ∷ [])

-- S-11: 1 with inverse 0 isolated, 0 with inverse 1 not isolated, equal bits invalid
abbrev pub isolation_of : Bool → Bool → Isolation
isolation_of true false = Isolation'.Isolated
isolation_of false true = Isolation'.NotIsolated
isolation_of true true = Isolation'.Invalid
isolation_of false false = Isolation'.Invalid

-- S-07, A-27: whether a system stands in a list of supported traction systems: bit 1 of the list is system 1, and so on to system 31; bit 0
-- is of no system
abbrev pub is_supported : ℕ → ℕ → Bool
is_supported systems system = bit system systems
