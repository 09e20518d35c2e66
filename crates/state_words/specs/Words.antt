-- The words for the states of signals, each with the blank before it.
use Rattle.std.specs.Prelude.{ℕ, List, ◌∷◌}
use Rattle.kit.specs.Text.{ascii}
use Rattle.text.specs.Words.{blank}
use Rattle.text.specs.Hexadecimals.{hexadecimal}
use Rattle.train_codes.specs.declared.Brake.{Brake}
use Rattle.train_codes.specs.declared.Brake.TheVariants as Brake'
use Rattle.train_codes.specs.declared.Cab.{Cab}
use Rattle.train_codes.specs.declared.Cab.TheVariants as Cab'
use Rattle.train_codes.specs.declared.Isolation.{Isolation}
use Rattle.train_codes.specs.declared.Isolation.TheVariants as Isolation'
use Rattle.train_codes.specs.declared.Traction.{Traction}
use Rattle.train_codes.specs.declared.Traction.TheVariants as Traction'

-- S-16
abbrev pub silent_word : List ℕ
silent_word = ascii " silent"

-- S-12
abbrev pub invalid : List ℕ
invalid = ascii " invalid"

-- S-09
abbrev pub none_word : List ℕ
none_word = ascii " none"

abbrev pub cab_a : List ℕ
cab_a = ascii " A"

abbrev pub cab_b : List ℕ
cab_b = ascii " B"

-- S-10
abbrev pub passenger_p : List ℕ
passenger_p = ascii " passenger-P"

abbrev pub freight_p : List ℕ
freight_p = ascii " freight-P"

abbrev pub freight_g : List ℕ
freight_g = ascii " freight-G"

abbrev pub unknown : List ℕ
unknown = ascii " unknown"

-- S-11
abbrev pub isolated_word : List ℕ
isolated_word = ascii " isolated"

abbrev pub not_isolated_word : List ℕ
not_isolated_word = ascii " not-isolated"

-- S-09
abbrev pub cab_word : Cab → List ℕ
cab_word Cab'.Silent = silent_word
cab_word Cab'.None = none_word
cab_word Cab'.A = cab_a
cab_word Cab'.B = cab_b
cab_word Cab'.Invalid = invalid

-- S-10
abbrev pub brake_word : Brake → List ℕ
brake_word Brake'.Silent = silent_word
brake_word Brake'.PassengerInP = passenger_p
brake_word Brake'.FreightInP = freight_p
brake_word Brake'.FreightInG = freight_g
brake_word Brake'.Unknown = unknown
brake_word Brake'.Invalid = invalid

-- S-11
abbrev pub isolation_word : Isolation → List ℕ
isolation_word Isolation'.Silent = silent_word
isolation_word Isolation'.Isolated = isolated_word
isolation_word Isolation'.NotIsolated = not_isolated_word
isolation_word Isolation'.Invalid = invalid

-- S-07: eight digits of the list, or silent
abbrev pub traction_word : Traction → List ℕ
traction_word Traction'.Silent = silent_word
traction_word (Traction'.Supported systems) = blank ∷ hexadecimal 8 systems
