-- The signals in a telegram from the train: document 01, "Signals from the train", its first paragraph.
use Rattle.std.specs.Prelude.{ℕ, ◌%◌, List, [], ◌∷◌, get_or, replicate}
use Rattle.kit.specs.Bytes.{bit, word_at, long_at}
use Rattle.kit.specs.Each.{each}
use Rattle.train_codes.specs.Codes.{cab_of, brake_of, isolation_of}
use Rattle.train_codes.specs.declared.Brake.TheVariants as Brake'
use Rattle.train_codes.specs.declared.Cab.TheVariants as Cab'
use Rattle.train_codes.specs.declared.Isolation.{Isolation}
use Rattle.train_codes.specs.declared.Isolation.TheVariants as Isolation'
use Rattle.train_telegram.specs.declared.states.States.{States}
use Rattle.train_codes.specs.declared.Traction.TheVariants as Traction'

-- S-05, S-06: systems 1 to 16 by a word and its inverse: bit 0 is system 1
unfoldable pub national_of : ℕ → ℕ → List Isolation
national_of isolated inverse = each (λ i. isolation_of (bit i isolated) (bit i inverse) ∷ []) 0 16

-- S-03 to S-07: byte 1 has cab A in bit 1 and cab B in bit 0; byte 2 has brake position in bits 2..0; bytes 3-4 isolation, bytes 5-6 the
-- inverse; bytes 7-10 the supported traction systems
unfoldable pub states_of : List ℕ → States
states_of t =
    record {
      cab = cab_of (bit 1 (get_or t 1 0)) (bit 0 (get_or t 1 0));
      brake = brake_of (get_or t 2 0 % 8);
      national = national_of (word_at t 3) (word_at t 5);
      traction = Traction'.Supported (long_at t 7);
    }

-- S-16, A-29: every signal silent
unfoldable pub silent : States
silent =
    record {
      cab = Cab'.Silent;
      brake = Brake'.Silent;
      national = replicate 16 Isolation'.Silent;
      traction = Traction'.Silent;
    }
