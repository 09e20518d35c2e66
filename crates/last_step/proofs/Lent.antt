-- The step last taken that was put into the memory is read back from it.
use Prim.Native.Nat.{ℕ, ◌+◌, ◌/◌, ◌%◌}
use mathlib.Core.Path.{◌≡◌, refl, ap, ◌∙◌}
use mathlib.Core.Bool.{cond}
use mathlib.Core.List.{List}
use lib.Dec.{eqb}
use lib.ListN.{length, get_or}
use lib.Seq.{sets}
use native.Mathlib.Omega.{arith}
use Rattle.kit.specs.Bytes.{word_of_two}
use Rattle.kit.proofs.Stores.{sets_in}
use Rattle.memory.specs.Memory.{memory_size, last_from}
use Rattle.memory.proofs.Slots.{word_back}
use Rattle.last_step.specs.Lent.{last_in, last_bytes}
use Rattle.std.specs.Prelude.{Option, None, Some}

pub last-length : (last : Option ℕ) → length (last_bytes last) ≡ 3
last-length None = refl
last-length (Some step) = refl

module _ (memory : List ℕ) (long : length memory ≡ memory_size) where
  pub last-back : (last : Option ℕ) → last_in (sets memory last_from (last_bytes last)) ≡ last
  unfolding last_in
  last-back None =
      let after = sets memory last_from (last_bytes None) in
      let none : get_or after last_from 0 ≡ 0 = sets_in 0 (last_bytes None) memory last_from 0 (omega arith) (omega (arith, long)) in
      λ t. cond (eqb (none t) 0) None (Some (word_of_two (get_or after (last_from + 1) 0) (get_or after (last_from + 2) 0)))
  last-back (Some step) =
      let after = sets memory last_from (last_bytes (Some step)) in
      let one : get_or after last_from 0 ≡ 1 = sets_in 0 (last_bytes (Some step)) memory last_from 0 (omega arith) (omega (arith, long)) in
      let high : get_or after (last_from + 1) 0 ≡ step / 256 = sets_in 0 (last_bytes (Some step)) memory last_from 1 (omega arith) (omega (arith, long)) in
      let low : get_or after (last_from + 2) 0 ≡ step % 256 = sets_in 0 (last_bytes (Some step)) memory last_from 2 (omega arith) (omega (arith, long)) in
      (λ t. cond (eqb (one t) 0) None (Some (word_of_two (high t) (low t)))) ∙ ap Some (word_back step)
