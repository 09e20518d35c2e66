-- `put_last`: the part that is written over is a run of stores.
use Prim.Native.Nat.{ℕ, ◌/◌, ◌%◌, ◌<◌}
use mathlib.Core.Path.{◌≡◌, ap, ◌∙◌}
use mathlib.Core.List.{[], ◌∷◌}
use lib.ListN.{length}
use lib.Seq.{sets}
use native.Mathlib.Omega.{arith}
use mir.Val.{bool_byte}
use Rattle.std.specs.Prelude.{Option, None, Some}
use Rattle.std.specs.Option.{is_some, unwrap_or}
use Rattle.memory.specs.Memory.{memory_size, last_from}
use Rattle.kit.proofs.Parts.{part-stored}
use Rattle.last_step.specs.Lent.{last_bytes}
use Rattle.last_step.proofs.Lent.{last-length}
use borrow.Author.Rules.{rules}
use Rattle.last_step.proofs.put_last.Goals as goal

-- the three bytes, by the word of the step, which is 0 where there is none
told : (last : Option ℕ) (word : ℕ) → word < 0x10000 → word ≡ unwrap_or last 0 → bool_byte (is_some last) ∷ word / 256 % 256 ∷ word % 256 ∷ [] ≡ last_bytes last
told None word fits e = λ t. 0 ∷ (e t / 256 % 256) ∷ (e t % 256) ∷ []
told (Some step) word fits e = let high : word / 256 % 256 ≡ step / 256 = omega arith in λ t. 1 ∷ high t ∷ (e t % 256) ∷ []

pub returns : goal.returns
returns c =
    let a = c.args in
    let word = c.unwrap_or.result in
    let long : length a.memory.now ≡ memory_size = search rules in
    let three : c.copy_from_slice.new.self ≡ bool_byte (is_some a.last) ∷ word / 256 % 256 ∷ word % 256 ∷ [] = search rules in
    let put = three ∙ told a.last word (search rules) c.unwrap_or.ensures in
    part-stored a.memory.now last_from c.copy_from_slice.new.self 3 (ap length put ∙ last-length a.last) (omega (arith, long)) ∙ ap (λ part. sets a.memory.now last_from part) put
