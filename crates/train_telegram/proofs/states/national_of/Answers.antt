-- `national_of`: system by system, each by the closure's call at its place.
use Rattle.std.proofs.Common.{◌≡◌, ℕ, ◌+◌, ◌/◌, ◌%◌, ◌^◌, ◌<◌, eqb, sym, ap, ap₂, ◌∙◌, rules, tests, arith}
use Rattle.std.proofs.Math.Seq.{ext_get_or}
use Rattle.kit.specs.Bytes.{bit}
use Rattle.kit.proofs.Arrays.{made-at}
use Rattle.kit.proofs.Bits.{bit-above}
use Rattle.train_codes.specs.Codes.{isolation_of}
use Rattle.train_codes.specs.declared.Isolation.TheVariants.{Silent}
use Rattle.train_telegram.proofs.Showing.{national-long, national-at}
use Rattle.train_telegram.proofs.states.national_of.Goals as goal

-- the bit that stands lowest once those below it are shifted out
lowest : (word i : ℕ) → eqb (word / 2 ^ i % 2) 1 ≡ bit i word
lowest word i = let here : 0 + i ≡ i = omega arith in sym (bit-above i 0 word) ∙ ap (λ j. bit j word) here

pub returns : goal.returns
returns c =
    let a = c.args in
    ext_get_or Silent c.from_fn.result _ (c.from_fn.ensures.items.long ∙ sym (national-long a.isolated a.inverse))
    (λ i p.
    let inside : i < 16 = omega (arith, c.from_fn.ensures.items.long) in
    made-at _ _ (λ j. isolation_of (eqb (a.isolated / 2 ^ j % 2) 1) (eqb (a.inverse / 2 ^ j % 2) 1)) 16 (λ x b q p k. search (rules, tests)) c.from_fn.result Silent i c.from_fn.ensures.items inside
    ∙ (ap₂ isolation_of (lowest a.isolated i) (lowest a.inverse i) ∙ sym (national-at a.isolated a.inverse Silent i inside)))
