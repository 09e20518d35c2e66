-- Every line has room in 256 bytes, so that the program's buffer cuts none off.
use Prim.Native.Nat.{ℕ, ◌<◌, ◌≤◌}
use mathlib.Core.List.{[], ◌∷◌, ◌++◌}
use lib.ListN.{length, length-append, get_or}
use native.Mathlib.Omega.{arith}
use Rattle.kit.specs.Each.{each}
use Rattle.kit.proofs.Each.{length-each-most}
use Rattle.text.specs.Decimals.{decimal}
use Rattle.text.specs.Words.{refused_word}
use Rattle.text.proofs.Numerals.{decimal_byte}
use Rattle.state_words.specs.Words.{cab_word, brake_word, traction_word}
use Rattle.state_words.proofs.Length.{cab-short, brake-short, isolation-short, traction-short}
use Rattle.train_codes.specs.declared.Isolation.TheVariants as Isolation'
use Rattle.train_telegram.specs.declared.states.States.{States}
use Rattle.signals.specs.Answers.{Receipt, receipt_accepted, receipt_missed, receipt_refused, Updating}
use Rattle.signals_output.specs.Lines.{receipt_words, answer_words, misses_word, national_word, state_words, line_of}

answer-short : (receipt : Receipt) (number : ℕ) → number < 256 → length (receipt_words receipt number) ≤ 11
answer-short receipt_accepted number p = omega arith
answer-short receipt_missed number p = omega arith
answer-short receipt_refused number p = omega (arith, length-append refused_word (decimal number), decimal_byte number p)

states-short : (states : States) → length (state_words states) ≤ 237
unfolding state_words
states-short states =
    let systems = each (national_word states.national) 0 16 in
    omega (
      arith,
      length-append (cab_word states.cab) (brake_word states.brake ++ (systems ++ traction_word states.traction)),
      length-append (brake_word states.brake) (systems ++ traction_word states.traction),
      length-append systems (traction_word states.traction),
      cab-short states.cab,
      brake-short states.brake,
      length-each-most (national_word states.national) 13 (λ i. isolation-short (get_or states.national i Isolation'.Silent)) 0 16,
      traction-short states.traction,
    )

pub line_short : (updating : Updating) → updating.noted.number < 256 → updating.signals.misses < 256 → length (line_of updating) ≤ 256
unfolding line_of
line_short updating number misses =
    omega (
      arith,
      length-append (answer_words updating.noted) (misses_word updating.signals.misses ++ (state_words updating.signals.states ++ (10 ∷ []))),
      length-append (misses_word updating.signals.misses) (state_words updating.signals.states ++ (10 ∷ [])),
      length-append (state_words updating.signals.states) (10 ∷ []),
      answer-short updating.noted.receipt updating.noted.number number,
      decimal_byte updating.signals.misses misses,
      states-short updating.signals.states,
    )
