-- What a listener answers, in the numbers and values of document 01: "Matching forms to places", last paragraph. Every definition and
-- promise on hearing speaks of an answer through `told_of` (C-12); proofs/Answers.antt proves that it tells every two answers apart.
use Rattle.std.specs.Prelude.{ℕ}
use Rattle.listener.specs.declared.Answer.{Answer}
use Rattle.listener.specs.declared.Answer.TheVariants.{Refused, Repeat, Held, Taken}
use Rattle.listener.specs.declared.Heard.{Heard}
use Rattle.listener.specs.declared.Listener.{Listener}

-- C-12: which of the four an answer is: a refusal, a repeat, a part held for a set that is not yet whole, or a table taken
pub data Outcome : Type 0 where
  a_refusal : Outcome
  a_repeat : Outcome
  a_part : Outcome
  a_table : Outcome

-- C-12: an answer in the numbers and values of document 01: the number of a refusal, 0 where nothing is refused; the step number, how many
-- conditions and the gap of a table taken, 0 where none is
pub record Told : Type 0 where
  pub outcome : Outcome
  pub number : ℕ
  pub step : ℕ
  pub conditions : ℕ
  pub gap : ℕ

-- R-20: refused under this number
abbrev pub refused_as : ℕ → Told
refused_as number = record { outcome = a_refusal; number = number; step = 0; conditions = 0; gap = 0 }

-- L-01, L-02: a repeat
abbrev pub as_repeat : Told
as_repeat = record { outcome = a_repeat; number = 0; step = 0; conditions = 0; gap = 0 }

-- L-03: held
abbrev pub as_held : Told
as_held = record { outcome = a_part; number = 0; step = 0; conditions = 0; gap = 0 }

-- L-04, L-05, C-09: the table of this step taken, with so many conditions, over this gap
abbrev pub taken_as : ℕ → ℕ → ℕ → Told
taken_as step conditions gap = record { outcome = a_table; number = 0; step = step; conditions = conditions; gap = gap }

-- C-12: what an answer tells
abbrev pub told_of : Answer → Told
told_of (Refused number) = refused_as number
told_of Repeat = as_repeat
told_of Held = as_held
told_of (Taken step count gap) = taken_as step count gap

-- C-12: what is told, and the next listener beside it
pub record Hearing : Type 0 where
  pub told : Told
  pub listener : Listener

abbrev pub hearing_of : Heard → Hearing
hearing_of heard = record { told = told_of heard.answer; listener = heard.listener }
