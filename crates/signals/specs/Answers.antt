-- The answer to a call in the words and numbers of document 01 (C-12). All that is promised of an answer is promised of what `noted_of`
-- tells of it, which is different for every two answers (proofs/Answers.antt).
use Rattle.std.specs.Prelude.{ℕ}
use Rattle.signals.specs.declared.Answer.{Answer}
use Rattle.signals.specs.declared.Answer.TheVariants.{Accepted, Missed, Refused}
use Rattle.signals.specs.declared.Signals.{Signals}
use Rattle.signals.specs.declared.Updated.{Updated}

-- S-13, S-14: the telegram was accepted; there was none, which is a miss and no refusal; or it was refused
pub data Receipt : Type 0 where
  receipt_accepted : Receipt
  receipt_missed : Receipt
  receipt_refused : Receipt

-- C-12: which of the three it was, and the number of the refusal, 0 where nothing is refused
pub record Noted : Type 0 where
  pub receipt : Receipt
  pub number : ℕ

abbrev pub acceptance : Noted
acceptance = record { receipt = receipt_accepted; number = 0 }

abbrev pub absence : Noted
absence = record { receipt = receipt_missed; number = 0 }

abbrev pub refusal_under : ℕ → Noted
refusal_under number = record { receipt = receipt_refused; number = number }

-- C-12: what each case of the code's enum tells
abbrev pub noted_of : Answer → Noted
noted_of Accepted = acceptance
noted_of Missed = absence
noted_of (Refused number) = refusal_under number

-- M-1b: what a call comes to: what its answer tells, and the next record
pub record Updating : Type 0 where
  pub noted : Noted
  pub signals : Signals

abbrev pub updating_of : Updated → Updating
updating_of updated = record { noted = noted_of updated.answer; signals = updated.signals }
