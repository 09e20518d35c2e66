-- The answers of a call that may refuse, in the numbers of document 01 (C-12). A contract says which verdict it is by `verdict_of`, the
-- verdict with a number. The pages speak of a verdict by what `ruling_of` tells of it, which is different for every two verdicts
-- (`ruling_apart` in proofs/Answers.antt); of the verdict with a number it tells that number (`number-verdict`). The code answers with
-- Rust's `Result`; `verdict_in` says which verdict one is.
use Rattle.std.specs.Prelude.{ℕ, Bool, true, false, cond, ◌==◌, Result, Ok, Err}
use Rattle.wire.specs.declared.refusals.Refusal.{Refusal}
use Rattle.wire.specs.declared.refusals.Refusal.TheVariants as Refusal'

-- C-12, R-01 to R-17: the number of a row
abbrev pub row_number : Refusal → ℕ
row_number Refusal'.NotWholeOrders = 1
row_number Refusal'.ListTooLong = 2
row_number Refusal'.OrderZero = 3
row_number Refusal'.UnknownType = 4
row_number Refusal'.SpareByte = 5
row_number Refusal'.SecondWord = 6
row_number Refusal'.OrderTwice = 7
row_number Refusal'.TypeChanged = 8
row_number Refusal'.NoSuchPacket = 9
row_number Refusal'.Length = 10
row_number Refusal'.NoTablePacket = 11
row_number Refusal'.EmptySlotFilled = 12
row_number Refusal'.UnknownSlotType = 13
row_number Refusal'.NumberTwice = 14
row_number Refusal'.NumberClash = 15
row_number Refusal'.FirstByte = 16
row_number Refusal'.ZeroBit = 17

-- C-12: accepted, or refused under a number
pub data Verdict : Type 0 where
  verdict_accepted : Verdict
  verdict_refused : ℕ → Verdict

-- C-12: whether it is refused, and the number of the refusal, 0 where nothing is refused
pub record Ruling : Type 0 where
  pub refused : Bool
  pub number : ℕ

abbrev pub ruled_accepted : Ruling
ruled_accepted = record { refused = false; number = 0 }

abbrev pub ruled_refused : ℕ → Ruling
ruled_refused number = record { refused = true; number = number }

-- C-12: what each case of a verdict tells
abbrev pub ruling_of : Verdict → Ruling
ruling_of verdict_accepted = ruled_accepted
ruling_of (verdict_refused number) = ruled_refused number

-- C-12: the number that a verdict gives, 0 where nothing is refused
abbrev pub number_of : Verdict → ℕ
number_of verdict = (ruling_of verdict).number

-- C-12: the verdict with a number
unfoldable pub verdict_of : ℕ → Verdict
verdict_of number = cond (number == 0) verdict_accepted (verdict_refused number)

-- C-12: what the code's answer says: the number of the refusal, 0 where there is none; and the verdict
abbrev pub refusal_number : {A : Type 0} → Result A Refusal → ℕ
refusal_number (Ok value) = 0
refusal_number (Err refusal) = row_number refusal

abbrev pub verdict_in : {A : Type 0} → Result A Refusal → Verdict
verdict_in (Ok value) = verdict_accepted
verdict_in (Err refusal) = verdict_refused (row_number refusal)
