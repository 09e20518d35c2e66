-- One answer of what all programs share: each contract admits one (C-04). The calls of C are exceptions (docs/CONTRACTS.md).
use mathlib.Core.Path.{refl, ap}
use Rattle.kit.specs.Contracts.{OneAnswer}
use Rattle.kit.proofs.Contracts.{agree}
use Rattle.same_text.proofs as same_text
use Rattle.same_text.specs.contracts as same_text-contracts
use Rattle.outcomes.proofs as outcomes
use Rattle.outcomes.specs.contracts as outcomes-contracts
use Rattle.program.proofs as program
use Rattle.program.specs.contracts as program-contracts

pub same_text-is_same : OneAnswer same_text-contracts.is_same.ended same_text.is_same.Reads.Learnt
same_text-is_same κs handed answer other lasts others p q = (agree p q, refl)

pub program-argument_of : OneAnswer program-contracts.argument_of.ended program.argument_of.Reads.Learnt
program-argument_of κs handed answer other lasts others p q = (agree p q, refl)

pub program-is_work : OneAnswer program-contracts.is_work.ended program.is_work.Reads.Learnt
program-is_work κs handed answer other lasts others p q = (agree p q, refl)

pub program-nothing : OneAnswer program-contracts.arguments.Asked.nothing.ended program.arguments.Asked.nothing.Reads.Learnt
program-nothing κs handed answer other lasts others p q = (agree p q, refl)

pub program-with : OneAnswer program-contracts.arguments.Asked.with.ended program.arguments.Asked.with.Reads.Learnt
program-with κs handed answer other lasts others p q = (agree p q, refl)

pub outcomes-read_of : OneAnswer outcomes-contracts.read_of.ended outcomes.read_of.Reads.Learnt
outcomes-read_of κs handed answer other lasts others p q = (agree p q, refl)

pub outcomes-write_of : OneAnswer outcomes-contracts.write_of.ended outcomes.write_of.Reads.Learnt
outcomes-write_of κs handed answer other lasts others p q = (agree p q, refl)

pub outcomes-is_again : OneAnswer outcomes-contracts.is_again.ended outcomes.is_again.Reads.Learnt
outcomes-is_again κs handed answer other lasts others p q = (agree p q, refl)

pub outcomes-is_failed : OneAnswer outcomes-contracts.is_failed.ended outcomes.is_failed.Reads.Learnt
outcomes-is_failed κs handed answer other lasts others p q = (agree p q, refl)

pub outcomes-is_over : OneAnswer outcomes-contracts.is_over.ended outcomes.is_over.Reads.Learnt
outcomes-is_over κs handed answer other lasts others p q = (agree p q, refl)

pub outcomes-end_of : OneAnswer outcomes-contracts.end_of.ended outcomes.end_of.Reads.Learnt
outcomes-end_of κs handed answer other lasts others p q = (agree p q, refl)

pub program-is_complaint : OneAnswer program-contracts.is_complaint.ended program.is_complaint.Reads.Learnt
program-is_complaint κs handed answer other lasts others p q = (agree p q, refl)

pub outcomes-of : OneAnswer outcomes-contracts.progress.Progress.of.ended outcomes.progress.Progress.of.Reads.Learnt
outcomes-of κs handed answer other lasts others p q = (agree p q, refl)

pub outcomes-advanced : OneAnswer outcomes-contracts.progress.Progress.advanced.ended outcomes.progress.Progress.advanced.Reads.Learnt
outcomes-advanced κs handed answer other lasts others p q = (agree p q, refl)

pub outcomes-is_due : OneAnswer outcomes-contracts.progress.Progress.is_due.ended outcomes.progress.Progress.is_due.Reads.Learnt
outcomes-is_due κs handed answer other lasts others p q = (agree p q, refl)

pub outcomes-put_line : OneAnswer outcomes-contracts.progress.Progress.put_line.ended outcomes.progress.Progress.put_line.Reads.Learnt
outcomes-put_line κs handed answer other lasts others p q = (refl, ap (λ s. (tt, (s, tt))) (agree p q))

pub program-put_answer : OneAnswer program-contracts.put_answer.ended program.put_answer.Reads.Learnt
program-put_answer κs handed answer other lasts others p q = (refl, ap (λ s. (tt, (tt, (tt, (s, tt))))) (agree p q))

pub program-put_awaiting : OneAnswer program-contracts.put_awaiting.ended program.put_awaiting.Reads.Learnt
program-put_awaiting κs handed answer other lasts others p q = (refl, ap (λ s. (tt, (s, tt))) (agree p q))

pub program-put_doing : OneAnswer program-contracts.put_doing.ended program.put_doing.Reads.Learnt
program-put_doing κs handed answer other lasts others p q = (refl, ap (λ s. (tt, (tt, (tt, (s, tt))))) (agree p q))

pub outcomes-is_ended : OneAnswer outcomes-contracts.is_ended.ended outcomes.is_ended.Reads.Learnt
outcomes-is_ended κs handed answer other lasts others p q = (agree p q, refl)

pub outcomes-is_short : OneAnswer outcomes-contracts.is_short.ended outcomes.is_short.Reads.Learnt
outcomes-is_short κs handed answer other lasts others p q = (agree p q, refl)
