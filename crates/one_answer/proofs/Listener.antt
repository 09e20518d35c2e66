-- One answer of the listener and of the memory that it works in: each contract admits one (C-04).
use mathlib.Core.Path.{refl, ap}
use Rattle.claims.proofs.Demand1.{demand1}
use Rattle.kit.specs.Contracts.{OneAnswer}
use Rattle.kit.proofs.Contracts.{agree}
use Rattle.memory.proofs as memory
use Rattle.memory.specs.contracts as memory-contracts
use Rattle.last_step.proofs as last_step
use Rattle.last_step.specs.contracts as last_step-contracts
use Rattle.hand.proofs as hand
use Rattle.hand.specs.contracts as hand-contracts
use Rattle.picture.proofs as picture
use Rattle.picture.specs.contracts as picture-contracts
use Rattle.marks.proofs as marks
use Rattle.marks.specs.contracts as marks-contracts
use Rattle.listener.proofs as listener
use Rattle.listener.specs.contracts as listener-contracts
use Rattle.listener.proofs.Answers.{hearing_apart}

-- ---- memory

pub memory-shown_slot : OneAnswer memory-contracts.shown_slot.ended memory.shown_slot.Reads.Learnt
memory-shown_slot κs handed answer other lasts others p q = (agree p q, refl)

pub memory-is_marked : OneAnswer memory-contracts.is_marked.ended memory.is_marked.Reads.Learnt
memory-is_marked κs handed answer other lasts others p q = (agree p q, refl)

pub memory-picture_in : OneAnswer memory-contracts.picture_in.ended memory.picture_in.Reads.Learnt
memory-picture_in κs handed answer other lasts others p q = (agree p q, refl)

pub memory-set_in : OneAnswer memory-contracts.set_in.ended memory.set_in.Reads.Learnt
memory-set_in κs handed answer other lasts others p q = (agree p q, refl)

pub memory-marks_in : OneAnswer memory-contracts.marks_in.ended memory.marks_in.Reads.Learnt
memory-marks_in κs handed answer other lasts others p q = (agree p q, refl)

pub memory-put_slot : OneAnswer memory-contracts.put_slot.ended memory.put_slot.Reads.Learnt
memory-put_slot κs handed answer other lasts others p q = (refl, ap (λ b. (b, (tt, (tt, tt)))) (agree p q))

pub memory-put_picture : OneAnswer memory-contracts.put_picture.ended memory.put_picture.Reads.Learnt
memory-put_picture κs handed answer other lasts others p q = (refl, ap (λ b. (b, (tt, tt))) (agree p q))

pub memory-put_set : OneAnswer memory-contracts.put_set.ended memory.put_set.Reads.Learnt
memory-put_set κs handed answer other lasts others p q = (refl, ap (λ b. (b, (tt, tt))) (agree p q))

pub memory-show : OneAnswer memory-contracts.show.ended memory.show.Reads.Learnt
memory-show κs handed answer other lasts others p q = (refl, ap (λ b. (b, tt)) (agree p q))

pub memory-put_marks : OneAnswer memory-contracts.put_marks.ended memory.put_marks.Reads.Learnt
memory-put_marks κs handed answer other lasts others p q = (refl, ap (λ b. (b, (tt, tt))) (agree p q))

pub memory-empty : OneAnswer memory-contracts.byte_set.ByteSet.empty.ended memory.byte_set.ByteSet.empty.Reads.Learnt
memory-empty κs handed answer other lasts others p q = ((λ i. record { flags = agree p q i }), refl)

pub memory-contains : OneAnswer memory-contracts.byte_set.ByteSet.contains.ended memory.byte_set.ByteSet.contains.Reads.Learnt
memory-contains κs handed answer other lasts others p q = (agree p q, refl)

pub memory-insert : OneAnswer memory-contracts.byte_set.ByteSet.insert.ended memory.byte_set.ByteSet.insert.Reads.Learnt
memory-insert κs handed answer other lasts others p q = (refl, (λ i. (record { flags = agree p q i }, (tt, tt))))

-- ---- last_step

pub last_step-is_last : OneAnswer last_step-contracts.is_last.ended last_step.is_last.Reads.Learnt
last_step-is_last κs handed answer other lasts others p q = (agree p q, refl)

pub last_step-gap_from : OneAnswer last_step-contracts.gap_from.ended last_step.gap_from.Reads.Learnt
last_step-gap_from κs handed answer other lasts others p q = (agree p q, refl)

pub last_step-last_in : OneAnswer last_step-contracts.last_in.ended last_step.last_in.Reads.Learnt
last_step-last_in κs handed answer other lasts others p q = (agree p q, refl)

pub last_step-take_step : OneAnswer last_step-contracts.take_step.ended last_step.take_step.Reads.Learnt
last_step-take_step κs handed answer other lasts others p q = (refl, ap (λ b. (b, (tt, tt))) (agree p q))

pub last_step-put_last : OneAnswer last_step-contracts.put_last.ended last_step.put_last.Reads.Learnt
last_step-put_last κs handed answer other lasts others p q = (refl, ap (λ b. (b, (tt, tt))) (agree p q))

-- ---- hand

pub hand-begin : OneAnswer hand-contracts.begin.ended hand.begin.Reads.Learnt
hand-begin κs handed answer other lasts others p q = (refl, ap (λ b. (b, (tt, tt))) (agree p q))

pub hand-step_of : OneAnswer hand-contracts.step_of.ended hand.step_of.Reads.Learnt
hand-step_of κs handed answer other lasts others p q = (agree p q, refl)

pub hand-is_held : OneAnswer hand-contracts.is_held.ended hand.is_held.Reads.Learnt
hand-is_held κs handed answer other lasts others p q = (agree p q, refl)

pub hand-join : OneAnswer hand-contracts.join.ended hand.join.Reads.Learnt
hand-join κs handed answer other lasts others p q = (refl, ap (λ b. (b, (tt, tt))) (agree p q))

pub hand-is_whole : OneAnswer hand-contracts.is_whole.ended hand.is_whole.Reads.Learnt
hand-is_whole κs handed answer other lasts others p q = (agree p q, refl)

pub hand-hand_in : OneAnswer hand-contracts.hand_in.ended hand.hand_in.Reads.Learnt
hand-hand_in κs handed answer other lasts others p q = (agree p q, refl)

pub hand-put_hand : OneAnswer hand-contracts.put_hand.ended hand.put_hand.Reads.Learnt
hand-put_hand κs handed answer other lasts others p q = (refl, ap (λ b. (b, (tt, tt))) (agree p q))

-- ---- picture

pub picture-count_of : OneAnswer picture-contracts.count_of.ended picture.count_of.Reads.Learnt
picture-count_of κs handed answer other lasts others p q = (agree p q, refl)

pub picture-clashes : OneAnswer picture-contracts.clashes.ended picture.clashes.Reads.Learnt
picture-clashes κs handed answer other lasts others p q = (agree p q, refl)

-- ---- marks

pub marks-marks_of : OneAnswer marks-contracts.marks_of.ended marks.marks_of.Reads.Learnt
marks-marks_of κs handed answer other lasts others p q = (agree p q, refl)

-- ---- listener

pub listener-fresh : OneAnswer listener-contracts.Listener.fresh.ended listener.Listener.fresh.Reads.Learnt
listener-fresh κs handed answer other lasts others p q = (agree p q, refl)

pub listener-hear : OneAnswer listener-contracts.Listener.hear.ended listener.Listener.hear.Reads.Learnt
listener-hear κs handed answer other lasts others p q = (hearing_apart answer other (agree p q), refl)

pub listener-memory_of : OneAnswer listener-contracts.memory_of.ended listener.memory_of.Reads.Learnt
listener-memory_of κs handed answer other lasts others p q = (agree p q, refl)

pub listener-listener_in : OneAnswer listener-contracts.listener_in.ended listener.listener_in.Reads.Learnt
listener-listener_in κs handed answer other lasts others p q = (agree p q, refl)

pub listener-hear_in : OneAnswer listener-contracts.hear_in.ended listener.hear_in.Reads.Learnt
listener-hear_in = demand1.telegrams_lent.defined
