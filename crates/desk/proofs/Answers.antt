-- A desk's answers: no two tell the same, and what any list comes to is what an answer says.
use Rattle.std.proofs.Common.{◌≡◌, ℕ, List, ap}
use Rattle.wire.proofs.Results.{verdict_in-apart, answer_with, answered_with}
use Rattle.orders.specs.Orders.{list_refusal}
use Rattle.orders.proofs.Rows.{list-most}
use Rattle.desk.specs.Desks.{Accepting, answer_in, accept_of}
use Rattle.desk.specs.declared.Answer.{Answer as Answered}
use Rattle.desk.specs.declared.Desk.{Desk}

-- C-12: no two answers tell the same
pub answer_in-apart : (one other : Answered) → answer_in one ≡ answer_in other → one ≡ other
answer_in-apart one other e =
    let verdict = verdict_in-apart one.verdict other.verdict (ap (λ (a : Accepting). a.verdict) e) in
    let desk = ap (λ (a : Accepting). a.desk) e in
    (λ i. record { verdict = verdict i; desk = desk i })

-- C-12: what any list comes to is what an answer says
pub accept_answer : (rest : ℕ) (desk : Desk) (list : List ℕ) → (answer : Answered) × (answer_in answer ≡ accept_of rest desk list)
unfolding accept_of
accept_answer rest desk list =
    let a = answer_with tt (list_refusal desk.places list) (list-most desk.places list) in
    let same = answered_with a.0 a.1 in
    let next = (accept_of rest desk list).desk in
    (record { verdict = a.0; desk = next }, (λ i. record { verdict = same i; desk = next }))
