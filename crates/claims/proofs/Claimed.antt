-- Demand 3 over the figures and the binding: of every sequence of calls to a fresh desk and of every heard sequence that meets the
-- premises, each phrase of specs/Ends.antt is so, where the listener's figure is not above the desk's and what is written is read back.
use Prim.Native.Nat.{ℕ, ◌≤◌}
use mathlib.Core.Path.{◌≡◌}
use mathlib.Core.Logic.{◌↔◌}
use mathlib.Core.Bool.{true}
use mathlib.Core.List.{List}
use Rattle.listener.specs.Listeners.{mark_at}
use Rattle.claims.specs.Hearings.{Item, wholes}
use Rattle.claims.specs.Ends.{Binding, Premises, picture_of, last_of, IsCarriedOn, PutRight, Answered, listener_after}
use Rattle.claims.proofs.Ends as Ends
use Rattle.claims.proofs.Ends.{ReadsBack}
use Rattle.claims.proofs.Following.{falling, shown, right, answered}
use Rattle.claims.proofs.History.{table-twenty, table-apart}

-- M-3: all that is claimed after a heard sequence, and so after each beginning of it
pub record Claim (rest reach : ℕ) {Message : Type 0} (binding : Binding Message) (calls : List (List ℕ)) (heard : List (Item Message)) : Type 0 where
  pub picture : (listener_after rest reach binding calls heard).picture ≡ picture_of rest reach binding calls (wholes heard)
  pub last : (listener_after rest reach binding calls heard).last ≡ last_of rest reach binding calls (wholes heard)
  pub carried : (i : ℕ) → (mark_at (listener_after rest reach binding calls heard).marks i ≡ true) ↔ IsCarriedOn rest reach binding calls (wholes heard) i
  pub right : PutRight rest reach binding calls heard
  pub answered : Answered rest reach binding calls heard

module _ (rest reach : ℕ) (enough : reach ≤ rest) (few : rest ≤ 11) {Message : Type 0} (binding : Binding Message) (back : ReadsBack binding) (calls : List (List ℕ)) where
  pub claimed : (heard : List (Item Message)) → Premises rest reach binding calls heard → Claim rest reach binding calls heard
  claimed heard premises =
      let s = shown rest reach binding calls (table-twenty rest few calls) (table-apart rest few calls) (Ends.read_back rest reach enough few binding back calls) heard premises in
      record {
        picture = s.picture;
        last = s.last;
        carried = λ i. rw s.marks (Ends.marked rest reach enough few binding back calls (wholes heard) (falling rest reach binding calls heard premises) i);
        right = right rest reach binding calls (table-twenty rest few calls) (table-apart rest few calls) (Ends.read_back rest reach enough few binding back calls) heard premises;
        answered = answered rest reach binding calls (table-twenty rest few calls) (table-apart rest few calls) (Ends.read_back rest reach enough few binding back calls) heard premises;
      }
