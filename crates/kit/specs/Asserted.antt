-- What a contract says of a function that is lent a record to change it. In plain words it is what Contracts.antt says of the others:
-- `PromisedLent` that each outcome that the contract allows is such, `OneAnswerLent` that the contract allows one outcome.
--
-- It takes more words here because the `ensures` of such a contract is an assertion about memory, over a model of the machine: the algebra
-- `𝓤` of what can be owned, the heap and the atoms with the laws that they keep, which are the record `𝓛`, and what the model says of
-- memory and of routines, `mem` and `run`. `ent 𝓤 said (fact 𝓤 φ)` reads: wherever `said` is asserted, φ is a fact. So what is promised is
-- what follows from the contract in every model, whatever the model is. The checker makes a `Learnt`, a plain fact, of such a contract too;
-- one_answer/proofs/Train.antt has it beside this.
--
-- One spelt out: `signals_in_place::update(held, present, telegram)`, which is lent a record of signals. Its contract says that the answer
-- and the record afterwards are those that `update_of` gives for the record before, `present` and the telegram's bytes. So
-- `OfUpdateLent Such` of claims/specs/Functions.antt says: for every record before, with or without a telegram, for all its bytes, and for
-- every answer and every record afterwards that are those of `update_of`, `Such before present telegram answer after`. `handed` is the
-- record before, `present` and the telegram, `lasts` the record afterwards, and `ghost` what a contract may carry for proofs alone: here
-- nothing. claims/proofs/Functions.antt `update-lent-says` proves that this plain sentence is enough for the promise.
use Rattle.std.specs.Prelude.{◌≡◌}
use seplogic.Ra.Ura.{Ura}
use base.Logic.{SProp, ent}
use prog.Memory.{Memory}
use prog.Routine.{Routine}
use types.Logic.{Logic}
use contract.Lifetimes.{Lfts}
use contract.Monad.{Fun, conj, fact}
use denote.Triple.Entry.{Args, Res}
use denote.Triple.Clauses.{Ended, Clauses, Lasts, at_exit}

module _ (ended : Ended) where
  abbrev pub Assertions : Type 2
  Assertions = (M : Type 1) (𝓤 : Ura M) (𝓛 : Logic 𝓤) → (Memory → SProp 𝓤) → (Routine → Fun 𝓤) → Clauses 𝓤 ended

  module _ (clauses : Assertions) where
    -- it promises this of every outcome that it allows
    abbrev pub PromisedLent : ((κs : Lfts ended.signature.lifetimes) (handed : Args ended.signature κs) → Res ended.signature κs → Lasts ended κs handed → Type 0) → Type 2
    PromisedLent Such =
        (M : Type 1) (𝓤 : Ura M) (𝓛 : Logic 𝓤) (mem : Memory → SProp 𝓤) (run : Routine → Fun 𝓤)
        (κs : Lfts ended.signature.lifetimes) (handed : Args ended.signature κs) (ghost : (clauses M 𝓤 𝓛 mem run κs handed).ghost)
        (answer : Res ended.signature κs) (lasts : Lasts ended κs handed)
        → ent 𝓤 ((clauses M 𝓤 𝓛 mem run κs handed).ensures ghost answer (at_exit ended κs handed lasts)) (fact 𝓤 (Such κs handed answer lasts))

    -- C-01 to C-04: it admits one answer
    abbrev pub OneAnswerLent : Type 2
    OneAnswerLent =
        (M : Type 1) (𝓤 : Ura M) (𝓛 : Logic 𝓤) (mem : Memory → SProp 𝓤) (run : Routine → Fun 𝓤)
        (κs : Lfts ended.signature.lifetimes) (handed : Args ended.signature κs) (ghost : (clauses M 𝓤 𝓛 mem run κs handed).ghost)
        (answer other : Res ended.signature κs) (lasts others : Lasts ended κs handed)
        → ent 𝓤
        (conj 𝓤
        ((clauses M 𝓤 𝓛 mem run κs handed).ensures ghost answer (at_exit ended κs handed lasts))
        ((clauses M 𝓤 𝓛 mem run κs handed).ensures ghost other (at_exit ended κs handed others)))
        (fact 𝓤 ((answer ≡ other) × (lasts ≡ others)))
