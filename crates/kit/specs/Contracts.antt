-- What a contract says of a public function, whoever calls it and with whatever.
--
-- A function's `Learnt` is what its contract lets a caller conclude of an outcome: its `ensures` in plain terms, made by the checker
-- from the source, as the function's `ended` is of its parameters. So what is proved of `Learnt` is proved of the contract itself, and
-- no text of ours says a contract again.
use Rattle.std.specs.Prelude.{◌≡◌}
use contract.Lifetimes.{Lfts}
use denote.Triple.Entry.{Args, Res}
use denote.Triple.Clauses.{Ended, Lasts, AtExit, at_exit}

module _ (ended : Ended) where
  -- of the lifetimes of what is lent, what is handed in, the answer, and what was handed in as it stands at the end
  abbrev pub Contract : Type 1
  Contract = (κs : Lfts ended.signature.lifetimes) → Args ended.signature κs → Res ended.signature κs → AtExit ended κs → Type 0

  -- an outcome is the answer, which has the next state where there is one, and the last value of each thing that is lent to be changed.
  -- The contract promises this of every outcome that it allows.
  abbrev pub Promised : Contract → ((κs : Lfts ended.signature.lifetimes) (handed : Args ended.signature κs) → Res ended.signature κs → Lasts ended κs handed → Type 0) → Type 0
  Promised contract Such =
      (κs : Lfts ended.signature.lifetimes) (handed : Args ended.signature κs) (answer : Res ended.signature κs) (lasts : Lasts ended κs handed)
      → contract κs handed answer (at_exit ended κs handed lasts)
      → Such κs handed answer lasts

  -- C-01 to C-04: it admits one answer: two outcomes that it allows are the same
  abbrev pub OneAnswer : Contract → Type 0
  OneAnswer contract =
      (κs : Lfts ended.signature.lifetimes) (handed : Args ended.signature κs) (answer other : Res ended.signature κs) (lasts others : Lasts ended κs handed)
      → contract κs handed answer (at_exit ended κs handed lasts)
      → contract κs handed other (at_exit ended κs handed others)
      → (answer ≡ other) × (lasts ≡ others)
