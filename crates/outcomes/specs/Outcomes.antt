-- What a read or a write came to, and what follows.
use Rattle.std.specs.Prelude.{ℕ, Bool, true, false, cond, ltb}
use Rattle.outcomes.specs.declared.outcomes.State.{State}
use Rattle.outcomes.specs.declared.outcomes.State.TheVariants.{More, Again, Ended, Failed}

-- a read: some bytes came; or it failed, and is made again where a signal came before a byte; or there are no more
abbrev pub after_read : ℕ → Bool → Bool → State
after_read count failed interrupted = cond (ltb 0 count) More (cond failed (cond interrupted Again Failed) Ended)

-- a write of some bytes: some were taken; or a signal came before; or it failed, as one that takes nothing
abbrev pub after_write : ℕ → Bool → Bool → State
after_write count failed interrupted = cond (ltb 0 count) More (cond failed (cond interrupted Again Failed) Failed)

-- the call is made again
abbrev pub is_again : State → Bool
is_again More = false
is_again Again = true
is_again Ended = false
is_again Failed = false

-- it is told, and ends the program
abbrev pub is_failed : State → Bool
is_failed More = false
is_failed Again = false
is_failed Ended = false
is_failed Failed = true

-- the input has ended
abbrev pub is_ended : State → Bool
is_ended More = false
is_ended Again = false
is_ended Ended = true
is_ended Failed = false

-- nothing more is read
abbrev pub is_over : State → Bool
is_over More = false
is_over Again = false
is_over Ended = true
is_over Failed = true
