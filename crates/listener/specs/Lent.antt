-- A listener in lent memory: which listener the bytes mean, the bytes of a listener, and which bytes stand there after a hearing. The rules
-- of hearing are those of Listeners.antt; memory/specs/Memory.antt says where things stand.
use Rattle.std.specs.Prelude.{ℕ, ◌≡◌, Bool, cond, List, ◌++◌, map, eqb}
use Rattle.telegram.specs.Telegrams.{step_in, read_of}
use Rattle.memory.specs.Memory.{flag_byte, table_bytes, picture_in, marks_in, set_in, with_marks, with_picture}
use Rattle.picture.specs.Pictures.{count_of, clashes}
use Rattle.marks.specs.Marks.{marks_of}
use Rattle.hand.specs.Lent.{hand_in, hand_bytes, begun_in, joined_in}
use Rattle.hand.specs.Sets.{is_whole}
use Rattle.last_step.specs.LastSteps.{gap_from}
use Rattle.last_step.specs.Lent.{last_in, last_bytes, with_last}
use Rattle.listener.specs.Answers.{Outcome, a_refusal, a_repeat, a_part, a_table, Told, Hearing, refused_as, as_held, taken_as, told_of}
use Rattle.listener.specs.Listeners.{hear_of}
use Rattle.listener.specs.declared.Answer.{Answer}
use Rattle.listener.specs.declared.Listener.{Listener}

-- ---- what the memory means

-- the listener
unfoldable pub listener_in : List ℕ → Listener
listener_in memory = record { picture = picture_in memory; marks = marks_in memory; last = last_in memory; hand = hand_in memory }

-- its bytes
unfoldable pub listener_bytes : Listener → List ℕ
listener_bytes listener =
    table_bytes listener.picture
    ++ (map flag_byte listener.marks ++ (last_bytes listener.last ++ hand_bytes listener.hand))

-- ---- which bytes stand there

-- the memory that a telegram of this step number goes into: as it is if its set has that number, else with a set that begins
unfoldable pub memory_for : List ℕ → ℕ → List ℕ
memory_for memory step = cond (eqb (hand_in memory).step step) memory (begun_in memory step)

-- that memory with the telegram in it
abbrev pub taken_with : List ℕ → List ℕ → List ℕ
taken_with memory telegram = joined_in (memory_for memory (step_in telegram)) telegram

-- the memory when its set, of this step number, has become the picture with these marks
unfoldable pub shifted_in : List ℕ → ℕ → List Bool → List ℕ
shifted_in memory step marks = begun_in (with_last (with_picture (with_marks memory marks)) step) 0

-- the same with the step number and the marks that are the set's own
unfoldable pub taken_in : ℕ → List ℕ → List ℕ
taken_in reach memory =
    shifted_in memory (hand_in memory).step (marks_of reach (gap_from (last_in memory) (hand_in memory).step) (picture_in memory) (set_in memory))

-- the memory after an answer of this outcome and number. Refusal 15 alone drops the set.
abbrev pub memory_by : Outcome → ℕ → ℕ → List ℕ → List ℕ → List ℕ
memory_by a_refusal number reach memory telegram = cond (eqb number 15) (begun_in (taken_with memory telegram) 0) memory
memory_by a_repeat number reach memory telegram = memory
memory_by a_part number reach memory telegram = taken_with memory telegram
memory_by a_table number reach memory telegram = taken_in reach (taken_with memory telegram)

-- the memory after what an answer tells
abbrev pub memory_after : ℕ → Told → List ℕ → List ℕ → List ℕ
memory_after reach told memory telegram = memory_by told.outcome told.number reach memory telegram

-- What a hearing leaves: what is told and the listener that the memory then means are those of `heard`, and every byte is determined.
pub record LeftBy (reach : ℕ) (heard : Hearing) (memory telegram : List ℕ) (told : Told) (after : List ℕ) : Type 0 where
  pub meant : ◌≡◌ {A = Hearing} (record { told = told; listener = listener_in after }) heard
  pub bytes : after ≡ memory_after reach told memory telegram

-- M-1b: hearing takes the listener that the memory means to the next one
abbrev pub HeardIn : ℕ → List ℕ → List ℕ → Answer → List ℕ → Type 0
HeardIn reach memory telegram answer after = LeftBy reach (hear_of reach (listener_in memory) (read_of telegram)) memory telegram (told_of answer) after

-- ---- the parts of a hearing, on the memory

-- what is told, and the memory after it
pub record Left : Type 0 where
  pub told : Told
  pub memory : List ℕ

-- a whole set is taken
unfoldable pub taken_left : ℕ → List ℕ → Left
taken_left reach memory =
    record {
      told = taken_as (hand_in memory).step (count_of (set_in memory)) (gap_from (last_in memory) (hand_in memory).step);
      memory = taken_in reach memory;
    }

-- a whole set is refused, or taken
unfoldable pub judged_left : ℕ → List ℕ → Left
judged_left reach memory = cond (clashes (set_in memory)) (record { told = refused_as 15; memory = begun_in memory 0 }) (taken_left reach memory)

-- a telegram goes into the set, which is judged once it is whole
unfoldable pub added_left : ℕ → List ℕ → List ℕ → Left
added_left reach memory telegram =
    cond (is_whole (hand_in (joined_in memory telegram)))
    (judged_left reach (joined_in memory telegram))
    (record { told = as_held; memory = joined_in memory telegram })
