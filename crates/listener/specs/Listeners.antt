-- The listener: document 01, "The listener", sentence by sentence, and "Refusal numbers" on hearing. Where each of them is defined:
--
--   L-01  a telegram of the step last taken is a repeat: `is_last` (last_step/specs/LastSteps.antt), and the first row of `heard_of`
--   L-02  so is a second copy of a packet already held: `is_held` (hand/specs/Sets.antt), and the second row of `heard_of`
--   L-03  another step number drops an unfinished set and begins one: `set_for`, `begun`, `joined` (hand/specs/Sets.antt); until five
--         are held the third row of `heard_of`, with `holding`
--   L-04  when five are held the table is taken: `is_whole` (hand/specs/Sets.antt), `taken_by`, `told_of_table`, and `heard_of` where no row holds
--   L-05  the gap: `gap_of` (wire/specs/Steps.antt), `gap_from` (last_step/specs/LastSteps.antt)
--   L-06  carried or new: `is_same`, `is_known`, `is_carried`, `marks_of` (marks/specs/Marks.antt); up to a gap of 8: `carries`
--   L-07  a fresh listener's first table is all new: `is_carried` of the gap 0, which L-08 gives
--   L-08  its gap is reported as 0: `gap_from` (last_step/specs/LastSteps.antt) where no step was taken
--   L-09  a set whose numbers clash is refused at its fifth packet: `clashes` (picture/specs/Pictures.antt), and the fourth row of `heard_of`
--   L-10  that set is dropped, picture and last step stay: the fourth row of `heard_of`, with `holding`
--   L-11  no other refusal alters the listener: `after_reading`
--   R-15  number twice across the set: `is_twice`, `clashes` (picture/specs/Pictures.antt), `clash_row`
--   R-20  10, 11, then the first bad slot: `read_rows` (telegram/specs/Telegrams.antt), `after_reading`
--   R-21  the repeat rules after these, 15 last: `hear_rows`, and the order of `after_reading` and of the rows of `heard_of`
--
-- What an answer tells is said in Answers.antt (C-12).
use Rattle.std.specs.Prelude.{ℕ, Bool, false, not, ◌&&◌, None, Some, List, [], ◌∷◌, ◌++◌, get_or, replicate}
use Rattle.kit.specs.Ladder.{ladder}
use Rattle.condition.specs.Slots.{empty_slot, slot_count}
use Rattle.wire.specs.Verdicts.{Verdict, verdict_accepted, verdict_refused}
use Rattle.telegram.specs.Telegrams.{Reading, read_rows, read_of}
use Rattle.telegram.specs.declared.Telegram.{Telegram}
use Rattle.picture.specs.Pictures.{count_of, clashes}
use Rattle.marks.specs.Marks.{marks_of}
use Rattle.hand.specs.Sets.{begun, set_for, is_held, joined, is_whole}
use Rattle.last_step.specs.LastSteps.{is_last, gap_from}
use Rattle.listener.specs.Answers.{Told, Hearing, refused_as, as_repeat, as_held, taken_as}
use Rattle.listener.specs.declared.Listener.{Listener}
use Rattle.hand.specs.declared.Hand.{Hand}

-- L-06: an entry is carried over a gap of 1 to 8
abbrev pub carries : ℕ
carries = 8

-- A-20: a fresh listener: an empty picture, no step taken, and no set in hand. The set of step 0 with nothing in it stands for that:
-- it is how a set of step 0 begins, and any other step number drops it.
unfoldable pub fresh_listener : Listener
fresh_listener = record { picture = replicate slot_count empty_slot; marks = replicate slot_count false; last = None; hand = begun 0 }

-- L-03: the listener with another set in hand
abbrev pub holding : Listener → Hand → Listener
holding listener hand = record { picture = listener.picture; marks = listener.marks; last = listener.last; hand = hand }

-- L-04 to L-07: the listener that has taken a whole set: the set is the picture, each entry carried or new, and no set is in hand
unfoldable pub taken_by : ℕ → Listener → Hand → Listener
taken_by reach listener hand =
    record {
      picture = hand.slots;
      marks = marks_of reach (gap_from listener.last hand.step) listener.picture hand.slots;
      last = Some hand.step;
      hand = begun 0;
    }

-- L-04, L-05, C-09: what is told then: step number, conditions and gap
abbrev pub told_of_table : Listener → Hand → Told
told_of_table listener hand = taken_as hand.step (count_of hand.slots) (gap_from listener.last hand.step)

-- L-01: a telegram of the step last taken is a repeat and changes nothing
-- L-02: so is a second copy of a packet already held for the set in hand; the first stands
-- L-03: any other telegram joins the set in hand, or drops it and begins one; until five are held it is held
-- L-09, L-10, R-15, R-21: a set whose numbers clash is refused last: it is dropped, and picture and last step stay
-- L-04: otherwise the table is taken
unfoldable pub heard_of : ℕ → Listener → Telegram → Hearing
heard_of reach listener t =
    let own = set_for listener.hand t.step in
    let with_it = joined own t in
    ladder (record { told = told_of_table listener with_it; listener = taken_by reach listener with_it })
    ((is_last listener.last t.step, record { told = as_repeat; listener = listener })
    ∷ (is_held own t.packet, record { told = as_repeat; listener = listener })
    ∷ (not (is_whole with_it), record { told = as_held; listener = holding listener with_it })
    ∷ (clashes with_it.slots, record { told = refused_as 15; listener = holding listener (begun 0) })
    ∷ [])

-- R-20, R-21, L-11: what the reader refuses is refused under the same number, and changes nothing; all else comes after
abbrev pub after_reading : Verdict → ℕ → Listener → Telegram → Hearing
after_reading (verdict_refused number) reach listener t = record { told = refused_as number; listener = listener }
after_reading verdict_accepted reach listener t = heard_of reach listener t

-- M-1b: the answer to what was read from a telegram, and the next listener
unfoldable pub hear_of : ℕ → Listener → Reading → Hearing
hear_of reach listener reading = after_reading reading.verdict reach listener reading.telegram

-- R-26: the listener that has heard these bytes, the newest first
unfoldable pub heard_all : ℕ → List (List ℕ) → Listener
heard_all reach [] = fresh_listener
heard_all reach (bytes ∷ earlier) = (hear_of reach (heard_all reach earlier) (read_of bytes)).listener

-- ---- refusals in the paper's numbers

-- R-15, R-21: number twice across the set, judged last: of a telegram that is no repeat and the fifth of its set
abbrev pub clash_row : Listener → Telegram → List (Bool × ℕ)
clash_row listener t =
    let own = set_for listener.hand t.step in
    let with_it = joined own t in
    (not (is_last listener.last t.step) && (not (is_held own t.packet) && (is_whole with_it && clashes with_it.slots)), 15) ∷ []

-- R-20, R-21: hearing: 10, 11, then the first bad slot, within it 12, 13, 6, 14; 15 last
abbrev pub hear_rows : Listener → List ℕ → List (Bool × ℕ)
hear_rows listener bytes = read_rows bytes ++ clash_row listener (read_of bytes).telegram

-- L-06: the mark of slot i; past the table's end, false
abbrev pub mark_at : List Bool → ℕ → Bool
mark_at marks i = get_or marks i false
