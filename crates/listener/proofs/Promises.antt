-- What the listener promises of every telegram, whatever it holds (demand 1): a refusal is given exactly when its row holds and none
-- earlier does, the reader's rows before the repeat rules and 15 last; and only 15 alters the listener, by dropping the set in hand.
use Prim.Native.Nat.{ℕ, ◌≤◌}
use mathlib.Core.Path.{◌≡◌, refl, sym, ap, ◌∙◌, subst}
use mathlib.Core.Logic.{◌⊎◌, inl, inr, ◌↔◌}
use mathlib.Core.List.{List}
use native.Mathlib.Omega.{arith}
use Rattle.kit.specs.Ladder.{ladder, Decides, NoneHolds, Numbered}
use Rattle.kit.proofs.Cases.{on}
use Rattle.kit.proofs.Ladder.{ladder_decides, ladder-silent, climb, ladder_append, decides_append, numbered_append, decides_such, decides_positive, refused-exactly}
use Rattle.telegram.specs.Telegrams.{read_rows, read_of}
use Rattle.telegram.specs.declared.Telegram.{Telegram}
use Rattle.telegram.proofs.Refusals.{reading_refused, reading_accepted}
use Rattle.telegram.proofs.Rows.{read-numbered, read-to_14}
use Rattle.picture.specs.Pictures.{clashes}
use Rattle.hand.specs.Sets.{begun, set_for, is_held, joined, is_whole}
use Rattle.last_step.specs.LastSteps.{is_last}
use Rattle.listener.specs.Answers.{Told, Hearing, refused_as, as_repeat, as_held}
use Rattle.listener.specs.Listeners.{holding, told_of_table, taken_by, heard_of, hear_of, clash_row, hear_rows}
use Rattle.listener.specs.declared.Listener.{Listener}
use Rattle.hand.specs.declared.Hand.{Hand}
use Rattle.listener.proofs.Answers.{repeat_or_refused, held_or_refused, taken_or_refused}
use Rattle.listener.proofs.Hearing.{hear-refused, hear_as, heard-last, heard_copy, heard-part, heard-clash, heard-taken}

module _ (reach : ℕ) (listener : Listener) where
  module _ (t : Telegram) where
    abbrev set : Hand
    set = set_for listener.hand t.step

    abbrev with_it : Hand
    with_it = joined set t

    -- every telegram that the reader accepts goes one of four ways, and is refused in one of them
    pub ways : (P : Hearing → ℕ → Type 0) → P (record { told = as_repeat; listener = listener }) 0 → P (record { told = as_held; listener = holding listener with_it }) 0
        → P (record { told = refused_as 15; listener = holding listener (begun 0) }) 15 → P (record { told = told_of_table listener with_it; listener = taken_by reach listener with_it }) 0
        → P (heard_of reach listener t) (ladder 0 (clash_row listener t))
    ways P repeat part clash taken =
        on (is_last listener.last t.step)
        (λ a. both (heard-last reach listener t a) (ladder-silent 0 (clash_row listener t) (rw a refl, tt)) repeat)
        (λ a.
        on (is_held set t.packet)
        (λ b. both (heard_copy reach listener t a b) (ladder-silent 0 (clash_row listener t) (rw (a, b) refl, tt)) repeat)
        (λ b.
        on (is_whole with_it)
        (λ c.
        on (clashes with_it.slots)
        (λ d. both (heard-clash reach listener t a b c d) (ladder_decides 0 15 (clash_row listener t) (inl (rw (a, b, c, d) refl, refl))) clash)
        (λ d. both (heard-taken reach listener t a b c d) (ladder-silent 0 (clash_row listener t) (rw (a, b, c, d) refl, tt)) taken))
        (λ c. both (heard-part reach listener t a b c) (ladder-silent 0 (clash_row listener t) (rw (a, b, c) refl, tt)) part)))
      where
        both : {h : Hearing} {n : ℕ} → heard_of reach listener t ≡ h → ladder 0 (clash_row listener t) ≡ n → P h n → P (heard_of reach listener t) (ladder 0 (clash_row listener t))
        both {h} {n} e f p = subst (λ x. P x (ladder 0 (clash_row listener t))) (sym e) (subst (P h) (sym f) p)

  module _ (bytes : List ℕ) where
    -- what the listener tells, and what it is then
    abbrev heard : Hearing
    heard = hear_of reach listener (read_of bytes)

    -- R-20, R-21: the number that is given is that of the first row that holds
    pub number-given : heard.told.number ≡ ladder 0 (hear_rows listener bytes)
    number-given = go (climb 0 (read_rows bytes))
      where
        go : Decides (read_rows bytes) (ladder 0 (read_rows bytes)) ⊎ NoneHolds (read_rows bytes) → heard.told.number ≡ ladder 0 (hear_rows listener bytes)
        go (inl d) =
            let number : ℕ = ladder 0 (read_rows bytes) in
            ap (λ (h : Hearing). h.told.number) (hear-refused reach listener (read_of bytes) number ((reading_refused bytes number).1 d))
            ∙ sym (ladder_append 0 (read_rows bytes) (clash_row listener (read_of bytes).telegram) ∙ ladder_decides (ladder 0 (clash_row listener (read_of bytes).telegram)) number (read_rows bytes) d)
        go (inr s) =
            ap (λ (h : Hearing). h.told.number) (hear_as reach listener (read_of bytes) ((reading_accepted bytes).1 s))
            ∙ (ways (read_of bytes).telegram (λ h n. h.told.number ≡ n) refl refl refl refl
            ∙ sym (ladder_append 0 (read_rows bytes) (clash_row listener (read_of bytes).telegram) ∙ ladder-silent (ladder 0 (clash_row listener (read_of bytes).telegram)) (read_rows bytes) s))

    rows_numbered : Numbered (hear_rows listener bytes)
    rows_numbered = numbered_append (read_rows bytes) (clash_row listener (read_of bytes).telegram) (read-numbered bytes) (omega arith)

    -- a refusal has a number above 0
    positive : (number : ℕ) → heard.told ≡ refused_as number → 1 ≤ number
    positive number e = go (climb 0 (read_rows bytes))
      where
        go : Decides (read_rows bytes) (ladder 0 (read_rows bytes)) ⊎ NoneHolds (read_rows bytes) → 1 ≤ number
        go (inl d) =
            let own : refused_as (ladder 0 (read_rows bytes)) ≡ refused_as number =
            sym (ap (λ (h : Hearing). h.told) (hear-refused reach listener (read_of bytes) (ladder 0 (read_rows bytes)) ((reading_refused bytes (ladder 0 (read_rows bytes))).1 d))) ∙ e in
            omega (arith, ap (λ (told : Told). told.number) own, decides_positive (read_rows bytes) (ladder 0 (read_rows bytes)) (read-numbered bytes) d)
        go (inr s) =
            ways (read_of bytes).telegram (λ h n. h.told ≡ refused_as number → 1 ≤ number) (λ f. absurd (repeat_or_refused number f)) (λ f. absurd (held_or_refused number f))
            (λ f. omega (arith, ap (λ (told : Told). told.number) f))
            (λ f. absurd (taken_or_refused _ _ _ number f)) (sym (ap (λ (h : Hearing). h.told) (hear_as reach listener (read_of bytes) ((reading_accepted bytes).1 s))) ∙ e)

    -- R-24, L-11: what the reader refuses changes nothing
    pub refused-unchanged : (number : ℕ) → Decides (read_rows bytes) number → heard ≡ record { told = refused_as number; listener = listener }
    refused-unchanged number d = hear-refused reach listener (read_of bytes) number ((reading_refused bytes number).1 d)

    -- L-09, L-10: 15 drops the set in hand; picture, marks and last step stay
    pub clash_drops : NoneHolds (read_rows bytes) → Decides (clash_row listener (read_of bytes).telegram) 15 → heard ≡ record { told = refused_as 15; listener = holding listener (begun 0) }
    clash_drops s d =
        hear_as reach listener (read_of bytes) ((reading_accepted bytes).1 s)
        ∙ ways (read_of bytes).telegram (λ h n. n ≡ 15 → h ≡ record { told = refused_as 15; listener = holding listener (begun 0) })
        (λ e. absurd (omega arith)) (λ e. absurd (omega arith)) (λ e. refl) (λ e. absurd (omega arith))
        (ladder_decides 0 15 (clash_row listener (read_of bytes).telegram) d)

    -- R-23: a refusal is given when its row holds and nothing earlier does, and never else
    pub refused_when : (number : ℕ) → (heard.told ≡ refused_as number) ↔ Decides (hear_rows listener bytes) number
    refused_when number = (
      λ e. (refused-exactly (hear_rows listener bytes) rows_numbered number (positive number e)).0 (sym number-given ∙ ap (λ (told : Told). told.number) e),
      λ d. go (decides_append (read_rows bytes) (clash_row listener (read_of bytes).telegram) number d),
    )
      where
        go : Decides (read_rows bytes) number ⊎ (NoneHolds (read_rows bytes) × Decides (clash_row listener (read_of bytes).telegram) number) → heard.told ≡ refused_as number
        go (inl d) = ap (λ (h : Hearing). h.told) (refused-unchanged number d)
        go (inr (s, inl (holds, own))) = ap (λ (h : Hearing). h.told) (clash_drops s (inl (holds, refl))) ∙ ap refused_as own
        go (inr (s, inr (holds, none))) = absurd none

    -- which of the two it was
    by_whom : (number : ℕ) → heard.told ≡ refused_as number → Decides (read_rows bytes) number ⊎ (NoneHolds (read_rows bytes) × Decides (clash_row listener (read_of bytes).telegram) number)
    by_whom number e = decides_append (read_rows bytes) (clash_row listener (read_of bytes).telegram) number ((refused_when number).0 e)

    -- M-1f, L-11, R-24: so a refusal under another number than 15 changes nothing
    pub others-unchanged : (number : ℕ) → (number ≡ 15 → ⊥) → heard.told ≡ refused_as number → heard.listener ≡ listener
    others-unchanged number other e = go (by_whom number e)
      where
        go : Decides (read_rows bytes) number ⊎ (NoneHolds (read_rows bytes) × Decides (clash_row listener (read_of bytes).telegram) number) → heard.listener ≡ listener
        go (inl d) = ap (λ (h : Hearing). h.listener) (refused-unchanged number d)
        go (inr (s, inl (holds, own))) = absurd (other (sym own))
        go (inr (s, inr (holds, none))) = absurd none

    -- M-1f, L-10: and 15 drops the set in hand, and leaves the rest
    pub fifteen_drops : heard.told ≡ refused_as 15 → heard.listener ≡ holding listener (begun 0)
    fifteen_drops e = go (by_whom 15 e)
      where
        go : Decides (read_rows bytes) 15 ⊎ (NoneHolds (read_rows bytes) × Decides (clash_row listener (read_of bytes).telegram) 15) → heard.listener ≡ holding listener (begun 0)
        go (inl d) = let low = decides_such (λ n. n ≤ 14) (read_rows bytes) 15 (read-to_14 bytes) d in absurd (omega arith)
        go (inr (s, d)) = ap (λ (h : Hearing). h.listener) (clash_drops s d)
