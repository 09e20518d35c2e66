-- Counting one answer after another comes to the counts of all that was told.
use Prim.Native.Nat.{ℕ, ◌+◌, ◌<◌, ◌≤◌}
use mathlib.Core.Path.{◌≡◌, refl, sym, ap, ◌∙◌}
use mathlib.Core.Bool.{Bool, true, false, cond, ◌&&◌}
use mathlib.Core.List.{List, [], ◌∷◌, ◌++◌, append-nil, append_assoc}
use lib.Dec.{eqb}
use lib.ListN.{length, get_or, set, length-append, length-set}
use lib.Seq.{get_or-set_same, get_or-set_other, ext_get_or}
use native.Mathlib.Omega.{arith}
use borrow.Author.Tests.{eqb-true, eqb-false, eq-eqb, ne_eqb}
use Rattle.kit.proofs.Cases.{on}
use Rattle.kit.proofs.Each.{length-one-each, one-each_at}
use Rattle.listener.specs.Answers.{Told}
use Rattle.summary.specs.Counts.{took_table, was_repeat, was_refused, refused_under, how_many_told, first_from, first_told, up_to_most, for_each_number, none_refused, refusals_told, tally_of}
use Rattle.summary.specs.Tallies.{one_more, known_or, more_if, refused_more, store_if, counted, counted_all}
use Rattle.summary.specs.declared.Refusals.{Refusals}

-- ---- one more at the end

module _ (such : Told → Bool) where
  many_more : (before : List Told) (told : Told) → how_many_told such (before ++ (told ∷ [])) ≡ how_many_told such before + cond (such told) 1 0
  unfolding how_many_told
  many_more [] told = omega arith
  many_more (t ∷ before) told = omega (arith, many_more before told)

  first_more : (place : ℕ) → 1 ≤ place → (before : List Told) (told : Told)
      → first_from place such (before ++ (told ∷ [])) ≡ known_or (first_from place such before) (cond (such told) (place + length before) 0)
  unfolding first_from
  first_more place some [] told = let same : place ≡ place + 0 = omega arith in ap (λ n. cond (such told) n 0) same
  first_more place some (t ∷ before) told =
      let next : place + 1 + length before ≡ place + length (t ∷ before) = omega arith in
      on (such t)
      (λ e. rw e (sym (ap (λ b. cond b (cond (such told) (place + length (t ∷ before)) 0) place) (ne_eqb place 0 (λ z. omega arith)))))
      (λ e. rw e (first_more (place + 1) (omega arith) before told ∙ ap (λ n. known_or (first_from (place + 1) such before) (cond (such told) n 0)) next))

  -- the counts, up to the greatest
  count_yes : (before : List Told) (told : Told) → such told ≡ true → one_more (up_to_most (how_many_told such before)) ≡ up_to_most (how_many_told such (before ++ (told ∷ [])))
  count_yes before told e = let one : ◌≡◌ {A = ℕ} (cond (such told) 1 0) 1 = rw e refl in omega (arith, many_more before told, one)

  count_no : (before : List Told) (told : Told) → such told ≡ false → up_to_most (how_many_told such before) ≡ up_to_most (how_many_told such (before ++ (told ∷ [])))
  count_no before told e = let none : ◌≡◌ {A = ℕ} (cond (such told) 1 0) 0 = rw e refl in omega (arith, many_more before told, none)

  count-more : (before : List Told) (told : Told) → more_if (such told) (up_to_most (how_many_told such before)) ≡ up_to_most (how_many_told such (before ++ (told ∷ [])))
  count-more before told = on (such told) (λ e. rw e (count_yes before told e)) (λ e. rw e (count_no before told e))

  first-yes : (before : List Told) (told : Told) → such told ≡ true
      → known_or (up_to_most (first_told such before)) (one_more (up_to_most (length before))) ≡ up_to_most (first_told such (before ++ (told ∷ [])))
  first-yes before told e =
      let known = first_told such before in
      let more : first_told such (before ++ (told ∷ [])) ≡ known_or known (1 + length before) =
      first_more 1 (omega arith) before told ∙ ap (λ b. known_or known (cond b (1 + length before) 0)) e in
      on (eqb known 0)
      (λ z.
      let none : known ≡ 0 = eqb-true known 0 z in
      ap (λ b. cond b (one_more (up_to_most (length before))) (up_to_most known)) (eq-eqb (up_to_most known) 0 (omega arith))
      ∙ sym (ap up_to_most (more ∙ ap (λ b. cond b (1 + length before) known) z) ∙ omega arith))
      (λ z.
      let some = eqb-false known 0 z in
      ap (λ b. cond b (one_more (up_to_most (length before))) (up_to_most known)) (ne_eqb (up_to_most known) 0 (λ w. some (omega arith)))
      ∙ sym (ap up_to_most (more ∙ ap (λ b. cond b (1 + length before) known) z)))

  first_no : (before : List Told) (told : Told) → such told ≡ false → up_to_most (first_told such before) ≡ up_to_most (first_told such (before ++ (told ∷ [])))
  first_no before told e =
      let known = first_told such before in
      let same : known_or known 0 ≡ known = on (eqb known 0) (λ z. ap (λ b. cond b 0 known) z ∙ sym (eqb-true known 0 z)) (λ z. ap (λ b. cond b 0 known) z) in
      sym (ap up_to_most (first_more 1 (omega arith) before told ∙ (ap (λ b. known_or known (cond b (1 + length before) 0)) e ∙ same)))

-- ---- a row of sixteen

module _ {A : Type 0} where
  pub row-long : (of : ℕ → A) → length (for_each_number of) ≡ 16
  unfolding for_each_number
  row-long of = length-one-each of 16

  pub row_at : (other : A) (of : ℕ → A) (number : ℕ) → number < 16 → get_or (for_each_number of) number other ≡ of number
  unfolding for_each_number
  row_at other of number inside = one-each_at of 16 other number inside

module _ {A : Type 0} (other : A) (of next : ℕ → A) where
  row_same : ((number : ℕ) → of number ≡ next number) → for_each_number of ≡ for_each_number next
  row_same same =
      ext_get_or other (for_each_number of) (for_each_number next) (row-long of ∙ sym (row-long next))
      (λ i p.
      let inside : i < 16 = omega (arith, row-long of) in
      row_at other of i inside ∙ (same i ∙ sym (row_at other next i inside)))

  -- one of them is stored anew; past the end nothing is
  row-set : (at : ℕ) (value : A) → (at < 16 → value ≡ next at) → ((number : ℕ) → (number ≡ at → ⊥) → of number ≡ next number) → set (for_each_number of) at value ≡ for_each_number next
  row-set at value own others =
      ext_get_or other (set (for_each_number of) at value) (for_each_number next) (length-set (for_each_number of) at value ∙ (row-long of ∙ sym (row-long next)))
      (λ i p.
      let inside : i < 16 = omega (arith, length-set (for_each_number of) at value, row-long of) in
      on (eqb i at)
      (λ e.
      let here : i ≡ at = eqb-true i at e in
      ap (λ k. get_or (set (for_each_number of) at value) k other) here
      ∙ (get_or-set_same (for_each_number of) at value other (omega (arith, row-long of))
      ∙ (own (omega arith) ∙ (ap next (sym here) ∙ sym (row_at other next i inside)))))
      (λ e.
      let there = eqb-false i at e in
      get_or-set_other (for_each_number of) at i value other there ∙ (row_at other of i inside ∙ (others i there ∙ sym (row_at other next i inside)))))

-- ---- one answer more

module _ (before : List Told) (told : Told) where
  abbrev all : List Told
  all = before ++ (told ∷ [])

  telegrams-more : one_more (up_to_most (length before)) ≡ up_to_most (length all)
  telegrams-more = omega (arith, length-append before (told ∷ []))

  -- under its own number, under another, and where it was not refused
  own-number : was_refused told ≡ true → refused_under told.number told ≡ true
  own-number e = ap (λ b. b && eqb told.number told.number) e ∙ eq-eqb told.number told.number refl

  other-number : (number : ℕ) → (number ≡ told.number → ⊥) → refused_under number told ≡ false
  other-number number there =
      ap (λ b. was_refused told && b) (ne_eqb told.number number (λ p. there (sym p))) ∙ on (was_refused told) (λ e. rw e refl) (λ e. rw e refl)

  no_number : was_refused told ≡ false → (number : ℕ) → refused_under number told ≡ false
  no_number e number = ap (λ b. b && eqb told.number number) e

  abbrev place : ℕ
  place = one_more (up_to_most (length before))

  -- under the number of its own one more, and under another the same
  refusals_more : (number : ℕ) → refused_under number told ≡ true → refused_more (refusals_told before number) place ≡ refusals_told all number
  refusals_more number e =
      let counts = count_yes (refused_under number) before told e in
      let places = first-yes (refused_under number) before told e in
      λ i. record { count = counts i; first = places i }

  refusals_stay : (number : ℕ) → refused_under number told ≡ false → refusals_told before number ≡ refusals_told all number
  refusals_stay number e =
      let counts = count_no (refused_under number) before told e in
      let places = first_no (refused_under number) before told e in
      λ i. record { count = counts i; first = places i }

  -- so the row is stored where it was refused, and else stays
  row-more : store_if (was_refused told) (for_each_number (refusals_told before)) told.number
      (refused_more (get_or (for_each_number (refusals_told before)) told.number none_refused) place)
      ≡ for_each_number (refusals_told all)
  row-more =
      let known = get_or (for_each_number (refusals_told before)) told.number none_refused in
      on (was_refused told)
      (λ e.
      rw e
      (row-set none_refused (refusals_told before) (refusals_told all) told.number (refused_more known place)
      (λ inside. ap (λ (r : Refusals). refused_more r place) (row_at none_refused (refusals_told before) told.number inside) ∙ refusals_more told.number (own-number e))
      (λ number there. refusals_stay number (other-number number there))))
      (λ e. rw e (row_same none_refused (refusals_told before) (refusals_told all) (λ number. refusals_stay number (no_number e number))))

  -- the counts of what was told, and one answer more
  pub counted_next : counted (tally_of before) told ≡ tally_of all
  unfolding counted tally_of
  counted_next =
      let tables = count-more took_table before told in
      let repeats = count-more was_repeat before told in
      λ i. record { telegrams = telegrams-more i; tables = tables i; repeats = repeats i; refused = row-more i }

-- and all answers, one after another
pub counted_all_lem : (before more : List Told) → counted_all (tally_of before) more ≡ tally_of (before ++ more)
unfolding counted_all
counted_all_lem before [] = ap tally_of (sym (append-nil before))
counted_all_lem before (told ∷ more) =
    ap (λ t. counted_all t more) (counted_next before told) ∙ (counted_all_lem (before ++ (told ∷ [])) more ∙ ap tally_of (append_assoc before (told ∷ []) more))
