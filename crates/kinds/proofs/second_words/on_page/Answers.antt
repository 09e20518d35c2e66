-- `on_page`: the page in the code is that of the definitions, row for row. So far it has shown whether the type has a row, and no row that
-- has the word.
use Prim.Native.Nat.{ℕ, ◌<◌, ◌≤◌}
use mathlib.Core.Bool.{Bool, true, false, not, ◌||◌}
use mathlib.Core.Path.{◌≡◌, refl, sym, ap, ◌∙◌}
use lib.ListN.{length}
use native.Mathlib.Omega.{arith}
use borrow.Author.Rules.{rules}
use Rattle.kit.specs.Loops.{scan}
use Rattle.kit.proofs.Cases.{on}
use Rattle.kit.proofs.Loops.{any-more, any_when}
use Rattle.kinds.specs.SecondWords.{second_words, is_of, has_word, row_at, on_page}
use Rattle.kinds.proofs.second_words.on_page.Invariants.{among}
use Rattle.kinds.proofs.second_words.on_page.Goals as goal

-- the page has ten rows
ten : length second_words ≡ 10
unfolding second_words
ten = refl

-- a row that has the word, and the page's end without one
module _ (kind word : ℕ) where
  found : (i : ℕ) → i < 10 → has_word kind word (row_at i) ≡ true → on_page kind word ≡ true
  unfolding on_page
  found i p e =
      let some : among (has_word kind word) (length second_words) ≡ true = any_when (λ j. has_word kind word (row_at j)) 0 (length second_words) i (omega arith) (omega (arith, ten)) e in
      on (not (among (is_of kind) (length second_words))) (λ t. rw t refl) (λ t. rw (t, some) refl)

  unfound : (known : Bool) (i : ℕ) → 10 ≤ i → i ≤ 10 → known ≡ among (is_of kind) i → among (has_word kind word) i ≡ false → not known ≡ on_page kind word
  unfolding on_page
  unfound known i p q e none =
      let end : i ≡ length second_words = omega (arith, ten) in
      rw (ap (among (is_of kind)) (sym end) ∙ sym e, ap (among (has_word kind word)) (sym end) ∙ none) (on known (λ t. rw t refl) (λ t. rw t refl))

pub loop-row-init : goal.loop-row-init
unfolding scan
loop-row-init c = (omega arith, refl, refl)

pub returns-then-has_word : goal.returns-then-has_word
unfolding second_words
returns-then-has_word c = sym (found _ _ c.loop-row.row-index (search rules) (sym c.has_word.ensures ∙ c.if-has_word.true))

pub loop-row-preserved : goal.loop-row-preserved
unfolding second_words
loop-row-preserved c =
    let l = c.loop-row in
    let a = c.args in
    let unfit : has_word a.kind a.word (row_at l.row-index) ≡ false = sym c.has_word.ensures ∙ c.if-has_word.false in (
      search rules,
      ap (λ known. known || is_of a.kind (row_at l.row-index)) l.invariant.1 ∙ sym (any-more (λ j. is_of a.kind (row_at j)) l.row-index),
      any-more (λ j. has_word a.kind a.word (row_at j)) l.row-index ∙ rw (l.invariant.2, unfit) refl,
    )

pub returns : goal.returns
returns c = unfound _ _ _ _ (search rules) c.loop-row.invariant.0 c.loop-row.invariant.1 c.loop-row.invariant.2
