-- Laws of calls that stand one after another, by the size of the first: one whole call and then those of what stands behind it, or none.
-- How many calls a definition allows at the most does not show in them.
use Prim.Native.Nat.{ℕ, zero, suc, ◌-◌, ◌<◌, ◌≤◌}
use mathlib.Core.Path.{◌≡◌, refl, sym, ap, ◌∙◌}
use mathlib.Core.Bool.{true, false, cond}
use mathlib.Core.List.{List, [], ◌∷◌}
use lib.Dec.{eqb, ltb}
use lib.ListN.{length, take, drop, length-drop}
use native.Mathlib.Omega.{arith}
use borrow.Author.Tests.{eqb-false, leb-true, leb-false, lt-leb, lt-ltb, le-ltb}
use Rattle.std.specs.Prelude.{Some}
use Rattle.kit.specs.Bytes.{word_at}
use Rattle.kit.proofs.Cases.{on}
use Rattle.frames.specs.Frames.{follows, size_of, is_whole_frame, whole_size, size_given, first_of, behind, framed_up_to, calls_of, left_up_to, left_of, is_short, short_tail}

-- ---- the size of the first call

pub size_two : (bare : ℕ) (input : List ℕ) → 2 ≤ size_of bare input
unfolding size_of
size_two bare input = omega arith

pub whole-fits : (bare : ℕ) (input : List ℕ) → is_whole_frame bare input ≡ true → size_of bare input ≤ length input
unfolding is_whole_frame
whole-fits bare input e = leb-true (size_of bare input) (length input) e

part_breaks : (bare : ℕ) (input : List ℕ) → is_whole_frame bare input ≡ false → length input < size_of bare input
unfolding is_whole_frame
part_breaks bare input e = leb-false (size_of bare input) (length input) e

pub behind_shorter : (bare : ℕ) (input : List ℕ) (most : ℕ) → is_whole_frame bare input ≡ true → length input ≤ suc most → length (behind bare input) ≤ most
unfolding behind
behind_shorter bare input most e h =
    omega (arith, size_two bare input, whole-fits bare input e, length-drop (size_of bare input) input)

pub none_left : (bare : ℕ) (input : List ℕ) → length input ≤ 0 → is_whole_frame bare input ≡ false
unfolding is_whole_frame
none_left bare input h = lt-leb (size_of bare input) (length input) (omega (arith, size_two bare input))

-- ---- as many calls as there are bytes are always enough

enough : (bare a b : ℕ) (input : List ℕ) → length input ≤ a → length input ≤ b → (framed_up_to bare a input ≡ framed_up_to bare b input) × (left_up_to bare a input ≡ left_up_to bare b input)
unfolding framed_up_to left_up_to
enough bare zero zero input p q = (refl, refl)
enough bare zero (suc b) input p q = rw (none_left bare input p) (refl, refl)
enough bare (suc a) zero input p q = rw (none_left bare input q) (refl, refl)
enough bare (suc a) (suc b) input p q =
    on (is_whole_frame bare input)
    (λ e.
    let later = enough bare a b (behind bare input) (behind_shorter bare input a e p) (behind_shorter bare input b e q) in
    rw e (ap (λ l. first_of bare input ∷ l) later.0, later.1))
    (λ e. rw e (refl, refl))

calls_whole : (bare : ℕ) (input : List ℕ) → is_whole_frame bare input ≡ true → calls_of bare input ≡ first_of bare input ∷ calls_of bare (behind bare input)
unfolding framed_up_to calls_of
calls_whole bare input e =
    (enough bare (length input) (suc (length input)) input (omega arith) (omega arith)).0
    ∙ rw e (ap (λ l. first_of bare input ∷ l) (enough bare (length input) (length (behind bare input)) (behind bare input) (behind_shorter bare input (length input) e (omega arith)) (omega arith)).0)

calls_part : (bare : ℕ) (input : List ℕ) → is_whole_frame bare input ≡ false → calls_of bare input ≡ []
unfolding framed_up_to calls_of
calls_part bare input e = (enough bare (length input) (suc (length input)) input (omega arith) (omega arith)).0 ∙ rw e refl

left-whole : (bare : ℕ) (input : List ℕ) → is_whole_frame bare input ≡ true → left_of bare input ≡ left_of bare (behind bare input)
unfolding left_up_to left_of
left-whole bare input e =
    (enough bare (length input) (suc (length input)) input (omega arith) (omega arith)).1
    ∙ rw e (enough bare (length input) (length (behind bare input)) (behind bare input) (behind_shorter bare input (length input) e (omega arith)) (omega arith)).1

left-part : (bare : ℕ) (input : List ℕ) → is_whole_frame bare input ≡ false → left_of bare input ≡ input
unfolding left_up_to left_of
left-part bare input e = (enough bare (length input) (suc (length input)) input (omega arith) (omega arith)).1 ∙ rw e refl

-- ---- what a reader of calls goes by, who knows the size

-- what the code's answer says of it
pub size_some : {size : ℕ} (known : ℕ) → Some size ≡ size_given known → (size ≡ known) × (1 ≤ size)
size_some {size = size} known e =
    on (eqb known 0)
    (λ z. absurd (let h = rw z at e in cc))
    (λ z. let h = rw z at e in let same : size ≡ known = cc in (same, omega (arith, eqb-false known 0 z)))

size-known : (bare : ℕ) (input : List ℕ) → 1 ≤ whole_size bare input → (is_whole_frame bare input ≡ true) × (whole_size bare input ≡ size_of bare input)
unfolding whole_size
size-known bare input h = on (is_whole_frame bare input) (λ e. (e, rw e refl)) (λ e. absurd (let z : whole_size bare input ≡ 0 = rw e refl in omega arith))

size-unknown : (bare : ℕ) (input : List ℕ) → whole_size bare input ≡ 0 → is_whole_frame bare input ≡ false
unfolding whole_size
size-unknown bare input h =
    on (is_whole_frame bare input)
    (λ e. absurd (let z : whole_size bare input ≡ size_of bare input = rw e refl in omega (arith, size_two bare input)))
    (λ e. e)

module _ (bare : ℕ) (input : List ℕ) (size : ℕ) (sized : size ≡ whole_size bare input) where
  module _ (some : 1 ≤ size) where
    here : (is_whole_frame bare input ≡ true) × (size ≡ size_of bare input)
    here = let known = size-known bare input (omega arith) in (known.0, sized ∙ known.1)

    -- a call has a length, and no more bytes than there are
    pub size_bounds : (2 ≤ size) × (size ≤ length input)
    size_bounds = (omega (arith, size_two bare input, here.1), omega (arith, whole-fits bare input here.0, here.1))

    behind-size : behind bare input ≡ drop size input
    unfolding behind
    behind-size = ap (λ k. drop k input) (sym here.1)

    first-size : first_of bare input ≡ (word_at input 0, take (size - 2) (drop 2 input))
    unfolding first_of size_of
    first-size =
        let e : follows bare (word_at input 0) ≡ size - 2 = omega (arith, here.1) in
        ap (λ k. (word_at input 0, take k (drop 2 input))) e

    -- one call and those behind it
    pub calls_more : calls_of bare input ≡ (word_at input 0, take (size - 2) (drop 2 input)) ∷ calls_of bare (drop size input)
    calls_more = calls_whole bare input here.0 ∙ (ap (λ f. f ∷ calls_of bare (behind bare input)) first-size ∙ ap (λ l. (word_at input 0, take (size - 2) (drop 2 input)) ∷ calls_of bare l) behind-size)

    pub left-more : left_of bare input ≡ left_of bare (drop size input)
    left-more = left-whole bare input here.0 ∙ ap (left_of bare) behind-size

    short-more : is_short bare input ≡ is_short bare (drop size input)
    unfolding is_short
    short-more = ap (λ l. ltb 0 (length l)) left-more

    pub tail_more : (line : List ℕ) → short_tail bare line input ≡ short_tail bare line (drop size input)
    unfolding short_tail
    tail_more line = ap (λ b. cond b line []) short-more

  module _ (none : size ≡ 0) where
    -- no call, and all is left
    pub calls_none : calls_of bare input ≡ []
    calls_none = calls_part bare input (size-unknown bare input (sym sized ∙ none))

    pub left-none : left_of bare input ≡ input
    left-none = left-part bare input (size-unknown bare input (sym sized ∙ none))

    short_none : 1 ≤ length input → is_short bare input ≡ true
    unfolding is_short
    short_none h = ap (λ l. ltb 0 (length l)) left-none ∙ lt-ltb 0 (length input) h

    pub tail-short : (line : List ℕ) → 1 ≤ length input → short_tail bare line input ≡ line
    unfolding short_tail
    tail-short line h = ap (λ b. cond b line []) (short_none h)

-- so of a size that the code's answer gives
pub call_bounds : {size : ℕ} (bare : ℕ) (input : List ℕ) → Some size ≡ size_given (whole_size bare input) → (2 ≤ size) × (size ≤ length input)
call_bounds {size = size} bare input e = let known = size_some (whole_size bare input) e in size_bounds bare input size known.0 known.1

-- at the end there is no call, and nothing is left
module _ (bare : ℕ) (input : List ℕ) (end : length input ≡ 0) where
  pub calls_end : calls_of bare input ≡ []
  calls_end = calls_part bare input (none_left bare input (omega arith))

  short-end : is_short bare input ≡ false
  unfolding is_short
  short-end = ap (λ l. ltb 0 (length l)) (left-part bare input (none_left bare input (omega arith))) ∙ le-ltb 0 (length input) (omega arith)

  pub tail-end : (line : List ℕ) → short_tail bare line input ≡ []
  unfolding short_tail
  tail-end line = ap (λ b. cond b line []) short-end

-- ---- how much there is at most

pub calls_few : (bare most : ℕ) (input : List ℕ) → length (framed_up_to bare most input) ≤ most
unfolding framed_up_to
calls_few bare zero input = omega arith
calls_few bare (suc most) input = on (is_whole_frame bare input) (λ e. rw e (omega (arith, calls_few bare most (behind bare input)))) (λ e. rw e (omega arith))

pub tail-most : (bare : ℕ) (line input : List ℕ) → length (short_tail bare line input) ≤ length line
unfolding short_tail
tail-most bare line input = on (is_short bare input) (λ e. rw e (omega arith)) (λ e. rw e (omega arith))
