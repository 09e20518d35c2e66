-- No byte of an input is lost or read twice: the calls that it has whole, one after another, and what is left behind them are the input. And what
-- is left has no whole call.
use Prim.Native.Nat.{ℕ, zero, suc, ◌<◌, ◌≤◌}
use mathlib.Core.Path.{◌≡◌, refl, sym, ap, ap₂, ◌∙◌}
use mathlib.Core.Bool.{true, false}
use mathlib.Core.List.{List, [], ◌∷◌, ◌++◌, append_assoc}
use lib.ListN.{length, take, drop, take-append-drop}
use lib.Seq.{drop-drop}
use native.Mathlib.Omega.{arith}
use Rattle.kit.specs.Bytes.{Bytes, word_at, word_bytes}
use Rattle.kit.proofs.Bytes.{high-back, low-back, drop-bytes}
use Rattle.kit.proofs.Cases.{on}
use Rattle.frames.specs.Frames.{follows, size_of, is_whole_frame, first_of, behind, framed_up_to, calls_of, left_up_to, left_of, framed_bytes}
use Rattle.frames.proofs.Splitting.{size_two, whole-fits, behind_shorter, none_left}

-- the first two bytes are those of the length
length_back : (input : List ℕ) → Bytes input → 2 ≤ length input → word_bytes (word_at input 0) ++ drop 2 input ≡ input
length_back [] bytes two = absurd (omega arith)
length_back (high ∷ []) bytes two = absurd (omega arith)
length_back (high ∷ low ∷ l) bytes two =
    let small : low < 256 = bytes 1 in
    ap₂ (λ h k. h ∷ k ∷ l) (high-back high low small) (low-back high low small)

first_back : (bare : ℕ) (input : List ℕ) → Bytes input → is_whole_frame bare input ≡ true → word_bytes (first_of bare input).0 ++ ((first_of bare input).1 ++ behind bare input) ≡ input
unfolding first_of behind size_of
first_back bare input bytes e =
    let long : 2 ≤ length input = omega (arith, size_two bare input, whole-fits bare input e) in
    let n : ℕ = follows bare (word_at input 0) in
    ap (λ l. word_bytes (word_at input 0) ++ l) (ap (λ l. take n (drop 2 input) ++ l) (sym (drop-drop n 2 input)) ∙ take-append-drop n (drop 2 input)) ∙ length_back input bytes long

behind-bytes : (bare : ℕ) (input : List ℕ) → Bytes input → Bytes (behind bare input)
unfolding behind
behind-bytes bare input = drop-bytes (size_of bare input) input

all_back : (bare most : ℕ) (input : List ℕ) → Bytes input → framed_bytes (framed_up_to bare most input) ++ left_up_to bare most input ≡ input
unfolding framed_up_to left_up_to framed_bytes
all_back bare zero input bytes = refl
all_back bare (suc most) input bytes =
    on (is_whole_frame bare input)
    (λ e.
    let word = word_bytes (first_of bare input).0 in
    let own = (first_of bare input).1 in
    let later = framed_bytes (framed_up_to bare most (behind bare input)) in
    let end = left_up_to bare most (behind bare input) in
    rw e
    (append_assoc word (own ++ later) end
    ∙ (ap (λ l. word ++ l) (append_assoc own later end ∙ ap (λ l. own ++ l) (all_back bare most (behind bare input) (behind-bytes bare input bytes)))
    ∙ first_back bare input bytes e)))
    (λ e. rw e refl)

pub input_back : (bare : ℕ) (input : List ℕ) → Bytes input → framed_bytes (calls_of bare input) ++ left_of bare input ≡ input
unfolding calls_of left_of
input_back bare input bytes = all_back bare (length input) input bytes

no_more : (bare most : ℕ) (input : List ℕ) → length input ≤ most → is_whole_frame bare (left_up_to bare most input) ≡ false
unfolding left_up_to
no_more bare zero input h = none_left bare input h
no_more bare (suc most) input h =
    on (is_whole_frame bare input)
    (λ e. rw e (no_more bare most (behind bare input) (behind_shorter bare input most e h)))
    (λ e. rw e e)

pub left-no_more : (bare : ℕ) (input : List ℕ) → is_whole_frame bare (left_of bare input) ≡ false
unfolding left_of
left-no_more bare input = no_more bare (length input) input (omega arith)
