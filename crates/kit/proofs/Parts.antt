-- A part of a list that is written over at once: what it is then, as a run of stores.
use Prim.Native.Nat.{ℕ, ◌+◌, ◌≤◌}
use mathlib.Core.Path.{◌≡◌, refl, sym, ap, ◌∙◌}
use mathlib.Core.List.{List, ◌++◌, append_assoc}
use lib.ListN.{length, take, drop}
use lib.Seq.{sets, sets-eq, length-sets, paste}
use native.Mathlib.Omega.{arith}
use borrow.Rule.Slice.PartMut.{put_mid}
use Rattle.std.proofs.lemmas.List.Edits.{paste_all}
use Rattle.std.proofs.lemmas.Slice.{put_mid-paste}
use Rattle.kit.specs.Put.{Put}
use Rattle.kit.proofs.Put.{put_then}

module _ {A : Type 0} (l : List A) (at : ℕ) (part : List A) (n : ℕ) (own : length part ≡ n) (fits : at + n ≤ length l) where
  -- after `copy_within`
  pub paste-stored : paste l at part n ≡ sets l at part
  paste-stored =
      let there : at + length part ≤ length l = omega arith in
      paste_all l at part n (sym own)
      ∙ (ap (λ (k : ℕ). take at l ++ (part ++ drop (at + k) l)) (sym own)
      ∙ (sym (append_assoc (take at l) part (drop (at + length part) l)) ∙ sym (sets-eq part l at there)))

  -- after `copy_from_slice` on a part
  pub part-stored : put_mid at n l part ≡ sets l at part
  part-stored = put_mid-paste at n l part part n refl refl (sym own) ∙ paste-stored

-- two parts, one right after the other
pub two_parts : (l : List ℕ) (at : ℕ) (first second : List ℕ) (m n : ℕ) → length first ≡ m → length second ≡ n → at + m + n ≤ length l
    → put_mid (at + m) n (put_mid at m l first) second ≡ sets l at (first ++ second)
two_parts l at first second m n e f fits =
    let one = sets l at first in
    let there : at + m + n ≤ length one = omega (arith, length-sets l at first) in
    let before : Put l at first one (at + m) = record { stored = refl; past = omega arith } in
    let after : Put one (at + m) second (sets one (at + m) second) (at + m + length second) = record { stored = refl; past = refl } in
    ap (λ k. put_mid (at + m) n k second) (part-stored l at first m e (omega arith))
    ∙ (part-stored one (at + m) second n f there ∙ (put_then before after).stored)
