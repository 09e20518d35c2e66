-- Whether a packet is held, as a test of the whole row.
use Prim.Native.Nat.{ℕ, ◌+◌}
use mathlib.Core.Path.{◌≡◌, refl, sym, ap, ◌∙◌}
use mathlib.Core.Bool.{Bool, true, false, beq, cond, ◌||◌}
use mathlib.Core.List.{List, [], ◌∷◌}
use lib.ListN.{length, drop, get_or}
use lib.Seq.{get_or-drop, drop-drop}
use native.Mathlib.Omega.{arith}
use Rattle.std.specs.List.{list_any}
use Rattle.kit.specs.Loops.{any, scan}
use Rattle.summary.specs.Summaries.{packet_held}

either : (b rest : Bool) → b || rest ≡ cond b true rest
either true rest = refl
either false rest = refl

-- a packet is held where its flag is `true`
is_true : Bool → Bool
is_true b = beq b true

same : (b : Bool) → is_true b ≡ b
unfolding is_true
same true = refl
same false = refl

module _ (held : List Bool) where
  -- of those from packet k on
  held-from : (row : List Bool) (k : ℕ) → drop k held ≡ row → list_any is_true row ≡ any (packet_held held) k (length row)
  unfolding scan
  held-from [] k e = refl
  held-from (b ∷ row) k e =
      let own : packet_held held k ≡ b =
      (let here : k ≡ k + 0 = omega arith in ap (λ i. get_or held i false) here) ∙ (sym (get_or-drop k held 0 false) ∙ ap (λ l. get_or l 0 false) e) in
      rw (same b, own) (either b (list_any is_true row) ∙ ap (cond b true) (held-from row (k + 1) (sym (drop-drop 1 k held) ∙ ap (drop 1) e)))

  pub held_any : {answer : Bool} → length held ≡ 5 → answer ≡ list_any (λ flag. beq flag true) held → answer ≡ any (packet_held held) 0 5
  unfolding is_true
  held_any long told = told ∙ (held-from held 0 refl ∙ ap (any (packet_held held) 0) long)
