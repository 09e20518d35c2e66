-- Telegrams heard in two runs: the second run goes on where the first ended.
use Prim.Native.Nat.{ℕ, ◌+◌}
use mathlib.Core.Path.{◌≡◌, refl, sym, ap, ◌∙◌}
use mathlib.Core.List.{List, [], ◌∷◌, ◌++◌, append_assoc}
use native.Mathlib.Omega.{arith}
use Rattle.listener.specs.declared.Listener.{Listener}
use Rattle.listing_tables.specs.Tables.{heard_lines}
use Rattle.lister.specs.Hearings.{heard_by, listener_through, lines_for, tables_taken}

pub after_then : (l : Listener) (a b : List (List ℕ)) → listener_through l (a ++ b) ≡ listener_through (listener_through l a) b
unfolding listener_through
after_then l [] b = refl
after_then l (t ∷ a) b = after_then (heard_by l t).listener a b

pub lines_then : (l : Listener) (a b : List (List ℕ)) → lines_for l (a ++ b) ≡ lines_for l a ++ lines_for (listener_through l a) b
unfolding listener_through lines_for
lines_then l [] b = refl
lines_then l (t ∷ a) b =
    ap (λ x. heard_lines (heard_by l t) ++ x) (lines_then (heard_by l t).listener a b)
    ∙ sym (append_assoc (heard_lines (heard_by l t)) (lines_for (heard_by l t).listener a) (lines_for (listener_through (heard_by l t).listener a) b))

pub tables_then : (l : Listener) (a b : List (List ℕ)) → tables_taken l (a ++ b) ≡ tables_taken l a + tables_taken (listener_through l a) b
unfolding listener_through tables_taken
tables_then l [] b = omega arith
tables_then l (t ∷ a) b = omega (arith, tables_then (heard_by l t).listener a b)
