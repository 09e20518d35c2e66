-- The premises of demand 3 can be met: tables heard whole at any steps that are at most 8,191 apart meet them, and they are the
-- tables heard whole.
use Prim.Native.Nat.{ℕ, ◌+◌, ◌≤◌}
use mathlib.Core.Path.{◌≡◌, refl, ap, ◌∙◌}
use mathlib.Core.Bool.{Bool, true, false, ◌||◌}
use mathlib.Core.List.{List, [], ◌∷◌}
use lib.Dec.{eqb}
use native.Mathlib.Omega.{arith}
use Rattle.kit.specs.Loops.{how_many, fold}
use Rattle.telegram.specs.Tables.{packets, first_packet}
use Rattle.telegram.specs.declared.Telegram.{Telegram}
use Rattle.desk.specs.Desks.{packet_of}
use Rattle.claims.specs.Calls.{steps_made, desk_of}
use Rattle.claims.specs.Hearings.{Item, sent, spoilt, was_heard, wholes, first_or, NoneAfter, newest_or, farthest}
use Rattle.claims.specs.Ends.{Binding, Premises, nothing, in_turn}
use Rattle.claims.specs.Regular.{five_of, wholly, Spaced}
use Rattle.claims.proofs.Sequences.{heard-here, heard-above, whole-known, wholes-part, wholes-new}

-- one packet more
abbrev also : ℕ → (ℕ → Bool) → ℕ → Bool
also p packet q = eqb q p || packet q

-- whether five of the packets 3 to 7 are among these
abbrev five : (ℕ → Bool) → Bool
five packet = eqb (how_many (λ k. packet (first_packet + k)) packets) packets

none_after : {Message : Type 0} (n m : ℕ) (r : List (Item Message)) → NoneAfter m r → m ≤ n → NoneAfter n r
none_after n m [] b h = tt
none_after n m (sent k p ∷ r) (a, b) h = (omega arith, none_after n m r b h)
none_after n m (spoilt message ∷ r) b h = none_after n m r b h

module _ (rest reach : ℕ) {Message : Type 0} (binding : Binding Message) (calls : List (List ℕ)) (all : (t : Telegram) → binding.CanCarry t) where
  -- some packets of step n, heard after other tables
  record Part (n : ℕ) (whole : List ℕ) (packet : ℕ → Bool) (r : List (Item Message)) : Type 0 where
    premises : Premises rest reach binding calls r
    after : NoneAfter n r
    same : wholes r ≡ whole
    bound : n ≤ newest_or (first_or n r) whole + farthest
    known : (q : ℕ) → was_heard r n q ≡ packet q

  module _ {n : ℕ} {whole : List ℕ} {packet : ℕ → Bool} {r : List (Item Message)} (part : Part n whole packet r) (made : n ≤ steps_made rest calls) (p : ℕ) (low : 3 ≤ p) (high : p ≤ 7) where
    heard-next : Premises rest reach binding calls (sent n p ∷ r)
    heard-next = in_turn n p part.premises (made, low, high, all (packet_of (desk_of rest calls n) p)) part.after (rw part.same part.bound)

    known_next : (q : ℕ) → was_heard (sent n p ∷ r) n q ≡ also p packet q
    known_next q = heard-here n p r q ∙ ap (λ t. eqb q p || t) (part.known q)

    -- a fifth packet is still to come
    part-more : five (also p packet) ≡ false → Part n whole (also p packet) (sent n p ∷ r)
    part-more few =
        record {
          premises = heard-next;
          after = (omega arith, part.after);
          same = wholes-part n p r (whole-known (sent n p ∷ r) n (also p packet) known_next ∙ few) ∙ part.same;
          bound = part.bound;
          known = known_next;
        }

    -- the fifth
    part-last : five packet ≡ false → five (also p packet) ≡ true
        → Premises rest reach binding calls (sent n p ∷ r) × NoneAfter n (sent n p ∷ r) × (wholes (sent n p ∷ r) ≡ n ∷ whole)
    part-last few full = (
      heard-next,
      (omega arith, part.after),
      wholes-new n p r (whole-known (sent n p ∷ r) n (also p packet) known_next ∙ full) (whole-known r n packet part.known ∙ few) ∙ ap (λ w. n ∷ w) part.same,
    )

  -- a whole table more
  fifth : (n : ℕ) (whole : List ℕ) (r : List (Item Message)) → n ≤ steps_made rest calls → Part n whole (λ q. false) r
      → Premises rest reach binding calls (five_of n r) × NoneAfter n (five_of n r) × (wholes (five_of n r) ≡ n ∷ whole)
  unfolding how_many fold
  fifth n whole r made part =
      let p3 = part-more part made 3 (omega arith) (omega arith) refl in
      let p4 = part-more p3 made 4 (omega arith) (omega arith) refl in
      let p5 = part-more p4 made 5 (omega arith) (omega arith) refl in
      let p6 = part-more p5 made 6 (omega arith) (omega arith) refl in
      part-last p6 made 7 (omega arith) (omega arith) refl refl

  abbrev Met : List ℕ → Type 0
  Met [] = Unit
  Met (n ∷ before) =
      Premises rest reach binding calls (wholly Message (n ∷ before)) × NoneAfter n (wholly Message (n ∷ before)) × (wholes (wholly Message (n ∷ before)) ≡ n ∷ before)

  met : (steps : List ℕ) → Spaced (steps_made rest calls) steps → Met steps
  unfolding wholly wholes was_heard
  met [] s = tt
  met (n ∷ []) made = fifth n [] [] made (record { premises = nothing; after = tt; same = refl; bound = omega arith; known = λ q. refl })
  met (n ∷ m ∷ before) (made, later, near, s) =
      go (met (m ∷ before) s)
    where
      go : Met (m ∷ before) → Met (n ∷ m ∷ before)
      go (premises, after, same) =
          fifth n (m ∷ before) (wholly Message (m ∷ before)) made
          (record {
            premises = premises;
            after = none_after n m (wholly Message (m ∷ before)) after (omega arith);
            same = same;
            bound = omega arith;
            known = λ q. heard-above n m (wholly Message (m ∷ before)) q after later;
          })

  -- the premises are met, and the tables of these steps are those heard whole
  pub regular : (n : ℕ) (before : List ℕ) → Spaced (steps_made rest calls) (n ∷ before)
      → Premises rest reach binding calls (wholly Message (n ∷ before)) × (wholes (wholly Message (n ∷ before)) ≡ n ∷ before)
  regular n before s = go (met (n ∷ before) s)
    where
      go : Met (n ∷ before) → Premises rest reach binding calls (wholly Message (n ∷ before)) × (wholes (wholly Message (n ∷ before)) ≡ n ∷ before)
      go (premises, after, same) = (premises, same)
