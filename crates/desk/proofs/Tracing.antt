-- What becomes of a number over several steps.
--
-- A number that an order has is that order's while the order stands in the lists; when the order ends, the number is in no table
-- for as many steps as the rest, the one in which it ended among them.
use Prim.Native.Nat.{ℕ, ◌+◌, ◌*◌, ◌%◌, ◌<◌, ◌≤◌}
use mathlib.Core.Path.{◌≡◌, refl, sym, ap, ◌∙◌, subst}
use mathlib.Core.Logic.{◌⊎◌, inl, inr}
use mathlib.Core.Bool.{Bool, true, false}
use mathlib.Core.List.{List, [], ◌∷◌, ◌++◌}
use lib.ListN.{length, length-replicate}
use native.Mathlib.Omega.{arith}
use Rattle.orders.specs.Orders.{Fair}
use Rattle.kit.proofs.Cases.{on, clash, given}
use Rattle.kit.proofs.Maps.{replicate-at}
use Rattle.condition.specs.Slots.{coded_of, slot_count}
use Rattle.wire.specs.Steps.{steps}
use Rattle.order_list.specs.Lists.{stands}
use Rattle.places.specs.Places.{free_place, place_at, place_of}
use Rattle.places.specs.declared.Place.{Place}
use Rattle.places.proofs.Live.{live-there, live_when}
use Rattle.orders.proofs.Lists.{fair}
use Rattle.resting.specs.Rests.{none_ended, ended_at}
use Rattle.resting.specs.declared.Ended.{Ended}
use Rattle.desk.specs.declared.Desk.{Desk}
use Rattle.desk.specs.Desks.{fresh_with}
use Rattle.desk.proofs.Runs.{desk_run, AllAccepted, Stood, InNewest}
use Rattle.desk.specs.Steps.{step_of}
use Rattle.desk.proofs.Seating.{inside, ordered}
use Rattle.desk.proofs.Stepping.{Sound, Was, stayed, placed, free, was, keeps, live-listed, rests, moves, next-sound, not-given}

-- the place of a desk
abbrev pub at : Desk → ℕ → Place
at desk i = place_at desk.places i

abbrev pub Holds : Desk → ℕ → ℕ → ℕ → Type 0
Holds desk i number order = ((at desk i).slot.number ≡ number) × ((at desk i).order ≡ order)

-- a number is in no place, and among the ended ones of the first k rows
abbrev pub Gone : Desk → ℕ → ℕ → Type 0
Gone desk number k =
    ((j : ℕ) → (at desk j).slot.number ≡ number → ⊥) × ((r : ℕ) × (r < slot_count * k) × ((ended_at desk.ended r).number ≡ number))

-- ---- one step

module _ (rest rows : ℕ) (enough : rest ≤ rows) (few : rows ≤ 11) (desk : Desk) (sound : Sound rows desk) (list : List ℕ) (fair : Fair desk.places list)
    (x o : ℕ) (positive : 1 ≤ x) where
  abbrev next : Desk
  next = step_of rest desk list

  abbrev listed : Bool
  listed = stands list o

  ends : 1 ≤ rest → (i : ℕ) → Holds desk i x o → listed ≡ false → (j : ℕ) → Was rest rows enough few desk sound list fair j (at next j) → (at next j).slot.number ≡ x → ⊥
  ends some i (a, b) absent j (stayed s) e =
      given (sound.orderly.apart i j (omega arith) (a ∙ (sym e ∙ s.number)))
      (λ same. clash (subst (λ n. stands list n ≡ true) (ap (λ k. (at desk k).order) (sym same) ∙ b) s.listed) absent)
  ends some i (a, b) absent j (placed n) e =
      let p : 1 ≤ (at desk i).order = ordered sound.orderly i (omega arith) in
      not-given rest rows enough few desk sound list fair j i x positive (omega (arith, inside sound.orderly i p))
      (rests rest rows enough few desk sound list fair (omega arith) i p (subst (λ m. stands list m ≡ false) (sym b) absent) ∙ a) n e
  ends some i (a, b) absent j (free z) e = omega (arith, ap (λ (y : Place). y.slot.number) z)

  stays_away : (r : ℕ) → slot_count + r < slot_count * rest → (ended_at desk.ended r).number ≡ x → ((j : ℕ) → (at desk j).slot.number ≡ x → ⊥)
      → (j : ℕ) → Was rest rows enough few desk sound list fair j (at next j) → (at next j).slot.number ≡ x → ⊥
  stays_away r p there away j (stayed s) e = away j (sym s.number ∙ e)
  stays_away r p there away j (placed n) e =
      not-given rest rows enough few desk sound list fair j (slot_count + r) x positive p
      (ap (λ (y : Ended). y.number) (moves rest rows enough few desk sound list fair r (omega arith)) ∙ there) n e
  stays_away r p there away j (free z) e = omega (arith, ap (λ (y : Place). y.slot.number) z)

  -- the number of an order that ends is gone
  pub gone_now : 1 ≤ rest → (i : ℕ) → Holds desk i x o → listed ≡ false → Gone next x 1
  gone_now some i (a, b) absent =
      let p : 1 ≤ (at desk i).order = ordered sound.orderly i (omega arith) in (
        λ j. ends some i (a, b) absent j (was rest rows enough few desk sound list fair j),
        (
          i,
          omega (arith, inside sound.orderly i p),
          rests rest rows enough few desk sound list fair (omega arith) i p (subst (λ n. stands list n ≡ false) (sym b) absent) ∙ a,
        ),
      )

  -- and stays so while it rests
  pub gone_still : (k : ℕ) → k < rest → Gone desk x k → Gone next x (k + 1)
  gone_still k small (away, (r, p, there)) = (
    λ j. stays_away r (omega arith) there away j (was rest rows enough few desk sound list fair j),
    (slot_count + r, omega arith, ap (λ (y : Ended). y.number) (moves rest rows enough few desk sound list fair r (omega arith)) ∙ there),
  )

  -- one step of the trace: the order stands on with its number, or the number is gone
  trace-one : (i k : ℕ) (so_far : Type 0) → k < rest → (so_far × Holds desk i x o) ⊎ Gone desk x k
      → (((listed ≡ true) × so_far) × Holds next i x o) ⊎ Gone next x (k + 1)
  trace-one i k so_far small (inl (t, (a, b))) =
      on listed
      (λ m.
      given
      (keeps rest rows enough few desk sound list fair i (ordered sound.orderly i (omega arith)) (subst (λ n. stands list n ≡ true) (sym b) m))
      (λ s. inl ((m, t), (s.number ∙ a, s.order ∙ b))))
      (λ m. inr (wider (gone_now (omega arith) i (a, b) m)))
    where
      wider : Gone next x 1 → Gone next x (k + 1)
      wider (away, (r, p, there)) = (away, (r, omega arith, there))
  trace-one i k so_far small (inr gone) = inr (gone_still k small gone)

-- ---- a fresh desk is sound

module _ (rows : ℕ) where
  pub fresh_at : (i : ℕ) → at (fresh_with rows) i ≡ free_place
  unfolding fresh_with
  fresh_at i = replicate-at slot_count i free_place

  pub fresh-ended : (r : ℕ) → ended_at (fresh_with rows).ended r ≡ none_ended
  unfolding fresh_with
  fresh-ended r = replicate-at (slot_count * rows) r none_ended

  fresh-long : (length (fresh_with rows).places ≡ slot_count) × (length (fresh_with rows).ended ≡ slot_count * rows) × ((fresh_with rows).step < steps)
  unfolding fresh_with
  fresh-long = (refl, length-replicate (slot_count * rows) none_ended, omega arith)

  pub fresh-sound : Sound rows (fresh_with rows)
  fresh-sound =
      record {
        orderly =
            record {
              twenty = fresh-long.0;
              free = λ i z. fresh_at i;
              numbered = λ i p. absurd (omega (arith, rw fresh_at at p));
              apart = λ i j p q. absurd (omega (arith, rw fresh_at at p));
              single = λ i j p q. absurd (omega (arith, rw fresh_at at p));
              held = λ i. rw fresh_at refl;
            };
        kept = fresh-long.1;
        below = fresh-long.2;
        aged = λ r p. absurd (omega (arith, rw fresh-ended at p));
      }

-- ---- a run of steps

-- a fresh desk, and one list more
pub run_none : (rest rows : ℕ) → desk_run rest rows [] ≡ fresh_with rows
unfolding desk_run
run_none rest rows = refl

pub run_more : (rest rows : ℕ) (l : List ℕ) (h : List (List ℕ)) → desk_run rest rows (l ∷ h) ≡ step_of rest (desk_run rest rows h) l
unfolding desk_run
run_more rest rows l h = refl

module _ (rest rows : ℕ) (enough : rest ≤ rows) (few : rows ≤ 11) where
  pub run_sound : (h : List (List ℕ)) → AllAccepted rest rows h → Sound rows (desk_run rest rows h)
  unfolding desk_run
  run_sound [] a = fresh-sound rows
  run_sound (l ∷ h) (p, a) = next-sound rest rows enough few (desk_run rest rows h) (run_sound h a) l (fair (desk_run rest rows h).places l p)

  -- D-03: the step number counts the accepted lists, around 8,192
  pub run_step : (h : List (List ℕ)) → (desk_run rest rows h).step ≡ length h % steps
  unfolding desk_run step_of fresh_with
  run_step [] = refl
  run_step (l ∷ h) = rw (run_step h) (omega arith)

  -- the earlier part of an accepted run is accepted
  pub older : (ls h : List (List ℕ)) → AllAccepted rest rows (ls ++ h) → AllAccepted rest rows h
  older [] h a = a
  older (l ∷ ls) h (q, a) = older ls h a

  -- an order with a number, and what becomes of the two in as many steps as the rest or fewer
  pub trace : (ls h : List (List ℕ)) (i x o : ℕ) → 1 ≤ x → AllAccepted rest rows (ls ++ h) → length ls ≤ rest → Holds (desk_run rest rows h) i x o
      → (Stood o ls × Holds (desk_run rest rows (ls ++ h)) i x o) ⊎ Gone (desk_run rest rows (ls ++ h)) x (length ls)
  unfolding desk_run
  trace [] h i x o p a n held = inl (tt, held)
  trace (l ∷ ls) h i x o p (q, a) n held =
      let e : length ls + 1 ≡ length (l ∷ ls) = omega arith in
      subst (λ k. (Stood o (l ∷ ls) × Holds (desk_run rest rows (l ∷ ls ++ h)) i x o) ⊎ Gone (desk_run rest rows (l ∷ ls ++ h)) x k) e
      (trace-one rest rows enough few (desk_run rest rows (ls ++ h)) (run_sound (ls ++ h) a) l (fair (desk_run rest rows (ls ++ h)).places l q) x o p i (length ls)
      (Stood o ls) (omega arith) (trace ls h i x o p a (omega arith) held))

  gone_after : (ls h : List (List ℕ)) (l : List ℕ) (i : ℕ) → AllAccepted rest rows (ls ++ (l ∷ h)) → length ls < rest
      → 1 ≤ (at (desk_run rest rows h) i).order → stands l (at (desk_run rest rows h) i).order ≡ false
      → Gone (desk_run rest rows (ls ++ (l ∷ h))) (at (desk_run rest rows h) i).slot.number (length ls + 1)
  unfolding desk_run
  gone_after [] h l i (q, a) n p absent =
      let s : Sound rows (desk_run rest rows h) = run_sound h a in
      gone_now rest rows enough few (desk_run rest rows h) s l (fair (desk_run rest rows h).places l q) (at (desk_run rest rows h) i).slot.number
      (at (desk_run rest rows h) i).order (s.orderly.numbered i p).0 n i (refl, refl) absent
  gone_after (m ∷ ls) h l i (q, a) n p absent =
      let s : Sound rows (desk_run rest rows (ls ++ (l ∷ h))) = run_sound (ls ++ (l ∷ h)) a in
      let first : AllAccepted rest rows h = (older ls (l ∷ h) a).1 in
      let e : length ls + 1 + 1 ≡ length (m ∷ ls) + 1 = omega arith in
      subst (λ k. Gone (desk_run rest rows (m ∷ ls ++ (l ∷ h))) (at (desk_run rest rows h) i).slot.number k) e
      (gone_still rest rows enough few (desk_run rest rows (ls ++ (l ∷ h))) s m (fair (desk_run rest rows (ls ++ (l ∷ h))).places m q) (at (desk_run rest rows h) i).slot.number
      (at (desk_run rest rows h) i).order ((run_sound h first).orderly.numbered i p).0 (length ls + 1) (omega arith) (gone_after ls h l i a (omega arith) p absent))

  -- D-12, D-13: a number whose order ends in a step is in no table from that step on, as many tables in a row as the rest
  pub rested : (ls h : List (List ℕ)) (l : List ℕ) (i j : ℕ) → AllAccepted rest rows (ls ++ (l ∷ h)) → length ls < rest
      → 1 ≤ (at (desk_run rest rows h) i).order → stands l (at (desk_run rest rows h) i).order ≡ false
      → (at (desk_run rest rows (ls ++ (l ∷ h))) j).slot.number ≡ (at (desk_run rest rows h) i).slot.number → ⊥
  rested ls h l i j a n p absent same =
      given (gone_after ls h l i a n p absent) (λ (away, there). away j same)

  -- the same number in two tables at most as many steps apart as the rest: one order, in one slot, that stood in every list between
  pub same_number : (ls h : List (List ℕ)) (i j : ℕ) → AllAccepted rest rows (ls ++ h) → length ls ≤ rest → 1 ≤ (at (desk_run rest rows h) i).slot.number
      → (at (desk_run rest rows (ls ++ h)) j).slot.number ≡ (at (desk_run rest rows h) i).slot.number
      → Stood (at (desk_run rest rows h) i).order ls × (i ≡ j) × ((at (desk_run rest rows (ls ++ h)) j).order ≡ (at (desk_run rest rows h) i).order)
  same_number ls h i j a n p same = go (trace ls h i (at (desk_run rest rows h) i).slot.number (at (desk_run rest rows h) i).order p a n (refl, refl))
    where
      go : (Stood (at (desk_run rest rows h) i).order ls × Holds (desk_run rest rows (ls ++ h)) i (at (desk_run rest rows h) i).slot.number (at (desk_run rest rows h) i).order)
          ⊎ Gone (desk_run rest rows (ls ++ h)) (at (desk_run rest rows h) i).slot.number (length ls)
          → Stood (at (desk_run rest rows h) i).order ls × (i ≡ j) × ((at (desk_run rest rows (ls ++ h)) j).order ≡ (at (desk_run rest rows h) i).order)
      go (inl (stood, (number, order))) =
          given ((run_sound (ls ++ h) a).orderly.apart i j (omega arith) (number ∙ sym same))
          (λ q. (stood, q, ap (λ k. (at (desk_run rest rows (ls ++ h)) k).order) (sym q) ∙ order))
      go (inr (away, there)) = absurd (away j same)

  -- an order that stands on keeps slot, number and type
  pub persists : (ls h : List (List ℕ)) (i : ℕ) → AllAccepted rest rows (ls ++ h) → 1 ≤ (at (desk_run rest rows h) i).order → Stood (at (desk_run rest rows h) i).order ls
      → ((at (desk_run rest rows (ls ++ h)) i).slot.number ≡ (at (desk_run rest rows h) i).slot.number)
      × ((at (desk_run rest rows (ls ++ h)) i).order ≡ (at (desk_run rest rows h) i).order)
      × ((coded_of (at (desk_run rest rows (ls ++ h)) i).slot).kind ≡ (coded_of (at (desk_run rest rows h) i).slot).kind)
  unfolding desk_run
  persists [] h i a p s = (refl, refl, refl)
  persists (l ∷ ls) h i (q, a) p (m, s) =
      given (persists ls h i a p s)
      (λ (number, order, kind).
      given
      (keeps rest rows enough few (desk_run rest rows (ls ++ h)) (run_sound (ls ++ h) a) l (fair (desk_run rest rows (ls ++ h)).places l q) i (omega (arith, order))
      (rw order m))
      (λ z. (z.number ∙ number, z.order ∙ order, z.kind ∙ kind)))

  -- the live orders are those of the newest list
  pub live_newest : (h : List (List ℕ)) (i : ℕ) → AllAccepted rest rows h → 1 ≤ (at (desk_run rest rows h) i).order → InNewest (at (desk_run rest rows h) i).order h
  unfolding desk_run
  live_newest [] i a p = omega (arith, rw fresh_at at p)
  live_newest (l ∷ h) i (q, a) p =
      let s : Sound rows (desk_run rest rows h) = run_sound h a in
      let t : Sound rows (desk_run rest rows (l ∷ h)) = run_sound (l ∷ h) (q, a) in
      sym (live-listed rest rows enough few (desk_run rest rows h) s l (fair (desk_run rest rows h).places l q) (at (desk_run rest rows (l ∷ h)) i).order p)
      ∙ live_when (desk_run rest rows (l ∷ h)).places (at (desk_run rest rows (l ∷ h)) i).order i (inside t.orderly i p) refl

  pub newest_live : (h : List (List ℕ)) (o : ℕ) → AllAccepted rest rows h → 1 ≤ o → InNewest o h
      → (i : ℕ) × (i < slot_count) × ((at (desk_run rest rows h) i).order ≡ o)
  unfolding desk_run
  newest_live [] o a p n = absurd n
  newest_live (l ∷ h) o (q, a) p n =
      given
      (live-there (desk_run rest rows (l ∷ h)).places o
      (live-listed rest rows enough few (desk_run rest rows h) (run_sound h a) l (fair (desk_run rest rows h).places l q) o p ∙ n))
      (λ (small, same). (place_of (desk_run rest rows (l ∷ h)).places o, small, same))
