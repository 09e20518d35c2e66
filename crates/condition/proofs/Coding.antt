-- A slot coded and read is that slot; a coded slot read and coded again is the same but for the bits of its second word that are not
-- considered; and what is read has no code that the table of document 01 does not have.
use Prim.Native.Nat.{ℕ, ◌+◌, ◌-◌, ◌*◌, ◌%◌, ◌<◌, ◌≤◌}
use mathlib.Core.Path.{◌≡◌, refl, sym, ap, subst, ◌∙◌}
use mathlib.Core.Logic.{◌⊎◌, inl, inr, ◌↔◌}
use mathlib.Core.Bool.{Bool, true, false, cond, ◌&&◌}
use lib.Dec.{eqb, ltb}
use native.Mathlib.Omega.{arith}
use borrow.Author.Tests.{eqb-true, eqb-false, ltb-true, leb-true, ne_eqb, lt-ltb, not-false}
use Rattle.kit.specs.Ladder.{NoneHolds, Numbered}
use Rattle.kit.proofs.Cases.{on, clash, given, and_both, and_second, above_zero}
use Rattle.wire.specs.Distances.{no_value}
use Rattle.kinds.specs.Words.{is_type, country_in, voltage_in, is_considered, is_unfitted, second_allowed, second_held, is_voltage}
use Rattle.condition.specs.Slots.{is_filled, is_occupied, body_of, slot_rows, slot_in, coding, coded_of, settled, HeldBody, MayHold}
use Rattle.condition.specs.declared.slots.Body.{Body}
use Rattle.condition.specs.declared.slots.Body.TheVariants.{Empty, Area, Traction, Current}
use Rattle.condition.specs.declared.slots.Coded.{Coded}
use Rattle.condition.specs.declared.slots.Slot.{Slot}

pub slot-numbered : (c : Coded) → Numbered (slot_rows c)
unfolding slot_rows
slot-numbered c = omega arith

-- what a coded slot is that no row refuses: all zero, or a numbered one with a type and a second word that are allowed
pub record Zero (c : Coded) : Type 0 where
  pub number : c.number ≡ 0
  pub kind : c.kind ≡ 0
  pub first : c.first ≡ 0
  pub second : c.second ≡ 0

pub record Filled (c : Coded) : Type 0 where
  pub number : 0 < c.number
  pub kind : is_type c.kind ≡ true
  pub allowed : second_allowed c.kind c.first c.second ≡ true

pub rows_say : (c : Coded) → NoneHolds (slot_rows c) → Zero c ⊎ Filled c
unfolding slot_rows
rows_say c (row12, (row13, (row6, u))) =
    on (eqb c.number 0)
    (λ e.
    given (and_both (eqb c.kind 0 && eqb c.first 0) (eqb c.second 0) (not-false _ (and_second _ _ row12 e)))
    (λ (ab, s).
    given (and_both (eqb c.kind 0) (eqb c.first 0) ab)
    (λ (k, f).
    inl (record { number = eqb-true _ 0 e; kind = eqb-true _ 0 k; first = eqb-true _ 0 f; second = eqb-true _ 0 s }))))
    (λ e.
    let p : ltb 0 c.number ≡ true = above_zero c.number (eqb-false c.number 0 e) in
    inr (record { number = ltb-true 0 c.number p; kind = not-false _ (and_second _ _ row13 p); allowed = not-false _ row6 }))

pub filled-silent : (c : Coded) → Filled c → NoneHolds (slot_rows c)
unfolding slot_rows
filled-silent c f =
    let n : eqb c.number 0 ≡ false = ne_eqb c.number 0 (omega (arith, f.number)) in
    (rw n refl, (rw (f.kind, lt-ltb 0 c.number f.number) refl, (rw f.allowed refl, tt)))

-- a type is 4, is 5, or is another
by_kind : (P : ℕ → Type 0) (kind : ℕ) → P 4 → P 5 → (eqb kind 4 ≡ false → eqb kind 5 ≡ false → P kind) → P kind
by_kind P kind four five other =
    on (eqb kind 4)
    (λ e. subst P (sym (eqb-true kind 4 e)) four)
    (λ e. on (eqb kind 5) (λ f. subst P (sym (eqb-true kind 5 f)) five) (λ f. other e f))

-- ---- what is read is held

module _ (number first second : ℕ) (p : 0 < number) where
  traction-held : second_allowed 4 first second ≡ true → HeldBody number (body_of 4 first second)
  unfolding body_of second_allowed second_held is_considered is_unfitted
  traction-held a =
      on (eqb first no_value)
      (λ e. rw e (p, omega arith, refl, λ z. (refl, refl), λ z. refl))
      (λ e.
      given (and_both (ltb second 0x4000) (is_voltage (voltage_in second)) (rw e at a))
      (λ (small, volt).
      let no : first ≡ no_value → ⊥ = eqb-false first no_value e in
      on (eqb (voltage_in second) 0)
      (λ f.
      let none : voltage_in second ≡ 0 = eqb-true (voltage_in second) 0 f in
      let country : country_in (second - country_in second * 16) ≡ 0 = omega arith in
      let voltage : voltage_in (second - country_in second * 16) ≡ 0 = omega arith in
      rw (e, f) (p, omega arith, rw voltage refl, λ z. absurd (no z), λ z. country))
      (λ f. rw (e, f) (p, omega arith, volt, λ z. absurd (no z), λ z. absurd (eqb-false (voltage_in second) 0 f z)))))

  current_held : second_allowed 5 first second ≡ true → HeldBody number (body_of 5 first second)
  unfolding body_of second_allowed second_held is_considered is_unfitted
  current_held a =
      on (eqb first no_value)
      (λ e. rw e (p, refl, λ z. refl))
      (λ e. rw e (p, rw e at a, λ z. absurd (eqb-false first no_value e z)))

  area_held : (kind : ℕ) → is_type kind ≡ true → eqb kind 4 ≡ false → eqb kind 5 ≡ false → HeldBody number (body_of kind first second)
  unfolding body_of
  area_held kind t a b = rw (a, b, t) (p, t, a, b)

  body-held : (kind : ℕ) → is_type kind ≡ true → second_allowed kind first second ≡ true → HeldBody number (body_of kind first second)
  body-held kind t a =
      by_kind (λ k. second_allowed k first second ≡ true → HeldBody number (body_of k first second)) kind traction-held current_held
      (λ e f a. area_held kind t e f) a

zero_held : (c : Coded) → Zero c → MayHold (slot_in c)
unfolding body_of
zero_held c z = rw (z.number, z.kind) refl

-- M-2e of a slot: what is read has valid codes
pub read_held : (c : Coded) → NoneHolds (slot_rows c) → MayHold (slot_in c)
read_held c s = go (rows_say c s)
  where
    go : Zero c ⊎ Filled c → MayHold (slot_in c)
    go (inl z) = zero_held c z
    go (inr f) = body-held c.number c.first c.second f.number c.kind f.kind f.allowed

-- ---- read and coded again

-- the second word of any other type is considered
other-considered : (kind first : ℕ) → eqb kind 4 ≡ false → eqb kind 5 ≡ false → is_considered kind first ≡ true
unfolding is_considered
other-considered kind first a b = on (eqb first no_value) (λ e. rw (e, a, b)) (λ e. rw e)

module _ (number first second : ℕ) where
  abbrev Again : ℕ → Type 0
  Again kind =
      second_allowed kind first second ≡ true
      → coding number (body_of kind first second) ≡ record { number = number; kind = kind; first = first; second = second_held kind first second }

  -- the country and the voltage that are held, coded, are the word that is held
  parts_again : (held : ℕ) → held ≤ second → second < 0x4000 → country_in held % 1024 * 16 + voltage_in held % 16 ≡ held
  parts_again held p q = omega arith

  traction-again : Again 4
  unfolding body_of second_allowed second_held is_considered
  traction-again a =
      on (eqb first no_value)
      (λ e. rw e refl)
      (λ e.
      given (and_both (ltb second 0x4000) (is_voltage (voltage_in second)) (rw e at a))
      (λ (small, volt).
      let at_most : (test : Bool) → cond test (second - country_in second * 16) second ≤ second = λ test. on test (λ t. rw t (omega arith)) (λ t. rw t (omega arith)) in
      let same = parts_again (cond (is_unfitted 4 second) (second - country_in second * 16) second) (at_most (is_unfitted 4 second)) (ltb-true second 0x4000 small) in
      rw e (λ i. record { number = number; kind = 4; first = first; second = same i })))

  current_again : Again 5
  unfolding body_of
  current_again a = refl

  area_again : (kind : ℕ) → is_type kind ≡ true → eqb kind 4 ≡ false → eqb kind 5 ≡ false → Again kind
  unfolding body_of second_held is_unfitted
  area_again kind t a b w = rw (a, b, t, other-considered kind first a b) refl

zero-again : (c : Coded) → Zero c → coded_of (slot_in c) ≡ settled c
unfolding coded_of body_of second_held is_considered is_unfitted
zero-again c z = rw (z.number, z.kind, z.first, z.second) refl

-- K-12, CR1-3 of a slot: nothing alters but the bits of the second word that are not considered
pub coded-back : (c : Coded) → NoneHolds (slot_rows c) → coded_of (slot_in c) ≡ settled c
unfolding coded_of
coded-back c s = go (rows_say c s)
  where
    go : Zero c ⊎ Filled c → coded_of (slot_in c) ≡ settled c
    go (inl z) = zero-again c z
    go (inr f) =
        by_kind (Again c.number c.first c.second) c.kind
        (traction-again c.number c.first c.second)
        (current_again c.number c.first c.second)
        (area_again c.number c.first c.second c.kind f.kind)
        f.allowed

-- ---- coded and read

-- a held slot, coded, is refused by no row, and means that slot
abbrev Back : ℕ → Body → Type 0
Back number body = NoneHolds (slot_rows (coding number body)) × (slot_in (coding number body) ≡ record { number = number; body = body })

back : (number : ℕ) (body : Body) → HeldBody number body → Back number body
unfolding slot_rows body_of second_allowed second_held is_considered is_unfitted
back number Empty w = ((refl, (refl, (refl, tt))), ap (λ n. record { number = n; body = Empty }) (sym w))
back number (Area kind entry exit) (p, t, a, b) =
    let n0 : eqb number 0 ≡ false = ne_eqb number 0 (omega arith) in
    let n1 : ltb 0 number ≡ true = lt-ltb 0 number p in (
      (rw n0 refl, (rw (n1, t) refl, (on (eqb entry no_value) (λ e. rw (e, a, b) refl) (λ e. rw (e, a, b) refl), tt))),
      rw (a, b, t) refl,
    )
back number (Traction change country voltage) (p, c, v, z, unfitted) =
    let n0 : eqb number 0 ≡ false = ne_eqb number 0 (omega arith) in
    let n1 : ltb 0 number ≡ true = lt-ltb 0 number p in
    let second : ℕ = country % 1024 * 16 + voltage % 16 in
    on (eqb change no_value)
    (λ e.
    given (z (eqb-true change no_value e)) (λ (cz, vz). (
      (rw n0 refl, (rw n1 refl, (rw e refl, tt))),
      rw e (λ i. record { number = number; body = Traction change (sym cz i) (sym vz i) }),
    )))
    (λ e.
    let s1 : ltb second 0x4000 ≡ true = lt-ltb second 0x4000 (omega arith) in
    let volts = leb-true voltage _ v in
    let c1 : country_in second ≡ country = omega arith in
    let v1 : voltage_in second ≡ voltage = omega arith in
    let s2 : is_voltage (voltage_in second) ≡ true = ap is_voltage v1 ∙ v in
    let silent : NoneHolds (slot_rows (coding number (Traction change country voltage))) = (rw n0 refl, (rw n1 refl, (rw (e, s1, s2) refl, tt))) in
    on (eqb (voltage_in second) 0)
    (λ f.
    let none : country ≡ 0 = unfitted (sym v1 ∙ eqb-true (voltage_in second) 0 f) in
    let c2 : country_in (second - country_in second * 16) ≡ country = omega arith in
    let v2 : voltage_in (second - country_in second * 16) ≡ voltage = omega arith in
    (silent, rw (e, f) (λ i. record { number = number; body = Traction change (c2 i) (v2 i) })))
    (λ f. (silent, rw (e, f) (λ i. record { number = number; body = Traction change (c1 i) (v1 i) }))))
back number (Current change limit) (p, l, z) =
    let n0 : eqb number 0 ≡ false = ne_eqb number 0 (omega arith) in
    let n1 : ltb 0 number ≡ true = lt-ltb 0 number p in
    on (eqb change no_value)
    (λ e. (
      (rw n0 refl, (rw n1 refl, (rw e refl, tt))),
      rw e (λ i. record { number = number; body = Current change (sym (z (eqb-true change no_value e)) i) }),
    ))
    (λ e. ((rw n0 refl, (rw n1 refl, (rw (e, l) refl, tt))), rw e refl))

pub coded-silent : (x : Slot) → MayHold x → NoneHolds (slot_rows (coded_of x))
unfolding coded_of
coded-silent x h = (back x.number x.body h).0

pub slot_in-back : (x : Slot) → MayHold x → slot_in (coded_of x) ≡ x
unfolding coded_of
slot_in-back x h = (back x.number x.body h).1

-- of what a desk or a reader holds, the occupied slots are those with a number
occupied_by : (number : ℕ) (body : Body) → HeldBody number body → (is_filled body ≡ true) ↔ (0 < number)
occupied_by number Empty h = (λ e. absurd (clash e refl), λ p. absurd (omega arith))
occupied_by number (Area kind entry exit) h = (λ e. h.0, λ p. refl)
occupied_by number (Traction change country voltage) h = (λ e. h.0, λ p. refl)
occupied_by number (Current change limit) h = (λ e. h.0, λ p. refl)

pub held_occupied : (x : Slot) → MayHold x → (is_occupied x ≡ true) ↔ (0 < x.number)
held_occupied x = occupied_by x.number x.body
