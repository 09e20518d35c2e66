-- What the lent memory means after each way through a hearing: the listener that the definition gives.
use Prim.Native.Nat.{ℕ, ◌-◌, ◌≤◌}
use mathlib.Core.Path.{◌≡◌, refl, sym, ap, ap₂, subst, ◌∙◌}
use mathlib.Core.Bool.{Bool, true, false, cond}
use mathlib.Core.List.{List}
use lib.Dec.{eqb}
use lib.ListN.{length, length-map}
use native.Mathlib.Omega.{arith}
use borrow.Author.Tests.{ne_eqb}
use Rattle.kit.proofs.Cases.{on, clash}
use Rattle.kit.proofs.Ladder.{refused-exactly, decides_such}
use Rattle.kit.proofs.Maps.{replicate-at}
use Rattle.condition.specs.Slots.{slot_count}
use Rattle.condition.specs.declared.slots.Slot.{Slot}
use Rattle.wire.specs.Verdicts.{verdict_accepted, verdict_refused as refusedBy}
use Rattle.telegram.specs.Tables.{packets, first_packet}
use Rattle.telegram.specs.Telegrams.{packet_in, step_in, telegram_of, read_rows, read_refusal, blank_telegram}
use Rattle.telegram.specs.declared.Telegram.{Telegram}
use Rattle.telegram.proofs.Rows.{read_refused, read-accepted, read-numbered, read-to_14}
use Rattle.memory.specs.Memory.{memory_size, set_from, picture_in, set_in}
use Rattle.memory.proofs.Slots.{length-table}
use Rattle.picture.specs.Pictures.{count_of, clashes}
use Rattle.marks.specs.Marks.{is_carried, marks_of}
use Rattle.hand.specs.Lent.{hand_in, begun_in, joined_in}
use Rattle.hand.specs.Sets.{begun, set_for, is_held, joined, is_whole}
use Rattle.hand.specs.declared.Hand.{Hand}
use Rattle.hand.proofs.Lent.{Below, begun-length, begun-below, begun-hand, joined_length, joined-below, joined-hand}
use Rattle.last_step.specs.LastSteps.{is_last, gap_from}
use Rattle.last_step.specs.Lent.{last_in}
use Rattle.std.specs.Prelude.{Option, Some}
use Rattle.listener.specs.Answers.{Told, Hearing, refused_as, as_repeat, as_held, taken_as, told_of}
use Rattle.listener.specs.Listeners.{carries, holding, taken_by, told_of_table, heard_of, hear_of}
use Rattle.listener.specs.Lent.{listener_in, memory_for, taken_with, shifted_in, taken_in, memory_after, LeftBy, HeardIn, Left, taken_left, judged_left, added_left}
use Rattle.listener.specs.declared.Answer.{Answer}
use Rattle.listener.specs.declared.Answer.TheVariants.{Refused}
use Rattle.listener.specs.declared.Listener.{Listener}
use Rattle.listener.proofs.Answers.{told-apart}
use Rattle.listener.proofs.Hearing.{hear-refused, hear_as, heard-last, heard_copy, heard-part, heard-clash, heard-taken}
use Rattle.listener.proofs.Shifted.{picture-below, last-below, keeps, both_below, shifted_means}

-- ---- the set that a telegram of this step number goes into, and the memory that has it

module _ (memory : List ℕ) (step : ℕ) where
  module _ (same : eqb (hand_in memory).step step ≡ true) where
    pub same_set : hand_in memory ≡ set_for (hand_in memory) step
    unfolding set_for
    same_set = rw same refl

    pub same_memory : memory ≡ memory_for memory step
    unfolding memory_for
    same_memory = rw same refl

  module _ (other : eqb (hand_in memory).step step ≡ false) where
    pub new-set : begun step ≡ set_for (hand_in memory) step
    unfolding set_for
    new-set = rw other refl

    pub new-memory : begun_in memory step ≡ memory_for memory step
    unfolding memory_for
    new-memory = rw other refl

    pub none-held : (packet : ℕ) → is_held (set_for (hand_in memory) step) packet ≡ false
    unfolding is_held begun
    none-held packet = ap (λ h. is_held h packet) (sym new-set) ∙ replicate-at packets (packet - first_packet) false

-- ---- a telegram that goes into a set

marks-length : (reach gap : ℕ) (before table : List Slot) → length table ≡ slot_count → length (marks_of reach gap before table) ≡ slot_count
unfolding marks_of
marks-length reach gap before table n = length-map table (is_carried reach gap before) ∙ n

module _ (memory telegram : List ℕ) (whole : length telegram ≡ 26) (packet : packet_in telegram ≤ 7) where
  -- what a telegram that the reader accepts leaves
  abbrev pub Listened : Told → List ℕ → Type 0
  Listened told after = LeftBy carries (heard_of carries (listener_in memory) (telegram_of telegram)) memory telegram told after

  abbrev before : Listener
  before = listener_in memory

  abbrev t : Telegram
  t = telegram_of telegram

  -- of the step last taken
  pub left-last : is_last (last_in memory) (step_in telegram) ≡ true → Listened as_repeat memory
  unfolding listener_in telegram_of
  left-last last = record { meant = sym (heard-last carries before t last); bytes = refl }

  -- `base` is the memory with the set that it goes into
  module _ (base : List ℕ) (long : length base ≡ memory_size) (for : base ≡ memory_for memory (step_in telegram)) (below : Below base memory)
      (own : hand_in base ≡ set_for (hand_in memory) (step_in telegram)) (later : is_last (last_in memory) (step_in telegram) ≡ false)
      (free : is_held (hand_in base) (packet_in telegram) ≡ false) where
    abbrev after : List ℕ
    after = joined_in base telegram

    abbrev with_it : Hand
    with_it = joined (set_for before.hand t.step) t

    after-long : length after ≡ memory_size
    after-long = joined_length base telegram ∙ long

    after-below : Below after memory
    after-below = both_below after base memory (joined-below base telegram packet) below

    joins : hand_in after ≡ with_it
    unfolding listener_in telegram_of
    joins = joined-hand base telegram long whole packet ∙ ap (λ h. joined h (telegram_of telegram)) own

    not_last : is_last before.last t.step ≡ false
    unfolding listener_in telegram_of
    not_last = later

    not-held : is_held (set_for before.hand t.step) t.packet ≡ false
    unfolding listener_in telegram_of
    not-held = ap (λ h. is_held h (packet_in telegram)) (sym own) ∙ free

    is_whole_lem : (b : Bool) → is_whole (hand_in after) ≡ b → is_whole with_it ≡ b
    is_whole_lem b e = ap is_whole (sym joins) ∙ e

    is-clash : (b : Bool) → clashes (set_in after) ≡ b → clashes with_it.slots ≡ b
    unfolding hand_in
    is-clash b e = ap (λ h. clashes h.slots) (sym joins) ∙ e

    left-part : is_whole (hand_in after) ≡ false → Listened as_held after
    left-part part =
        record {
          meant =
              ap (λ l. record { told = as_held; listener = l }) (keeps after memory after-below ∙ ap (holding before) joins)
              ∙ sym (heard-part carries before t not_last not-held (is_whole_lem false part));
          bytes = ap (λ m. joined_in m telegram) for;
        }

    left-clash : is_whole (hand_in after) ≡ true → clashes (set_in after) ≡ true → Listened (refused_as 15) (begun_in after 0)
    left-clash five clash =
        record {
          meant =
              ap (λ l. record { told = refused_as 15; listener = l })
              (keeps (begun_in after 0) memory (both_below (begun_in after 0) after memory (begun-below after 0) after-below) ∙ ap (holding before) (begun-hand after 0 after-long))
              ∙ sym (heard-clash carries before t not_last not-held (is_whole_lem true five) (is-clash true clash));
          bytes = ap (λ m. begun_in (joined_in m telegram) 0) for;
        }

    -- the answer and the listener, with the set as the memory has it
    taken-means : ◌≡◌ {A = Hearing} (record { told = (taken_left carries after).told; listener = listener_in (taken_in carries after) })
        (record { told = told_of_table before (hand_in after); listener = taken_by carries before (hand_in after) })
    unfolding taken_left taken_in taken_by hand_in listener_in
    taken-means =
        let gap : ℕ = gap_from (last_in after) (hand_in after).step in
        let marks : List Bool = marks_of carries gap (picture_in after) (set_in after) in
        let all : length marks ≡ slot_count = marks-length carries gap (picture_in after) (set_in after) (length-table after set_from) in
        ap (λ l. record { told = taken_as (hand_in after).step (count_of (set_in after)) gap; listener = l }) (shifted_means after (hand_in after).step marks after-long all)
        ∙ (λ i. record {
          told = taken_as (hand_in after).step (count_of (set_in after)) (gap_from (last-below after memory after-below i) (hand_in after).step);
          listener = record {
            picture = set_in after;
            marks = marks_of carries (gap_from (last-below after memory after-below i) (hand_in after).step) (picture-below after memory after-below i) (set_in after);
            last = Some (hand_in after).step;
            hand = begun 0;
          };
        })

    left-taken : is_whole (hand_in after) ≡ true → clashes (set_in after) ≡ false → Listened (taken_left carries after).told (taken_left carries after).memory
    unfolding taken_left
    left-taken five clash =
        record {
          meant =
              taken-means
              ∙ (ap (λ s. record { told = told_of_table before s; listener = taken_by carries before s }) joins
              ∙ sym (heard-taken carries before t not_last not-held (is_whole_lem true five) (is-clash false clash)));
          bytes = ap (λ m. taken_in carries (joined_in m telegram)) for;
        }

    pub left_added : (left : Left) → left ≡ added_left carries base telegram → Listened left.told left.memory
    unfolding added_left judged_left
    left_added left e =
        on (is_whole (hand_in after))
        (λ five.
        on (clashes (set_in after))
        (λ clash. subst (λ x. Listened x.told x.memory) (sym (e ∙ rw (five, clash) refl)) (left-clash five clash))
        (λ clash. subst (λ x. Listened x.told x.memory) (sym (e ∙ rw (five, clash) refl)) (left-taken five clash)))
        (λ part. subst (λ x. Listened x.told x.memory) (sym (e ∙ rw part refl)) (left-part part))

  -- ---- the ways of a telegram that the reader accepts

  module _ (long : length memory ≡ memory_size) (later : is_last (last_in memory) (step_in telegram) ≡ false) where
    module _ (same : eqb (hand_in memory).step (step_in telegram) ≡ true) where
      -- a second copy
      pub left_copy : is_held (hand_in memory) (packet_in telegram) ≡ true → Listened as_repeat memory
      unfolding listener_in telegram_of
      left_copy held =
          record {
            meant = sym (heard_copy carries before t later (ap (λ h. is_held h (packet_in telegram)) (sym (same_set memory (step_in telegram) same)) ∙ held));
            bytes = refl;
          }

      -- one more of the set in hand
      pub left-more : is_held (hand_in memory) (packet_in telegram) ≡ false → (left : Left) → left ≡ added_left carries memory telegram → Listened left.told left.memory
      left-more free left e =
          left_added memory long (same_memory memory (step_in telegram) same) (λ r p. refl) (same_set memory (step_in telegram) same) later free left e

    -- the first of a set that begins
    module _ (other : eqb (hand_in memory).step (step_in telegram) ≡ false) where
      pub left-first : (left : Left) → left ≡ added_left carries (begun_in memory (step_in telegram)) telegram → Listened left.told left.memory
      left-first left e =
          let own : hand_in (begun_in memory (step_in telegram)) ≡ set_for (hand_in memory) (step_in telegram) =
          begun-hand memory (step_in telegram) long ∙ new-set memory (step_in telegram) other in
          left_added (begun_in memory (step_in telegram)) (begun-length memory (step_in telegram) ∙ long) (new-memory memory (step_in telegram) other) (begun-below memory (step_in telegram)) own later
          (ap (λ h. is_held h (packet_in telegram)) own ∙ none-held memory (step_in telegram) other (packet_in telegram)) left e

    -- whichever set it goes into: a second copy, or one more
    module _ (ready : List ℕ) (e : ready ≡ memory_for memory (step_in telegram)) where
      pub left-found : is_held (set_for (hand_in memory) (step_in telegram)) (packet_in telegram) ≡ true → Listened as_repeat ready
      left-found held =
          on (eqb (hand_in memory).step (step_in telegram))
          (λ same.
          subst (Listened as_repeat) (same_memory memory (step_in telegram) same ∙ sym e)
          (left_copy same (ap (λ h. is_held h (packet_in telegram)) (same_set memory (step_in telegram) same) ∙ held)))
          (λ other. absurd (clash held (none-held memory (step_in telegram) other (packet_in telegram))))

      pub left-joined : is_held (set_for (hand_in memory) (step_in telegram)) (packet_in telegram) ≡ false → (left : Left) → left ≡ added_left carries ready telegram
          → Listened left.told left.memory
      left-joined free left added =
          on (eqb (hand_in memory).step (step_in telegram))
          (λ same.
          left-more same (ap (λ h. is_held h (packet_in telegram)) (same_set memory (step_in telegram) same) ∙ free) left
          (added ∙ ap (λ m. added_left carries m telegram) (e ∙ sym (same_memory memory (step_in telegram) same))))
          (λ other. left-first other left (added ∙ ap (λ m. added_left carries m telegram) (e ∙ sym (new-memory memory (step_in telegram) other))))

-- ---- the parts of a hearing, by what each call gave

module _ (memory : List ℕ) where
  pub taken_by_lem : (after : List ℕ) (step count gap : ℕ) (last : Option ℕ) (marks : List Bool) → step ≡ (hand_in memory).step → last ≡ last_in memory → gap ≡ gap_from last step
      → count ≡ count_of (set_in memory) → marks ≡ marks_of carries gap (picture_in memory) (set_in memory) → after ≡ shifted_in memory step marks
      → ◌≡◌ {A = Left} (record { told = taken_as step count gap; memory = after }) (taken_left carries memory)
  unfolding taken_left taken_in
  taken_by_lem after step count gap last marks s l g n m a =
      let gap' : gap ≡ gap_from (last_in memory) (hand_in memory).step = g ∙ ap₂ gap_from l s in
      let own : marks ≡ marks_of carries (gap_from (last_in memory) (hand_in memory).step) (picture_in memory) (set_in memory) =
      m ∙ ap (λ k. marks_of carries k (picture_in memory) (set_in memory)) gap' in
      let bytes : after ≡ shifted_in memory (hand_in memory).step (marks_of carries (gap_from (last_in memory) (hand_in memory).step) (picture_in memory) (set_in memory)) =
      a ∙ ap₂ (shifted_in memory) s own in
      λ i. record { told = taken_as (s i) (n i) (gap' i); memory = bytes i }

  pub judged_clash : (after : List ℕ) → clashes (set_in memory) ≡ true → after ≡ begun_in memory 0 → ◌≡◌ {A = Left} (record { told = refused_as 15; memory = after }) (judged_left carries memory)
  unfolding judged_left
  judged_clash after clash e = rw clash (ap (λ m. record { told = refused_as 15; memory = m }) e)

  pub judged_taken : (left : Left) → clashes (set_in memory) ≡ false → left ≡ taken_left carries memory → left ≡ judged_left carries memory
  unfolding judged_left
  judged_taken left clash e = rw clash e

  module _ (telegram after : List ℕ) (e : after ≡ joined_in memory telegram) where
    pub added_whole : (left : Left) → is_whole (hand_in after) ≡ true → left ≡ judged_left carries after → left ≡ added_left carries memory telegram
    unfolding added_left
    added_whole left five judged =
        let whole : is_whole (hand_in (joined_in memory telegram)) ≡ true = ap (λ m. is_whole (hand_in m)) (sym e) ∙ five in rw whole (judged ∙ ap (judged_left carries) e)

    pub added_part : is_whole (hand_in after) ≡ false → ◌≡◌ {A = Left} (record { told = as_held; memory = after }) (added_left carries memory telegram)
    unfolding added_left
    added_part part =
        let whole : is_whole (hand_in (joined_in memory telegram)) ≡ false = ap (λ m. is_whole (hand_in m)) (sym e) ∙ part in rw whole (ap (λ m. record { told = as_held; memory = m }) e)

-- ---- what the reader says

module _ (memory telegram : List ℕ) where
  pub left-accepted : (answer : Answer) (after : List ℕ) → read_refusal telegram ≡ 0
      → LeftBy carries (heard_of carries (listener_in memory) (telegram_of telegram)) memory telegram (told_of answer) after → HeardIn carries memory telegram answer after
  left-accepted answer after e left =
      record {
        meant =
            left.meant
            ∙ sym
            (ap (hear_of carries (listener_in memory)) (read-accepted telegram 0 (sym e) refl)
            ∙ hear_as carries (listener_in memory) (record { verdict = verdict_accepted; telegram = telegram_of telegram }) refl);
        bytes = left.bytes;
      }

  not_fifteen : (refusal : ℕ) → refusal ≡ read_refusal telegram → (refusal ≡ 0 → ⊥) → refusal ≡ 15 → ⊥
  not_fifteen refusal e n same =
      let row = (refused-exactly (read_rows telegram) (read-numbered telegram) refusal (omega arith)).0 (sym e) in
      omega (arith, decides_such (λ k. k ≤ 14) (read_rows telegram) refusal (read-to_14 telegram) row)

  pub left-refused : (refusal : ℕ) → refusal ≡ read_refusal telegram → (refusal ≡ 0 → ⊥) → HeardIn carries memory telegram (Refused refusal) memory
  left-refused refusal e n =
      record {
        meant =
            sym
            (ap (hear_of carries (listener_in memory)) (read_refused telegram refusal e n)
            ∙ hear-refused carries (listener_in memory) (record { verdict = refusedBy refusal; telegram = blank_telegram }) refusal refl);
        bytes = sym (ap (λ b. cond b (begun_in (taken_with memory telegram) 0) memory) (ne_eqb refusal 15 (not_fifteen refusal e n)));
      }

-- C-04: two outcomes that it allows are the same, byte for byte
module _ {memory telegram after₁ after₂ : List ℕ} {answer₁ answer₂ : Answer} where
  pub heard_once : HeardIn carries memory telegram answer₁ after₁ → HeardIn carries memory telegram answer₂ after₂ → (answer₁ ≡ answer₂) × (after₁ ≡ after₂)
  heard_once p q =
      let same : told_of answer₁ ≡ told_of answer₂ = ap (λ (h : Hearing). h.told) (p.meant ∙ sym q.meant) in
      (told-apart answer₁ answer₂ same, p.bytes ∙ (ap (λ told. memory_after carries told memory telegram) same ∙ sym q.bytes))
