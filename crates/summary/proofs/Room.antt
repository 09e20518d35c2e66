-- Every summary has room in a buffer of 1,536 bytes: it has at most 1,314.
use Prim.Native.Nat.{ℕ, zero, suc, ◌+◌, ◌^◌, ◌<◌, ◌≤◌}
use mathlib.Core.Path.{◌≡◌, subst⁻¹}
use mathlib.Core.Bool.{Bool}
use mathlib.Core.List.{List, [], ◌∷◌, ◌++◌}
use lib.Dec.{eqb, ltb}
use lib.ListN.{length, get_or, length-append, get_or-eq_default}
use native.Mathlib.Omega.{arith}
use borrow.Author.Tests.{ltb-true, ltb-false}
use Rattle.kit.specs.Loops.{any}
use Rattle.kit.specs.Put.{Put, Poured}
use Rattle.kit.specs.Text.{ascii}
use Rattle.kit.proofs.Cases.{on, given}
use Rattle.kit.proofs.Each.{length-each-within}
use Rattle.kit.proofs.Put.{poured-put}
use Rattle.kit.proofs.Stores.{sets-each}
use Rattle.text.specs.Decimals.{decimal}
use Rattle.text.specs.Words.{refused_word}
use Rattle.text.proofs.Numerals.{decimal-short}
use Rattle.telegram.specs.Tables.{packets}
use Rattle.hand.specs.declared.Hand.{Hand}
use Rattle.listener.specs.Answers.{Told}
use Rattle.lister.specs.Hearings.{telegrams_in}
use Rattle.lister.specs.Pieces.{most_tables, after_kept, MadeByPieces}
use Rattle.lister.specs.declared.Lister.{Lister}
use Rattle.lister.proofs.Kept.{made_kept}
use Rattle.summary.specs.Counts.{told_through, took_table, was_repeat, was_refused, for_each_number, none_refused, refusals_told, tally_of}
use Rattle.summary.specs.Rooms.{Countable, summary_room}
use Rattle.summary.specs.Summaries.{with_number, telegrams_word, tables_word, repeats_word, count_word, place_words, unfinished_words, packets_word, tail_words, bytes_word, count_line, count_lines, refusal_line, refusal_part, refusal_at, refusal_parts, packet_held, packet_part, packet_at, packet_parts, unfinished_line, unfinished_part, tail_part, summary_of}
use Rattle.summary.specs.Tallies.{one_more, known_or, more_if, refused_more, store_if, counted, counted_all, counted_piece}
use Rattle.summary.specs.declared.Refusals.{Refusals}
use Rattle.summary.specs.declared.Tally.{Tally}
use Rattle.summary.proofs.Counting.{row-long, row_at}
use Rattle.summary.proofs.Steps.{made-below}

-- ---- the counts are such that a number of 64 bits packet_held them

module _ {A : Type 0} (other : A) (Fits : A → Type 0) where
  pub row_fits : (of : ℕ → A) → ((number : ℕ) → Fits (of number)) → Fits other → (i : ℕ) → Fits (get_or (for_each_number of) i other)
  row_fits of each none i =
      on (ltb i 16)
      (λ inside. subst⁻¹ Fits (row_at other of i (ltb-true i 16 inside)) (each i))
      (λ past. subst⁻¹ Fits (get_or-eq_default (for_each_number of) other {n = i} (omega (arith, row-long of, ltb-false i 16 past))) none)

  one-fits : (value : A) → Fits value → (i : ℕ) → i < length (value ∷ []) → Fits (get_or (value ∷ []) i other)
  one-fits value own zero p = own
  one-fits value own (suc i) p = absurd (omega arith)

  store_fits : (so : Bool) (row : List A) (at : ℕ) (value : A) → ((i : ℕ) → Fits (get_or row i other)) → Fits value
      → (i : ℕ) → Fits (get_or (store_if so row at value) i other)
  store_fits so row at value fits own i =
      on so (λ e. rw e (sets-each other Fits (value ∷ []) row at (one-fits value own) fits i)) (λ e. rw e (fits i))

-- what a row's places say of the counts and of the places
abbrev pub CountFits : Refusals → Type 0
CountFits refused = refused.count ≤ most_tables

abbrev pub FirstFits : Refusals → Type 0
FirstFits refused = refused.first ≤ most_tables

pub tally-fits : (told : List Told) → Countable (tally_of told)
unfolding tally_of
tally-fits told =
    record {
      telegrams = omega arith;
      tables = omega arith;
      repeats = omega arith;
      refused = row_fits none_refused CountFits (refusals_told told) (λ number. omega arith) (omega arith);
      first = row_fits none_refused FirstFits (refusals_told told) (λ number. omega arith) (omega arith);
    }

first_fits : (known place : ℕ) → known ≤ most_tables → place ≤ most_tables → known_or known place ≤ most_tables
first_fits known place a b = on (eqb known 0) (λ e. rw e b) (λ e. rw e a)

more-fits : (so : Bool) (count : ℕ) → count ≤ most_tables → more_if so count ≤ most_tables
more-fits so count most = on so (λ e. rw e (omega arith)) (λ e. rw e most)

pub counted-fits : (tally : Tally) → Countable tally → (told : Told) → Countable (counted tally told)
unfolding counted
counted-fits tally fits told =
    let number = told.number in
    let known = get_or tally.refused number none_refused in
    let place = one_more tally.telegrams in
    let more = refused_more known place in
    record {
      telegrams = omega arith;
      tables = more-fits (took_table told) tally.tables fits.tables;
      repeats = more-fits (was_repeat told) tally.repeats fits.repeats;
      refused = store_fits none_refused CountFits (was_refused told) tally.refused number more fits.refused (omega arith);
      first = store_fits none_refused FirstFits (was_refused told) tally.refused number more fits.first (first_fits known.first place (fits.first number) (omega arith));
    }

all-fits : (tally : Tally) → Countable tally → (told : List Told) → Countable (counted_all tally told)
unfolding counted_all
all-fits tally fits [] = fits
all-fits tally fits (one ∷ more) = all-fits (counted tally one) (counted-fits tally fits one) more

pub piece_fits : (tally : Tally) → Countable tally → (lister : Lister) (piece : List ℕ) → Countable (counted_piece tally lister piece)
unfolding counted_piece
piece_fits tally fits lister piece = all-fits tally fits (told_through lister.listener (telegrams_in (after_kept lister piece)))

-- ---- how long the lines are at most

numbered-short : (words : List ℕ) (k number : ℕ) → number < 10 ^ k → 1 ≤ k → length (with_number words number) ≤ length words + k
numbered-short words k number small some = omega (arith, length-append words (decimal number), decimal-short k number small some)

-- a number of 64 bits has at most twenty digits
numbered-most : (words : List ℕ) (number : ℕ) → number ≤ most_tables → length (with_number words number) ≤ length words + 20
numbered-most words number most = numbered-short words 20 number (omega arith) (omega arith)

count-short : (word : List ℕ) (count : ℕ) → count ≤ most_tables → length (count_line word count) ≤ length word + 21
count-short word count most = omega (arith, length-append (with_number word count) (ascii "\n"), numbered-most word count most)

counts-short : (telegrams tables repeats : ℕ) → telegrams ≤ most_tables → tables ≤ most_tables → repeats ≤ most_tables → length (count_lines telegrams tables repeats) ≤ 88
unfolding count_lines
counts-short telegrams tables repeats a b c =
    omega (
      arith,
      length-append (count_line telegrams_word telegrams) (count_line tables_word tables ++ count_line repeats_word repeats),
      length-append (count_line tables_word tables) (count_line repeats_word repeats),
      count-short telegrams_word telegrams a,
      count-short tables_word tables b,
      count-short repeats_word repeats c,
    )

refusal-short : (number count place : ℕ) → number < 100 → count ≤ most_tables → place ≤ most_tables → length (refusal_line number count place) ≤ 73
unfolding refusal_line
refusal-short number count place n c p =
    omega (
      arith,
      length-append (with_number refused_word number) (with_number count_word count ++ (with_number place_words place ++ ascii "\n")),
      length-append (with_number count_word count) (with_number place_words place ++ ascii "\n"),
      length-append (with_number place_words place) (ascii "\n"),
      numbered-short refused_word 2 number n (omega arith),
      numbered-most count_word count c,
      numbered-most place_words place p,
    )

part-short : (number count place : ℕ) → number < 100 → count ≤ most_tables → place ≤ most_tables → length (refusal_part number count place) ≤ 73
unfolding refusal_part
part-short number count place n c p = on (eqb count 0) (λ e. rw e (omega arith)) (λ e. rw e (refusal-short number count place n c p))

parts_short : (tally : Tally) → Countable tally → length (refusal_parts tally.refused) ≤ 1168
unfolding refusal_parts
parts_short tally fits =
    omega (
      arith,
      length-each-within (refusal_at tally.refused) 73 0 16
          (λ i p.
          let refused = get_or tally.refused i none_refused in
          part-short i refused.count refused.first (omega arith) (fits.refused i) (fits.first i)),
    )

packet-short : (held : Bool) (packet : ℕ) → packet < 10 → length (packet_part held packet) ≤ 2
unfolding packet_part
packet-short held packet p = on held (λ e. rw e (numbered-short (ascii " ") 1 packet p (omega arith))) (λ e. rw e (omega arith))

packets-short : (held : List Bool) → length (packet_parts held) ≤ 10
unfolding packet_parts
packets-short held =
    omega (arith, length-each-within (packet_at held) 2 0 packets (λ i p. packet-short (packet_held held i) (i + 3) (omega arith)))

unfinished_short : (step : ℕ) (held : List Bool) → step < 10000 → length (unfinished_line step held) ≤ 41
unfolding unfinished_line
unfinished_short step held small =
    omega (
      arith,
      length-append (with_number unfinished_words step) (packets_word ++ (packet_parts held ++ ascii "\n")),
      length-append packets_word (packet_parts held ++ ascii "\n"),
      length-append (packet_parts held) (ascii "\n"),
      numbered-short unfinished_words 4 step small (omega arith),
      packets-short held,
    )

hand-short : (hand : Hand) → hand.step < 10000 → length (unfinished_part hand) ≤ 41
unfolding unfinished_part
hand-short hand small = on (any (packet_held hand.held) 0 packets) (λ e. rw e (unfinished_short hand.step hand.held small)) (λ e. rw e (omega arith))

tail-short : (kept : ℕ) → kept < 100 → length (tail_part kept) ≤ 17
unfolding tail_part
tail-short kept small =
    on (eqb kept 0) (λ e. rw e (omega arith)) (λ e. rw e (omega (arith, length-append (with_number tail_words kept) bytes_word, numbered-short tail_words 2 kept small (omega arith))))

-- ---- what has room

module _ (tally : Tally) (fits : Countable tally) {lister : Lister} (made : MadeByPieces lister) where
  pub summary-short : length (summary_of tally lister) ≤ 1314
  unfolding summary_of
  summary-short =
      let counts = count_lines tally.telegrams tally.tables tally.repeats in
      let refusals = refusal_parts tally.refused in
      let unfinished = unfinished_part lister.listener.hand in
      let end = tail_part lister.kept in
      given (made_kept made)
      (λ (bytes, k).
      omega (
        arith,
        length-append counts (refusals ++ (unfinished ++ end)),
        length-append refusals (unfinished ++ end),
        length-append unfinished end,
        counts-short tally.telegrams tally.tables tally.repeats fits.telegrams fits.tables fits.repeats,
        parts_short tally fits,
        hand-short lister.listener.hand (omega (arith, made-below made)),
        tail-short lister.kept (omega (arith, k.short, k.counted)),
      ))

  -- so that a buffer of that size takes it all
  pub summary-put : {before after : List ℕ} {next : ℕ} → length before ≡ summary_room → Poured before 0 (summary_of tally lister) after next → Put before 0 (summary_of tally lister) after next
  summary-put room poured = poured-put (omega (arith, summary-short)) poured
