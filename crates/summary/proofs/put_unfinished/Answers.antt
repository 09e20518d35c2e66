-- `put_unfinished`: a line where some packet is held: the words, the step, the packets and the line feed, one after another.
use mathlib.Core.Path.{◌≡◌, sym, ap, ◌∙◌}
use mathlib.Core.Bool.{cond}
use mathlib.Core.List.{[], ◌++◌}
use borrow.Author.Rules.{rules}
use Rattle.kit.specs.Text.{ascii}
use Rattle.text.specs.Putting.{put_on}
use Rattle.text.proofs.Putting.{put_none, put_next}
use Rattle.summary.specs.Summaries.{with_number, unfinished_words, packets_word, packet_parts, unfinished_line, unfinished_part}
use Rattle.summary.proofs.Held.{held_any}
use Rattle.summary.proofs.put_unfinished.Goals as goal

pub returns-then-contains : goal.returns-then-contains
unfolding unfinished_part unfinished_line put_on
returns-then-contains c =
    let hand = c.args.hand in
    let sheet = c.args.sheet.now in
    let told = held_any hand.held (search rules) c.contains.ensures.value in
    let step = with_number unfinished_words hand.step in
    let parts = packet_parts hand.held in
    let first : c.put_numbered.new.sheet ≡ put_on step sheet = search rules in
    let line : c.put_byte.new.self ≡ put_on (step ++ (packets_word ++ (parts ++ ascii "\n"))) sheet =
    c.put_byte.ensures
    ∙ (ap (put_on (ascii "\n")) (c.put_packets.ensures ∙ ap (put_on parts) (c.put_words.ensures ∙ ap (put_on packets_word) first))
    ∙ (put_next parts (ascii "\n") (put_on packets_word (put_on step sheet))
    ∙ (put_next packets_word (parts ++ ascii "\n") (put_on step sheet)
    ∙ put_next step (packets_word ++ (parts ++ ascii "\n")) sheet))) in
    line ∙ ap (λ b. put_on (cond b (unfinished_line hand.step hand.held) []) sheet) (sym c.if-contains.true ∙ told)

pub returns-else-contains : goal.returns-else-contains
unfolding unfinished_part
returns-else-contains c =
    let hand = c.args.hand in
    let told = held_any hand.held (search rules) c.contains.ensures.value in
    sym (put_none c.args.sheet.now) ∙ ap (λ b. put_on (cond b (unfinished_line hand.step hand.held) []) c.args.sheet.now) (sym c.if-contains.false ∙ told)
