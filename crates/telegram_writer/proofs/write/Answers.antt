-- `write`: the packet by the test that led there, the length by whether the buffer is an array of 26 bytes.
use Rattle.std.proofs.Common.{◌≡◌, length, refl, sym, ◌∙◌, arith, rules}
use Rattle.kit.specs.Ladder.{ladder}
use Rattle.telegram.specs.Telegrams.{write_refusal}
use Rattle.telegram.proofs.Rows.{write-refused, write-accepted}
use Rattle.telegram_writer.proofs.write.Goals as goal

pub returns-then-not-contains : goal.returns-then-not-contains
unfolding ladder
returns-then-not-contains c =
    let a = c.args in
    let same : 9 ≡ write_refusal a.telegram.packet (length a.buffer.now) = search rules in
    let w = write-refused a.telegram a.buffer.now 9 same (λ z. omega arith) in
    (sym w.0, sym w.1)

pub returns-in-None : goal.returns-in-None
unfolding ladder
returns-in-None c =
    let a = c.args in
    let same : 10 ≡ write_refusal a.telegram.packet (length a.buffer.now) = search rules in
    let w = write-refused a.telegram a.buffer.now 10 same (λ z. omega arith) in
    (sym w.0, sym w.1)

pub returns-in-Some : goal.returns-in-Some
unfolding ladder
returns-in-Some c =
    let a = c.args in
    let same : 0 ≡ write_refusal a.telegram.packet (length a.buffer.now) = search rules in
    let w = write-accepted a.telegram a.buffer.now 0 same refl in
    (sym w.0, c.put_telegram.ensures ∙ sym w.1)
