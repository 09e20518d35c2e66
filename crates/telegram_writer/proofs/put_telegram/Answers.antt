-- `put_telegram`: the head, and after k turns the first k slots; all of them fill the buffer from its start to its end.
use Rattle.std.proofs.Common.{ℕ, ◌+◌, ◌-◌, ◌*◌, ◌/◌, ◌%◌, ◌≤◌, ◌≡◌, List, [], ◌∷◌, length, refl, sym, ap, ◌∙◌, arith, rules}
use borrow.Rule.Slice.PartMut.{put_mid}
use Rattle.kit.specs.Bytes.{word_bytes}
use Rattle.kit.specs.Each.{each}
use Rattle.kit.specs.Put.{Put}
use Rattle.kit.proofs.Parts.{part-stored}
use Rattle.kit.proofs.Put.{put_none_lem, put_then, put_as, put-each, put-length, put_whole}
use Rattle.condition.specs.Slots.{six_of}
use Rattle.telegram.specs.Telegrams.{six_at, head_of, bytes_of}
use Rattle.telegram_writer.proofs.put_telegram.Goals as goal

-- a part of the buffer that is written over
module _ (l : List ℕ) (at n next : ℕ) (part bytes : List ℕ) (same : part ≡ bytes) (long : length bytes ≡ n) (fits : at + n ≤ length l) (past : next ≡ at + n) where
  part_put : Put l at bytes (put_mid at n l part) next
  part_put =
      let own : length part ≡ n = ap length same ∙ long in
      put_as (sym same) (record { stored = part-stored l at part n own fits; past = omega arith })

-- the head
module _ (l bytes : List ℕ) (packet step : ℕ) (long : length l ≡ 26) where
  abbrev head : ℕ
  head = head_of packet step

  put_head : bytes ≡ (head / 256 % 256) ∷ (head % 256) ∷ [] → Put l 0 (word_bytes head) (put_mid 0 2 l bytes) 2
  put_head e =
      let high : head / 256 % 256 ≡ head / 256 = omega arith in
      part_put l 0 2 2 bytes (word_bytes head) (e ∙ ap (λ (x : ℕ). x ∷ (head % 256) ∷ []) high) refl (omega arith) refl

pub loop-k-init : goal.loop-k-init
unfolding each
loop-k-init c =
    let a = c.args in
    let head = put_head a.buffer.now _ a.telegram.packet a.telegram.step c.told-buffer (c.copy_from_slice.ensures.after ∙ c.to_be_bytes.ensures) in
    (put-length head ∙ c.told-buffer, put_none_lem)

pub loop-k-preserved : goal.loop-k-preserved
unfolding six_of
loop-k-preserved c =
    let l = c.loop-k in
    let slots = c.args.telegram.slots in
    let same = c.copy_from_slice-in-loop-k.ensures.after ∙ (c.six_of.ensures ∙ ap six_of c.coded_of.ensures) in
    let six = part_put l.buffer (2 + 6 * l.k) (8 + 6 * l.k - (2 + 6 * l.k)) (2 + 6 * (l.k + 1)) _ (six_at slots l.k) same (omega arith) (omega (arith, l.invariant.0, c.loop-k-test.true)) (omega arith) in
    (put-length six ∙ l.invariant.0, put-each (six_at slots) l.k l.invariant.1 six)

pub returns : goal.returns
unfolding bytes_of each six_of
returns c =
    let l = c.loop-k in
    let a = c.args in
    let head = put_head a.buffer.now _ a.telegram.packet a.telegram.step c.told-buffer (c.copy_from_slice.ensures.after ∙ c.to_be_bytes.ensures) in
    let all : l.k ≡ 4 = search rules in
    put_whole c.told-buffer (put_then head (put_as (ap (each (six_at a.telegram.slots) 0) (sym all)) l.invariant.1))
