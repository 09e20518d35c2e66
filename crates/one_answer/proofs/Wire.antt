-- One answer of bytes, steps and distances, and of text and calls that stand one after another: each contract admits one (C-04).
use mathlib.Core.Path.{◌≡◌, refl, ap, ap₂}
use Rattle.kit.specs.Contracts.{OneAnswer}
use Rattle.kit.proofs.Contracts.{agree}
use Rattle.wire.proofs as wire
use Rattle.wire.specs.contracts as wire-contracts
use Rattle.text.proofs as text
use Rattle.text.specs.contracts as text-contracts
use Rattle.page.proofs as page
use Rattle.page.specs.contracts as page-contracts
use Rattle.page.proofs.Sheets.{agree_laid_on}
use Rattle.frames.proofs as frames
use Rattle.frames.specs.contracts as frames-contracts

-- ---- wire

pub wire-word : OneAnswer wire-contracts.word.ended wire.word.Reads.Learnt
wire-word κs handed answer other lasts others p q = (agree p q, refl)

pub wire-byte_at : OneAnswer wire-contracts.byte_at.ended wire.byte_at.Reads.Learnt
wire-byte_at κs handed answer other lasts others p q = (agree p q, refl)

pub wire-word_at : OneAnswer wire-contracts.word_at.ended wire.word_at.Reads.Learnt
wire-word_at κs handed answer other lasts others p q = (agree p q, refl)

pub wire-long_at : OneAnswer wire-contracts.long_at.ended wire.long_at.Reads.Learnt
wire-long_at κs handed answer other lasts others p q = (agree p q, refl)

pub wire-distance_of : OneAnswer wire-contracts.distance_of.ended wire.distance_of.Reads.Learnt
wire-distance_of κs handed answer other lasts others p q = (agree p q, refl)

pub wire-gap : OneAnswer wire-contracts.gap.ended wire.gap.Reads.Learnt
wire-gap κs handed answer other lasts others p q = (agree p q, refl)

-- ---- text

pub text-on : OneAnswer text-contracts.sheets.Sheet.on.ended text.sheets.Sheet.on.Reads.Learnt
text-on κs handed answer other lasts others p q =
    let same : answer ≡ other = ap₂ (λ buffer at. record { buffer = buffer; at = at }) (agree p.0 q.0) (agree p.1 q.1) in
    (same, refl)

pub text-put_byte : OneAnswer text-contracts.sheets.Sheet.put_byte.ended text.sheets.Sheet.put_byte.Reads.Learnt
text-put_byte κs handed answer other lasts others p q = (refl, ap (λ s. (s, (tt, tt))) (agree p q))

pub text-put_words : OneAnswer text-contracts.sheets.Sheet.put_words.ended text.sheets.Sheet.put_words.Reads.Learnt
text-put_words κs handed answer other lasts others p q = (refl, ap (λ s. (s, (tt, tt))) (agree p q))

pub text-put_decimal : OneAnswer text-contracts.sheets.Sheet.put_decimal.ended text.sheets.Sheet.put_decimal.Reads.Learnt
text-put_decimal κs handed answer other lasts others p q = (refl, ap (λ s. (s, (tt, tt))) (agree p q))

-- ---- page

pub page-put_byte_if : OneAnswer page-contracts.put_byte_if.ended page.put_byte_if.Reads.Learnt
page-put_byte_if κs handed answer other lasts others p q = (refl, ap (λ s. (tt, (tt, (s, tt)))) (agree_laid_on p q))

pub page-put_byte : OneAnswer page-contracts.put_byte.ended page.put_byte.Reads.Learnt
page-put_byte κs handed answer other lasts others p q = (refl, ap (λ s. (tt, (s, tt))) (agree_laid_on p q))

pub page-put_number : OneAnswer page-contracts.put_number.ended page.put_number.Reads.Learnt
page-put_number κs handed answer other lasts others p q = (refl, ap (λ s. (tt, (tt, (s, tt)))) (agree_laid_on p q))

pub page-put_short_number : OneAnswer page-contracts.put_short_number.ended page.put_short_number.Reads.Learnt
page-put_short_number κs handed answer other lasts others p q = (refl, ap (λ s. (tt, (tt, (s, tt)))) (agree_laid_on p q))

pub page-put_bare_number : OneAnswer page-contracts.put_bare_number.ended page.put_bare_number.Reads.Learnt
page-put_bare_number κs handed answer other lasts others p q = (refl, ap (λ s. (tt, (s, tt))) (agree_laid_on p q))

pub page-put_short_text : OneAnswer page-contracts.put_short_text.ended page.put_short_text.Reads.Learnt
page-put_short_text κs handed answer other lasts others p q = (refl, ap (λ s. (tt, (s, tt))) (agree_laid_on p q))

pub page-put_word : OneAnswer page-contracts.put_word.ended page.put_word.Reads.Learnt
page-put_word κs handed answer other lasts others p q = (refl, ap (λ s. (tt, (s, tt))) (agree_laid_on p q))

pub page-put_hexadecimal : OneAnswer page-contracts.put_hexadecimal.ended page.put_hexadecimal.Reads.Learnt
page-put_hexadecimal κs handed answer other lasts others p q = (refl, ap (λ s. (tt, (s, tt))) (agree_laid_on p q))

pub page-word_of : OneAnswer page-contracts.word_of.ended page.word_of.Reads.Learnt
page-word_of κs handed answer other lasts others p q = (agree p q, refl)

-- ---- frames

pub frames-call_size : OneAnswer frames-contracts.call_size.ended frames.call_size.Reads.Learnt
frames-call_size κs handed answer other lasts others p q = (agree p q, refl)

pub frames-first_size : OneAnswer frames-contracts.first_size.ended frames.first_size.Reads.Learnt
frames-first_size κs handed answer other lasts others p q = (agree p q, refl)
