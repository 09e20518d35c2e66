-- One answer of the listing, and those that other languages call: each contract admits one (C-04).
use mathlib.Core.Path.{refl, ap}
use Rattle.claims.proofs.Demand1.{demand1}
use Rattle.kit.proofs.Cases.{given}
use Rattle.kit.specs.Contracts.{OneAnswer}
use Rattle.kit.proofs.Contracts.{agree, agree-poured}
use Rattle.listing_words.proofs as listing-words
use Rattle.listing_words.specs.contracts as listing-words-contracts
use Rattle.listing_lines.proofs as listing-lines
use Rattle.listing_lines.specs.contracts as listing-lines-contracts
use Rattle.listing_reader.proofs as listing-reader
use Rattle.listing_reader.specs.contracts as listing-reader-contracts
use Rattle.listing_tables.proofs as listing-tables
use Rattle.listing_tables.specs.contracts as listing-tables-contracts
use Rattle.lister.proofs as lister
use Rattle.lister.specs.contracts as lister-contracts
use Rattle.hearing_runs.proofs as hearing-runs
use Rattle.hearing_runs.specs.contracts as hearing-runs-contracts
use Rattle.listing.proofs as listing
use Rattle.listing.specs.contracts as listing-contracts
use Rattle.summary.proofs as summary
use Rattle.summary.specs.contracts as summary-contracts
use Rattle.listing_length.proofs as listing-length
use Rattle.listing_length.specs.contracts as listing-length-contracts
use Rattle.exports.proofs as exports
use Rattle.exports.specs.contracts as exports-contracts

-- ---- listing_words

pub listing_words-put_number : OneAnswer listing-words-contracts.put_number.ended listing-words.put_number.Reads.Learnt
listing_words-put_number κs handed answer other lasts others p q = (refl, ap (λ sheet. (tt, (tt, (sheet, tt)))) (agree p q))

-- ---- listing_lines

pub listing_lines-put_header : OneAnswer listing-lines-contracts.put_header.ended listing-lines.put_header.Reads.Learnt
listing_lines-put_header κs handed answer other lasts others p q = (refl, ap (λ sheet. (sheet, tt)) (agree p q))

pub listing_lines-put_refused : OneAnswer listing-lines-contracts.put_refused.ended listing-lines.put_refused.Reads.Learnt
listing_lines-put_refused κs handed answer other lasts others p q = (refl, ap (λ sheet. (tt, (sheet, tt))) (agree p q))

pub listing_lines-put_end : OneAnswer listing-lines-contracts.put_end.ended listing-lines.put_end.Reads.Learnt
listing_lines-put_end κs handed answer other lasts others p q = (refl, ap (λ sheet. (tt, (sheet, tt))) (agree p q))

-- ---- listing_reader

pub listing_reader-word_of : OneAnswer listing-reader-contracts.word_of.ended listing-reader.word_of.Reads.Learnt
listing_reader-word_of κs handed answer other lasts others p q = (agree p q, refl)

pub listing_reader-code_of : OneAnswer listing-reader-contracts.code_of.ended listing-reader.code_of.Reads.Learnt
listing_reader-code_of κs handed answer other lasts others p q = (agree p q, refl)

-- ---- listing_tables

pub listing_tables-put_heard : OneAnswer listing-tables-contracts.put_heard.ended listing-tables.put_heard.Reads.Learnt
listing_tables-put_heard κs handed answer other lasts others p q = (refl, ap (λ sheet. (tt, (tt, (sheet, tt)))) (agree p q))

pub listing_tables-tables_of : OneAnswer listing-tables-contracts.tables_of.ended listing-tables.tables_of.Reads.Learnt
listing_tables-tables_of κs handed answer other lasts others p q = (agree p q, refl)

-- ---- lister

pub lister-begun : OneAnswer lister-contracts.Lister.begun.ended lister.Lister.begun.Reads.Learnt
lister-begun κs handed answer other lasts others p q = (agree p q, refl)

pub lister-take : OneAnswer lister-contracts.Lister.take.ended lister.Lister.take.Reads.Learnt
lister-take κs handed answer other lasts others p q = (agree p.0 q.0, ap (λ sheet. (tt, (tt, (sheet, tt)))) (agree p.1 q.1))

-- the contract of `listener::hear_in`, word for word
pub lister-hear_in : OneAnswer lister-contracts.hear_in.ended lister.hear_in.Reads.Learnt
lister-hear_in = demand1.telegrams_lent.defined

-- ---- hearing_runs

pub hearing_runs-hear : OneAnswer hearing-runs-contracts.hear.ended hearing-runs.hear.Reads.Learnt
hearing_runs-hear κs handed answer other lasts others p q = given (agree-poured p q) (λ (place, bytes). (place, ap (λ b. (tt, (b, tt))) bytes))

-- ---- listing

pub listing-finish : OneAnswer listing-contracts.finish.ended listing.finish.Reads.Learnt
listing-finish κs handed answer other lasts others p q = (refl, ap (λ sheet. (tt, (sheet, tt))) (agree p q))

pub listing-list : OneAnswer listing-contracts.list.ended listing.list.Reads.Learnt
listing-list κs handed answer other lasts others p q = given (agree-poured p q) (λ (place, bytes). (place, ap (λ b. (tt, (b, tt))) bytes))

-- ---- summary

pub summary-none : OneAnswer summary-contracts.Tally.none.ended summary.Tally.none.Reads.Learnt
summary-none κs handed answer other lasts others p q = (agree p q, refl)

pub summary-count : OneAnswer summary-contracts.Tally.count.ended summary.Tally.count.Reads.Learnt
summary-count κs handed answer other lasts others p q = (agree p q, refl)

pub summary-take : OneAnswer summary-contracts.Tally.take.ended summary.Tally.take.Reads.Learnt
summary-take κs handed answer other lasts others p q = (agree p q, refl)

pub summary-put : OneAnswer summary-contracts.put.ended summary.put.Reads.Learnt
summary-put κs handed answer other lasts others p q = (refl, ap (λ sheet. (tt, (tt, (sheet, tt)))) (agree p q))

-- ---- listing_length

pub listing_length-length_of : OneAnswer listing-length-contracts.length_of.ended listing-length.length_of.Reads.Learnt
listing_length-length_of κs handed answer other lasts others p q = (agree p q, refl)

-- ---- exports

pub exports-bravolith_list : OneAnswer exports-contracts.bravolith_list.ended exports.bravolith_list.Reads.Learnt
exports-bravolith_list κs handed answer other lasts others p q = given (agree-poured p q) (λ (place, bytes). (place, ap (λ b. (tt, (b, tt))) bytes))

pub exports-bravolith_list_length : OneAnswer exports-contracts.bravolith_list_length.ended exports.bravolith_list_length.Reads.Learnt
exports-bravolith_list_length κs handed answer other lasts others p q = (agree p q, refl)

pub exports-bravolith_hear : OneAnswer exports-contracts.bravolith_hear.ended exports.bravolith_hear.Reads.Learnt
exports-bravolith_hear κs handed answer other lasts others p q = given (agree-poured p q) (λ (place, bytes). (place, ap (λ b. (tt, (b, tt))) bytes))

pub exports-bravolith_run : OneAnswer exports-contracts.bravolith_run.ended exports.bravolith_run.Reads.Learnt
exports-bravolith_run κs handed answer other lasts others p q = given (agree-poured p q) (λ (place, bytes). (place, ap (λ b. (tt, (b, tt))) bytes))

pub exports-bravolith_run_lines : OneAnswer exports-contracts.bravolith_run_lines.ended exports.bravolith_run_lines.Reads.Learnt
exports-bravolith_run_lines κs handed answer other lasts others p q = given (agree-poured p q) (λ (place, bytes). (place, ap (λ b. (tt, (b, tt))) bytes))

pub exports-bravolith_write : OneAnswer exports-contracts.bravolith_write.ended exports.bravolith_write.Reads.Learnt
exports-bravolith_write κs handed answer other lasts others p q = (agree p.0 q.0, ap (λ b. (tt, (tt, (b, tt)))) (agree p.1 q.1))

pub exports-bravolith_signals : OneAnswer exports-contracts.bravolith_signals.ended exports.bravolith_signals.Reads.Learnt
exports-bravolith_signals κs handed answer other lasts others p q = given (agree-poured p q) (λ (place, bytes). (place, ap (λ b. (tt, (b, tt))) bytes))

pub exports-bravolith_word : OneAnswer exports-contracts.bravolith_word.ended exports.bravolith_word.Reads.Learnt
exports-bravolith_word κs handed answer other lasts others p q = (agree p q, refl)
