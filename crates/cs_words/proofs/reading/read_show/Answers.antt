use Rattle.std.proofs.Common.{ℕ, arith}
use Rattle.std.proofs.lemmas.List.{length-map}
use Rattle.cs_types.specs.Stamp.{IsStamp, Spells, stamp_text}
use Rattle.cs_words.proofs.Samples.{some_stamp}
use Rattle.cs_words.proofs.Commands.{show_one, show_two, show_fault, show_four, show_four_words}
use Rattle.cs_words.proofs.reading.read_show.Goals as goal

spelled : ((us : ℕ) → IsStamp us → Spells (stamp_text us) us) → Spells (stamp_text some_stamp) some_stamp
spelled written = written some_stamp (omega arith, omega arith)

pub returns-in_default-clause-refused : goal.returns-in_default-clause-refused
returns-in_default-clause-refused c = show_one (spelled c.written_stamps_read_back.ensures.written) _ c.requires c.in_default.ensures

pub returns-in_default-stamp_word-clause-refused : goal.returns-in_default-stamp_word-clause-refused
returns-in_default-stamp_word-clause-refused c = show_two (spelled c.written_stamps_read_back.ensures.written) _ _ c.requires c.in-Some.ensures c.in_default-stamp_word.ensures

pub returns-in-Err-clause-refused : goal.returns-in-Err-clause-refused
returns-in-Err-clause-refused c = show_fault _ _ _ _ c.in-Err.fault c.requires c.in-Some.ensures c.in-Some-stamp_word.ensures.1 c.in-Some-stamp_word.ensures.2 c.in-Err.ensures.refused

pub returns-then-words-gt4-clause-refused : goal.returns-then-words-gt4-clause-refused
returns-then-words-gt4-clause-refused c = show_four _ _ _ _ _ c.in-Ok.query c.requires c.in-Some.ensures c.in-Some-stamp_word.ensures.1 c.in-Ok.ensures.query.1 c.in-Some-stamp_word.ensures.2 c.in-Ok.ensures.query.2 (rw length-map c.if-words-gt4.true)

pub returns-clause-read : goal.returns-clause-read
returns-clause-read c = record {
  moment_text = c.in-Some-stamp_word.ensures.0;
  query_text = c.in-Ok.ensures.query.0;
  are = rw c.in_ok-of.ensures (show_four_words _ _ _ _ c.requires c.in-Some.ensures c.in-Some-stamp_word.ensures.1 c.in-Ok.ensures.query.1 (rw length-map c.if-words-gt4.false));
  moment_is = c.in-Some-stamp_word.ensures.2;
  query_is = c.in-Ok.ensures.query.2;
}
