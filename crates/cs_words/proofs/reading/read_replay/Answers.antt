use Rattle.std.proofs.Common.{ℕ, sym, drop, take, map, string_bytes, arith}
use Rattle.std.proofs.lemmas.List.{length-map}
use Rattle.cs_types.specs.Stamp.{IsStamp, Spells, stamp_text}
use Rattle.cs_words.proofs.Samples.{some_stamp}
use Rattle.cs_words.proofs.Commands.{replay_one, replay_two, replay_three, wrong_in_replay, replay_whole, replay_options_wrong}
use Rattle.cs_words.proofs.Wrong.{within_at}
use Rattle.cs_words.proofs.reading.read_replay.Goals as goal

spelled : ((us : ℕ) → IsStamp us → Spells (stamp_text us) us) → Spells (stamp_text some_stamp) some_stamp
spelled written = written some_stamp (omega arith, omega arith)

pub returns-in_default-clause-refused : goal.returns-in_default-clause-refused
returns-in_default-clause-refused c = replay_one (spelled c.written_stamps_read_back.ensures.written) _ c.requires c.in_default.ensures

pub returns-in_default-word_at-clause-refused : goal.returns-in_default-word_at-clause-refused
returns-in_default-word_at-clause-refused c = replay_two (spelled c.written_stamps_read_back.ensures.written) _ _ c.requires c.in-Some.ensures c.in_default-word_at.ensures

pub returns-in_default-word_at-2-clause-refused : goal.returns-in_default-word_at-2-clause-refused
returns-in_default-word_at-2-clause-refused c = replay_three (spelled c.written_stamps_read_back.ensures.written) _ _ _ c.requires c.in-Some.ensures c.in-Some-word_at.ensures c.in_default-word_at-2.ensures

pub three_behind-requires : goal.three_behind-requires
three_behind-requires c =
    let h = within_at _ 3 _ c.in-Some-word_at-2.ensures in
    omega (arith, rw length-map at h)

pub returns-in-Err-clause-refused : goal.returns-in-Err-clause-refused
returns-in-Err-clause-refused c =
    let window = rw c.three_behind.ensures at c.in-Ok.ensures.read in
    replay_options_wrong c.written_stamps_read_back.ensures.one _ _ _ _ c.in-Ok.field-0 c.in-Err.fault c.requires c.in-Some.ensures c.in-Some-word_at.ensures c.in-Some-word_at-2.ensures window c.in-Err.ensures.refused

pub returns-in_ok-of-in-Ok-3-clause-read : goal.returns-in_ok-of-in-Ok-3-clause-read
returns-in_ok-of-in-Ok-3-clause-read c = record {
  next = take 3 (drop 4 (map string_bytes c.args.words.now));
  last = drop 7 (map string_bytes c.args.words.now);
  are = rw (c.in_ok-of-in-Ok.ensures, c.in_ok-of-in-Ok-2.ensures, c.in_ok-of-in-Ok-3.ensures) (replay_whole _ _ _ _ c.requires c.in-Some.ensures c.in-Some-word_at.ensures c.in-Some-word_at-2.ensures);
  window = rw (sym c.three_behind.ensures) c.in-Ok.ensures.read;
  options_are = c.in-Ok-read_options.ensures.read;
}

pub returns-in-Err-At-clause-refused : goal.returns-in-Err-At-clause-refused
returns-in-Err-At-clause-refused c =
    let wrong = rw (c.in-Err-At.field-0-is, c.three_behind.ensures) at c.in-Err-At.ensures.refused in
    rw c.in-Err-At.place-is (wrong_in_replay _ _ _ _ c.in-Err-At.place c.requires c.in-Some.ensures c.in-Some-word_at.ensures c.in-Some-word_at-2.ensures wrong)
