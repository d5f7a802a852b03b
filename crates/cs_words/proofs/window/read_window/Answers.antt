use Rattle.std.proofs.Common.{◌≡◌, ◌≤◌, List, ℕ, true, ap, sym, subst, ◌∙◌, arith}
use Rattle.std.proofs.lemmas.List.{length-map}
use Rattle.cs_types.specs.Stamp.{IsStamp, Spells, stamp_text}
use Rattle.cs_words.specs.Numbers.{is_name}
use Rattle.cs_words.proofs.Samples.{some_stamp}
use Rattle.cs_words.proofs.Windows.{window_zero, window_one, window_two, window_three, window_whole}
use Rattle.cs_words.proofs.Wrong.{none_some, same_word}
use Rattle.cs_words.proofs.window.read_window.Goals as goal

spelled : ((us : ℕ) → IsStamp us → Spells (stamp_text us) us) → Spells (stamp_text some_stamp) some_stamp
spelled written = written some_stamp (omega arith, omega arith)

pub returns-in_default-clause-refused : goal.returns-in_default-clause-refused
returns-in_default-clause-refused c = window_zero (spelled c.written_stamps_read_back.ensures.written) c.written_stamps_read_back.ensures.one _ (λ text e is. none_some (sym c.in_default.ensures ∙ e))

pub returns-then-not-is_name-clause-refused : goal.returns-then-not-is_name-clause-refused
returns-then-not-is_name-clause-refused c = window_zero (spelled c.written_stamps_read_back.ensures.written) c.written_stamps_read_back.ensures.one _ (λ text e is.
    let same : text ≡ c.in-Some.stream.now = same_word (sym e ∙ c.in-Some.ensures) in
    let named : is_name c.as_bytes.result.now ≡ true = ap is_name (c.as_bytes.ensures.value ∙ sym same) ∙ is in
    cc)

pub returns-in_default-stamp_word-clause-refused : goal.returns-in_default-stamp_word-clause-refused
returns-in_default-stamp_word-clause-refused c =
    let named : is_name c.in-Some.stream.now ≡ true = ap is_name (sym c.as_bytes.ensures.value) ∙ sym c.if-not-is_name.ensures in
    window_one (spelled c.written_stamps_read_back.ensures.written) c.written_stamps_read_back.ensures.one _ _ c.in-Some.ensures named c.in_default-stamp_word.ensures

pub returns-in_default-stamp_word-2-clause-refused : goal.returns-in_default-stamp_word-2-clause-refused
returns-in_default-stamp_word-2-clause-refused c =
    let named : is_name c.in-Some.stream.now ≡ true = ap is_name (sym c.as_bytes.ensures.value) ∙ sym c.if-not-is_name.ensures in
    window_two (spelled c.written_stamps_read_back.ensures.written) c.written_stamps_read_back.ensures.one _ _ _ _
    (record { zero_is = c.in-Some.ensures; name_is = named; one_is = c.in-Some-stamp_word.ensures.1; start_is = c.in-Some-stamp_word.ensures.2 }) (λ text at e is le. c.in_default-stamp_word-2.ensures text at e is)

pub returns-then-us-clause-refused : goal.returns-then-us-clause-refused
returns-then-us-clause-refused c =
    let named : is_name c.in-Some.stream.now ≡ true = ap is_name (sym c.as_bytes.ensures.value) ∙ sym c.if-not-is_name.ensures in
    window_two (spelled c.written_stamps_read_back.ensures.written) c.written_stamps_read_back.ensures.one _ _ _ _
    (record { zero_is = c.in-Some.ensures; name_is = named; one_is = c.in-Some-stamp_word.ensures.1; start_is = c.in-Some-stamp_word.ensures.2 })
    (λ text at e is le.
    let same : text ≡ c.in-Some-stamp_word-2.ensures.0 = same_word (sym e ∙ c.in-Some-stamp_word-2.ensures.1) in
    let stamp : at ≡ c.in-Some-stamp_word-2.end = c.written_stamps_read_back.ensures.one text at c.in-Some-stamp_word-2.end is (subst (λ (l : List ℕ). Spells l c.in-Some-stamp_word-2.end) (sym same) c.in-Some-stamp_word-2.ensures.2) in
    absurd (omega (arith, stamp, le, c.if-us.true, c.us.ensures.value, c.us-2.ensures.value)))

pub returns-then-words-gt3-clause-refused : goal.returns-then-words-gt3-clause-refused
returns-then-words-gt3-clause-refused c =
    let named : is_name c.in-Some.stream.now ≡ true = ap is_name (sym c.as_bytes.ensures.value) ∙ sym c.if-not-is_name.ensures in
    let order : c.in-Some-stamp_word.start ≤ c.in-Some-stamp_word-2.end = omega (arith, c.if-us.false, c.us.ensures.value, c.us-2.ensures.value) in
    window_three (spelled c.written_stamps_read_back.ensures.written) c.written_stamps_read_back.ensures.one _ _ _ _ _ _
    (record { zero_is = c.in-Some.ensures; name_is = named; one_is = c.in-Some-stamp_word.ensures.1; start_is = c.in-Some-stamp_word.ensures.2 })
    c.in-Some-stamp_word-2.ensures.1 c.in-Some-stamp_word-2.ensures.2 order (rw length-map c.if-words-gt3.true)

pub returns-clause-read : goal.returns-clause-read
returns-clause-read c =
    let named : is_name c.in-Some.stream.now ≡ true = ap is_name (sym c.as_bytes.ensures.value) ∙ sym c.if-not-is_name.ensures in
    let words = window_whole _ _ _ _ c.in-Some.ensures c.in-Some-stamp_word.ensures.1 c.in-Some-stamp_word-2.ensures.1 (rw length-map c.if-words-gt3.false) in
    record {
      start_text = c.in-Some-stamp_word.ensures.0;
      end_text = c.in-Some-stamp_word-2.ensures.0;
      are = rw c.in_ok-of.ensures words;
      name = rw c.in_ok-of.ensures named;
      start_is = c.in-Some-stamp_word.ensures.2;
      end_is = c.in-Some-stamp_word-2.ensures.2;
      in_order = omega (arith, c.if-us.false, c.us.ensures.value, c.us-2.ensures.value);
    }
