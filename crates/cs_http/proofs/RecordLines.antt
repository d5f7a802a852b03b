-- The lines of records are no closing lines, and have no line feed in them.
use Rattle.std.proofs.Common.{◌≡◌, ◌∙◌, ℕ, List, ◌∷◌, drop, take, length, nat_le, ◌+◌, ◌-◌, ◌&&◌, if◌then◌else◌, Bool, true, false, None, Some, Ok, refl, ap, sym, ◌≤◌, Result, Err, IfOk}
use Rattle.std.specs.Str.{bytes_eq}
use Rattle.json.specs.Print.{escape_byte}
use Rattle.cs_types.specs.Stamp.{stamp_reading}
use Rattle.cs_types.specs.Texts.{HasNoEnd}
use Rattle.cs_records.specs.declared.records.Record.{Record}
use Rattle.cs_records.specs.declared.records.Record.TheVariants.{Change, Heartbeat, Children}
use Rattle.cs_link.specs.declared.reading.Closing.{Closing}
use Rattle.cs_link.specs.declared.reading.Step.{Step}
use Rattle.cs_json_reading.specs.Line.{line_reading}
use Rattle.cs_json.specs.Written.{record_data, record_line}
use Rattle.cs_http.specs.Line.{moment_front, moment_back, text_between, and_then, closing_reading, record_step, step_or, line_step}
use Rattle.cs_http.proofs.NoEnds.{text_no_end}
use Rattle.std.specs.Option.{option_map}

pub not_both : {A : Type 0} (a b : Bool) (x : A) → (if a && (false && b) then Some x else None) ≡ None
not_both true b x = refl
not_both false b x = refl

-- no closing line begins so
other_front : (rest : List ℕ) → text_between moment_front moment_back (123 ∷ 34 ∷ 99 ∷ 104 ∷ rest) ≡ None
other_front rest =
    let line : List ℕ = 123 ∷ 34 ∷ 99 ∷ 104 ∷ rest in
    not_both (nat_le (length moment_front + length moment_back) (length line)) (bytes_eq (drop (length line - length moment_back) line) moment_back) (take (length line - length moment_back - length moment_front) (drop (length moment_front) line))

no_closing : (rest : List ℕ) → closing_reading (123 ∷ 34 ∷ 99 ∷ 104 ∷ rest) ≡ None
unfolding closing_reading
no_closing rest = ap (λ t. option_map (λ at. Closing.CaughtUp at) (and_then stamp_reading t)) (other_front rest)

-- the line of a record begins so
begins : (r : Record) → record_line r ≡ 123 ∷ 34 ∷ 99 ∷ 104 ∷ drop 4 (record_line r)
unfolding escape_byte
begins (Change r) = refl
begins (Heartbeat at) = refl
begins (Children c) = refl

pub record_no_closing : (r : Record) → closing_reading (record_line r) ≡ None
record_no_closing r = ap closing_reading (begins r) ∙ no_closing (drop 4 (record_line r))

-- so it is read as its record
pub record_line_step : (r : Record) → line_reading (record_line r) ≡ Ok r → line_step (record_line r) ≡ Ok (Step.Record r)
unfolding line_step
record_line_step r h = ap (λ c. step_or c (line_reading (record_line r))) (record_no_closing r) ∙ ap record_step h

pub closing_line_step : (line : List ℕ) (c : Closing) → closing_reading line ≡ Some c → line_step line ≡ Ok (Step.Closing c)
unfolding line_step
closing_line_step line c h = ap (λ o. step_or o (line_reading line)) h

pub record_no_end : (r : Record) → HasNoEnd (record_line r)
record_no_end r = text_no_end (record_data r)

-- what is so of the line of a record
pub reads_as_record : {E : Type 0} (result : Result (List ℕ) E) (r : Record) → IfOk result (λ t. t ≡ record_line r) → IfOk result (λ t. length t ≤ 8388608 → line_reading t ≡ Ok r) → IfOk result (λ t. length t ≤ 8388608 → line_step t ≡ Ok (Step.Record r))
reads_as_record (Ok t) r is reads = λ short. ap line_step is ∙ record_line_step r (sym (ap line_reading is) ∙ reads short)
reads_as_record (Err e) r is reads = tt

pub reads_as_closing : {E : Type 0} (result : Result (List ℕ) E) (c : Closing) → IfOk result (λ t. closing_reading t ≡ Some c) → IfOk result (λ t. line_step t ≡ Ok (Step.Closing c))
reads_as_closing (Ok t) c reads = closing_line_step t c reads
reads_as_closing (Err e) c reads = tt
