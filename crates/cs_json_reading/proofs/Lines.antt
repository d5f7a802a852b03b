-- The faults of a whole line.
use Rattle.std.proofs.Common.{◌≡◌, ◌<◌, ◌≤◌, ℕ, ◌+◌, ◌==◌, List, [], ◌∷◌, length, codes, Bool, true, false, Err, refl, ◌∙◌, rules, IsUtf8}
use Rattle.std.specs.Str.{is_utf8}
use Rattle.std.proofs.lemmas.Str.{IsUtf8-from_is_utf8, is_utf8-from_IsUtf8}
use Rattle.serde_json.specs.Data.{Data}
use Rattle.serde_json.specs.Find.{get}
use Rattle.serde_json.specs.Events.{items_len}
use Rattle.serde_json.specs.Read.{read}
use Rattle.serde_json.specs.View.{items_view}
use Rattle.serde_json.specs.declared.value.Value.{Value}
use Rattle.cs_records.specs.declared.faults.LineFault.TheVariants.{NotJson, TooLong}
use Rattle.cs_json_reading.specs.Missing.{count, elements}
use Rattle.cs_json_reading.specs.Line.{line_reading, bytes_reading, of_tree}

len_view : (xs : List Value) → items_len (items_view xs) ≡ length xs
len_view [] = refl
len_view (x ∷ xs) = rw (len_view xs) refl

count_is : (d : Data) (xs ys zs : List Value) → items_view xs ≡ elements (get (codes "child_partitions_record") d)
    → items_view ys ≡ elements (get (codes "data_change_record") d) → items_view zs ≡ elements (get (codes "heartbeat_record") d)
    → count d ≡ length xs + length ys + length zs
unfolding count
count_is d xs ys zs ex ey ez = rw (← ex, ← ey, ← ez, len_view xs, len_view ys, len_view zs) refl

pub count_is_one : (d : Data) (xs ys zs : List Value) → items_view xs ≡ elements (get (codes "child_partitions_record") d)
    → items_view ys ≡ elements (get (codes "data_change_record") d) → items_view zs ≡ elements (get (codes "heartbeat_record") d)
    → (length xs + length ys + length zs == 1) ≡ (count d == 1)
count_is_one d xs ys zs ex ey ez = rw (count_is d xs ys zs ex ey ez) refl

pub more_than_one : (d : Data) (xs ys zs : List Value) → items_view xs ≡ elements (get (codes "child_partitions_record") d)
    → items_view ys ≡ elements (get (codes "data_change_record") d) → items_view zs ≡ elements (get (codes "heartbeat_record") d)
    → 1 < length xs + length ys + length zs → false ≡ (count d == 1)
more_than_one d xs ys zs ex ey ez more = rw (count_is d xs ys zs ex ey ez) (search (rules, more))

pub too_long : (line : List ℕ) → 8388608 < length line → line_reading line ≡ Err TooLong
unfolding line_reading
too_long line h = search (rules, h)

pub short_enough : (line : List ℕ) → length line ≤ 8388608 → line_reading line ≡ bytes_reading line
unfolding line_reading
short_enough line h = search (rules, h)

is_no_text : (line : List ℕ) (b : Bool) → is_utf8 line ≡ b → ¬ (IsUtf8 line) → is_utf8 line ≡ false
is_no_text line true e bad = absurd (bad (IsUtf8-from_is_utf8 line e))
is_no_text line false e bad = e

bytes_bad : (line : List ℕ) → ¬ (IsUtf8 line) → bytes_reading line ≡ Err NotJson
unfolding bytes_reading
bytes_bad line bad = let e = is_no_text line (is_utf8 line) refl bad in rw e refl

pub bytes_text : (line : List ℕ) → IsUtf8 line → bytes_reading line ≡ of_tree (read line)
unfolding bytes_reading
bytes_text line is = let e = is_utf8-from_IsUtf8 line is in rw e refl

pub no_text : (line : List ℕ) → length line ≤ 8388608 → ¬ (IsUtf8 line) → line_reading line ≡ Err NotJson
no_text line h bad = short_enough line h ∙ bytes_bad line bad

pub of_text : (line : List ℕ) → length line ≤ 8388608 → IsUtf8 line → line_reading line ≡ of_tree (read line)
of_text line h is = short_enough line h ∙ bytes_text line is
