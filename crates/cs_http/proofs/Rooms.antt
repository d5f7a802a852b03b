-- The line of a step has at most so many bytes.
use Rattle.std.proofs.Common.{◌≡◌, ◌≤◌, ◌+◌, ◌*◌, ◌/◌, ◌%◌, ◌==◌, cond, nat_lt, ℕ, zero, suc, pos, List, [], ◌∷◌, ◌++◌, map, length, length-append, codes, decimal, Bool, true, false, if◌then◌else◌, Result, IfOk, arith}
use Rattle.std.specs.Fmt.{digits, digits_onto, digit_glyph}
use Rattle.std.specs.Char.{digit_char}
use Rattle.json.specs.Print.{escape, escape_byte, escape_letter}
use Rattle.serde_json.specs.Data.{Data, boolean, string, Items, no_items, item}
use Rattle.serde_json.specs.View.{items_of}
use Rattle.serde_json.specs.Written.{compact_text, items_text}
use Rattle.cs_types.specs.Civil.{date_text}
use Rattle.cs_types.specs.Moment.{fraction_text, clock_text, moment_text, microsecond_of}
use Rattle.cs_types.specs.Stamp.{stamp_text}
use Rattle.cs_types.specs.Texts.{kind_text}
use Rattle.cs_types.specs.declared.change.Kind.{Kind}
use Rattle.cs_types.specs.declared.change.Kind.TheVariants.{Insert, Update, Delete}
use Rattle.cs_types.specs.declared.names.CaptureType.{CaptureType}
use Rattle.cs_types.specs.declared.names.CaptureType.TheVariants.{OldAndNewValues, NewValues, NewRow, NewRowAndOldValues}
use Rattle.cs_types.specs.declared.column_type.ColumnType.{ColumnType}
use Rattle.cs_types.specs.declared.column_type.ColumnType.TheVariants.{Bool as bool_type, Int64, Numeric, Text, Bytes, Date, Timestamp}
use Rattle.cs_records.specs.declared.captured.ColumnInfo.{ColumnInfo}
use Rattle.cs_records.specs.declared.records.Mod.{Mod}
use Rattle.cs_records.specs.declared.records.DataRecord.{DataRecord}
use Rattle.cs_records.specs.declared.records.Child.{Child}
use Rattle.cs_records.specs.declared.records.Record.{Record}
use Rattle.cs_records.specs.declared.records.Record.TheVariants.{Change, Heartbeat, Children}
use Rattle.cs_link.specs.declared.reading.Closing.{Closing}
use Rattle.cs_json_reading.specs.Texts.{capture_text, code_text}
use Rattle.cs_json.specs.Written.{eight_digits, child_data, column_data, mod_data, record_line}
use Rattle.cs_http.specs.Line.{closing_text}
use Rattle.cs_http.specs.Room.{total, mod_room, column_room, token_room, child_room, change_room, record_room}
use Rattle.cs_http.proofs.Closings.{so_of}

-- ---- numbers, moments and words

onto_length : (k n : ℕ) (acc : List ℕ) → length (digits_onto k 10 false n acc) ≤ k + length acc
onto_length zero n acc = omega arith
onto_length (suc k) n acc = by (n / 10 == 0) (onto_length k (n / 10) (digit_glyph false (n % 10) ∷ acc))
  where
    by : (b : Bool) → length (digits_onto k 10 false (n / 10) (digit_glyph false (n % 10) ∷ acc)) ≤ k + length (digit_glyph false (n % 10) ∷ acc)
        → length (if b then digit_glyph false (n % 10) ∷ acc else digits_onto k 10 false (n / 10) (digit_glyph false (n % 10) ∷ acc)) ≤ suc k + length acc
    by true h = omega arith
    by false h = omega (arith, h)

pub decimal_length : (n : ℕ) → length (decimal n) ≤ 64
unfolding digits
decimal_length n = onto_length 64 n []

fraction_length : (us : ℕ) → length (fraction_text us) ≤ 7
fraction_length us = by (us == 0)
  where
    by : (b : Bool) → length (if b then [] else codes "." ++ (48 + us / 10000 / 10) ∷ (48 + us / 10000 % 10) ∷ (48 + us / 100 % 100 / 10) ∷ (48 + us / 100 % 100 % 10) ∷ (48 + us % 100 / 10) ∷ (48 + us % 100 % 10) ∷ []) ≤ 7
    by true = omega arith
    by false = omega arith

clock_length : (us : ℕ) → length (clock_text us) ≤ 17
unfolding clock_text
clock_length us = simp length-append (omega (arith, fraction_length (us % 1000000)))

pub stamp_length : (us : ℕ) → length (stamp_text us) ≤ 27
unfolding moment_text date_text
stamp_length us = simp length-append (omega (arith, clock_length (microsecond_of (pos us))))

-- ---- texts as JSON

either_length : (b : Bool) (xs ys : List ℕ) → length xs ≤ 6 → length ys ≤ 6 → length (cond b xs ys) ≤ 6
either_length true xs ys p q = p
either_length false xs ys p q = q

byte_length : (x : ℕ) → length (escape_byte x) ≤ 6
unfolding escape_byte
byte_length x =
    either_length (nat_lt 0 (escape_letter x)) (92 ∷ escape_letter x ∷ []) (cond (nat_lt x 32) (92 ∷ 117 ∷ 48 ∷ 48 ∷ digit_char (x / 16) ∷ digit_char (x % 16) ∷ []) (x ∷ [])) (omega arith)
    (either_length (nat_lt x 32) (92 ∷ 117 ∷ 48 ∷ 48 ∷ digit_char (x / 16) ∷ digit_char (x % 16) ∷ []) (x ∷ []) (omega arith) (omega arith))

escape_length : (s : List ℕ) → length (escape s) ≤ 6 * length s
escape_length [] = omega arith
escape_length (x ∷ s) = omega (arith, byte_length x, escape_length s, length-append (escape_byte x) (escape s))

moment_length : (us : ℕ) → length (escape (stamp_text us)) ≤ 162
moment_length us = omega (arith, escape_length (stamp_text us), stamp_length us)

eight_length : (n : ℕ) → length (eight_digits n) ≤ 8
unfolding eight_digits
eight_length n = omega arith

sequence_length : (n : ℕ) → length (escape (eight_digits n)) ≤ 48
sequence_length n = omega (arith, escape_length (eight_digits n), eight_length n)

flag_length : (b : Bool) → length (compact_text (boolean b)) ≤ 5
flag_length true = omega arith
flag_length false = omega arith

kind_length : (k : Kind) → length (escape (kind_text k)) ≤ 36
kind_length Insert = escape_length (codes "INSERT")
kind_length Update = escape_length (codes "UPDATE")
kind_length Delete = escape_length (codes "DELETE")

capture_length : (c : CaptureType) → length (escape (capture_text c)) ≤ 132
capture_length OldAndNewValues = omega (arith, escape_length (codes "OLD_AND_NEW_VALUES"))
capture_length NewValues = omega (arith, escape_length (codes "NEW_VALUES"))
capture_length NewRow = omega (arith, escape_length (codes "NEW_ROW"))
capture_length NewRowAndOldValues = omega (arith, escape_length (codes "NEW_ROW_AND_OLD_VALUES"))

code_length : (ty : ColumnType) → length (escape (code_text ty)) ≤ 54
code_length bool_type = omega (arith, escape_length (codes "BOOL"))
code_length Int64 = omega (arith, escape_length (codes "INT64"))
code_length Numeric = omega (arith, escape_length (codes "NUMERIC"))
code_length Text = omega (arith, escape_length (codes "STRING"))
code_length Bytes = omega (arith, escape_length (codes "BYTES"))
code_length Date = omega (arith, escape_length (codes "DATE"))
code_length Timestamp = omega (arith, escape_length (codes "TIMESTAMP"))

-- ---- items

-- the first has no comma
first_item : (ds : Items) → length (items_text false ds) ≤ length (items_text true ds)
first_item no_items = omega arith
first_item (item d ds) = omega arith

-- what each element takes, all of them take
items_length : {X : Type 0} (tree : X → Data) (room : X → ℕ) → ((x : X) → 1 + length (compact_text (tree x)) ≤ room x) → (xs : List X) → length (items_text true (items_of (map tree xs))) ≤ total room xs + 1
items_length tree room each [] = omega arith
items_length tree room each (x ∷ xs) = omega (arith, each x, items_length tree room each xs, length-append (compact_text (tree x)) (items_text true (items_of (map tree xs))))

-- ---- the parts of records

token_length : (t : List ℕ) → 1 + length (compact_text (string t)) ≤ token_room t
token_length t = omega arith

child_length : (c : Child) → 1 + length (compact_text (child_data c)) ≤ child_room c
unfolding escape_byte
child_length c = simp length-append (omega (arith, items_length string token_room token_length c.parents, first_item (items_of (map string c.parents))))

mod_length : (m : Mod) → 1 + length (compact_text (mod_data m)) ≤ mod_room m
unfolding escape_byte
mod_length m = simp length-append (omega arith)

column_length : (c : ColumnInfo) → 1 + length (compact_text (column_data c)) ≤ column_room c
unfolding escape_byte
column_length c = simp length-append (omega (arith, flag_length c.is_key, decimal_length c.ordinal, code_length c.ty))

-- ---- records

change_length : (r : DataRecord) → length (record_line (Change r)) ≤ change_room r
unfolding escape_byte
change_length r =
    simp length-append
    (omega (
      arith,
      decimal_length r.parts_in_tx,
      decimal_length r.records_in_tx,
      sequence_length r.sequence,
      capture_length r.capture,
      items_length column_data column_room column_length r.columns,
      first_item (items_of (map column_data r.columns)),
      items_length mod_data mod_room mod_length r.mods,
      first_item (items_of (map mod_data r.mods)),
      moment_length r.stamp,
      flag_length r.is_last,
      flag_length r.system,
      kind_length r.kind,
    ))

pub record_length : (r : Record) → length (record_line r) ≤ record_room r
unfolding escape_byte
record_length (Change r) = change_length r
record_length (Heartbeat at) = simp length-append (omega (arith, moment_length at))
record_length (Children c) =
    simp length-append
    (omega (arith, items_length child_data child_room child_length c.children, first_item (items_of (map child_data c.children)), sequence_length c.sequence, moment_length c.start))

pub closing_length : (c : Closing) → length (closing_text c) ≤ 64
closing_length Closing.Finished = omega arith
closing_length (Closing.CaughtUp at) = simp length-append (omega (arith, stamp_length at))
closing_length Closing.Cut = omega arith

-- what is so of a text is so of an answer that is it
pub record_fits : {E : Type 0} (result : Result (List ℕ) E) (r : Record) → IfOk result (λ t. t ≡ record_line r) → IfOk result (λ t. length t ≤ record_room r)
record_fits result r is = so_of (λ t. length t ≤ record_room r) result (record_line r) is (record_length r)

pub closing_fits : {E : Type 0} (result : Result (List ℕ) E) (c : Closing) → IfOk result (λ t. t ≡ closing_text c) → IfOk result (λ t. length t ≤ 64)
closing_fits result c is = so_of (λ t. length t ≤ 64) result (closing_text c) is (closing_length c)
