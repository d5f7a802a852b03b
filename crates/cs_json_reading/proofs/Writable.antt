-- A line can be written for each record that a tree tells.
use Rattle.std.proofs.Common.{◌≡◌, ◌<◌, ◌≤◌, ◌^◌, inl, inr, ℕ, List, [], ◌∷◌, length, All, codes, Bool, ◌&&◌, true, false, nat_lt, nat_le, Option, Some, None, option_and_then, Ok, Err, IfOk, if◌then◌else◌, refl, sym, subst, arith}
use Rattle.std.specs.Str.Parse.{digits_value}
use Rattle.std.proofs.lemmas.List.Elements.{All-nil, All-cons}
use Rattle.std.proofs.lemmas.Str.Parse.{digits_value_short}
use Rattle.serde_json.specs.Data.{Data, Num, Items, no_items, item, Members, no_members, member}
use Rattle.serde_json.specs.Find.{get, as_str, as_number, as_u64}
use Rattle.cs_types.specs.declared.cells.Cell.{Cell}
use Rattle.cs_types.specs.Digits.{is_digits}
use Rattle.cs_records.specs.declared.captured.ColumnInfo.{ColumnInfo}
use Rattle.cs_records.specs.declared.records.DataRecord.{DataRecord}
use Rattle.cs_records.specs.declared.records.Mod.{Mod}
use Rattle.cs_records.specs.declared.records.Record.{Record}
use Rattle.cs_records.specs.declared.records.Record.TheVariants.{Change, Heartbeat, Children}
use Rattle.cs_json_reading.specs.Reading.{Reading, Gives}
use Rattle.cs_json_reading.specs.Texts.{sequence_reading, in_63_bits, digits_reading, is_transaction, is_name, where_it_is}
use Rattle.cs_json_reading.specs.Members.{of_text, sequence_value, number_first, whole_value}
use Rattle.cs_json_reading.specs.Line.{Spells, line_reading}
use Rattle.cs_json_reading.specs.Telling.{Has, Each, TellsCell, EachCell, HasCells, MayHaveCells, TellsMod, TellsChange, IsElement, Tells}
use Rattle.cs_json_reading.specs.Standing.{IsListed, IsListedMod, CanStandFor, CanStand}
use Rattle.cs_json_reading.proofs.Numbers.{own, is_number}
use Rattle.cs_json_reading.proofs.OfType.{of_type}
use Rattle.cs_json_reading.proofs.Spelled.{spelled_answer}

abbrev nothing : {A : Type 0} → Option A
nothing = None

no_value : {A : Type 0} (a : A) → nothing {A = A} ≡ Some a → ⊥
no_value a h = cc

-- what a member's value was made of
value_of : {A B : Type 0} (f : B → Option A) (o : Option B) (a : A) → option_and_then f o ≡ Some a → (b : B) × (f b ≡ Some a)
value_of f None a h = absurd (no_value a h)
value_of f (Some b) a h = (b, h)

-- a value behind a test
behind_test : {A : Type 0} (b : Bool) (x : Option A) (a : A) → (if b then x else nothing) ≡ Some a → (b ≡ true) × (x ≡ Some a)
behind_test true x a h = (refl, h)
behind_test false x a h = absurd (no_value a h)

both_of : (a b : Bool) → (a && b) ≡ true → (a ≡ true) × (b ≡ true)
both_of true b h = (refl, h)
both_of false b h = absurd cc

same_some : {A : Type 0} (a b : A) (o : Option A) → o ≡ Some a → o ≡ Some b → a ≡ b
same_some a b o h k = cc

abbrev is : {A : Type 0} → A → Option A
is a = Some a

-- ---- texts and numbers

small_sequence : (t : List ℕ) (n : ℕ) → sequence_reading t ≡ Some n → n < 100000000
unfolding sequence_reading
small_sequence t n h =
    let tested = behind_test (is_digits t && nat_le (length t) 8) (is (digits_value 10 t)) n h in
    let parts = both_of (is_digits t) (nat_le (length t) 8) tested.0 in
    let short : length t ≤ 8 = (let e = parts.1 in grind (arith, e)) in
    let small : digits_value 10 t < 10 ^ 8 = digits_value_short own t 8 (is_number t parts.0).1 short in
    let same : digits_value 10 t ≡ n = same_some (digits_value 10 t) n (is (digits_value 10 t)) refl tested.1 in
    omega (arith, small, same)

pub sequence_is_small : (name : List ℕ) (d : Data) (n : ℕ) → Has sequence_value name d n → n < 100000000
sequence_is_small name d n h =
    let tree = value_of sequence_value (get name d) n h in
    let text = value_of sequence_reading (as_str tree.0) n tree.1 in
    small_sequence text.0 n text.1

text_is : (test : List ℕ → Bool) (name : List ℕ) (d : Data) (t : List ℕ) → Has (of_text (where_it_is test)) name d t → test t ≡ true
text_is test name d t h =
    let tree = value_of (of_text (where_it_is test)) (get name d) t h in
    let text = value_of (where_it_is test) (as_str tree.0) t tree.1 in
    let tested = behind_test (test text.0) (is text.0) t text.1 in
    subst (λ (s : List ℕ). test s ≡ true) (same_some text.0 t (is text.0) refl tested.1) tested.0

within : (m n : ℕ) → in_63_bits m ≡ Some n → n < 2 ^ 63
within m n h =
    let tested = behind_test (nat_lt m (2 ^ 63)) (is m) n h in
    let same : m ≡ n = same_some m n (is m) refl tested.1 in
    let small : m < 2 ^ 63 = (let e = tested.0 in grind (arith, e)) in
    omega (arith, small, same)

digits_within : (t : List ℕ) (n : ℕ) → digits_reading t ≡ Some n → n < 2 ^ 63
unfolding digits_reading
digits_within t n h = let tested = behind_test (is_digits t) (in_63_bits (digits_value 10 t)) n h in within (digits_value 10 t) n tested.1

whole_within : (o : Option Num) (t : Option (List ℕ)) (n : ℕ) → number_first o t ≡ Some n → n < 2 ^ 63
whole_within None t n h = let text = value_of digits_reading t n h in digits_within text.0 n text.1
whole_within (Some x) t n h = let number = value_of in_63_bits (as_u64 x) n h in within number.0 n number.1

whole_is_small : (name : List ℕ) (d : Data) (n : ℕ) → Has whole_value name d n → n < 2 ^ 63
whole_is_small name d n h = let tree = value_of whole_value (get name d) n h in whole_within (as_number tree.0) (as_str tree.0) n tree.1

-- ---- cells

cell_listed : (columns : List ColumnInfo) (c : Cell) (name : List ℕ) (d : Data) → TellsCell columns c name d → IsListed columns c
cell_listed columns c name d t = rw (t.column, t.listed) (of_type t.type d c.value t.value)

cells_listed : (columns : List ColumnInfo) (cs : List Cell) (ms : Members) → EachCell columns cs ms → All (IsListed columns) cs
cells_listed columns [] no_members h = All-nil (IsListed columns)
cells_listed columns [] (member name d ms) h = absurd h
cells_listed columns (c ∷ cs) no_members h = absurd h
cells_listed columns (c ∷ cs) (member name d ms) h = All-cons (IsListed columns) c cs (cell_listed columns c name d h.0) (cells_listed columns cs ms h.1)

has_listed : (columns : List ColumnInfo) (name : List ℕ) (d : Data) (cs : List Cell) → HasCells columns name d cs → All (IsListed columns) cs
has_listed columns name d cs h = cells_listed columns cs h.tells.members h.tells.each

may_have_listed : (columns : List ColumnInfo) (name : List ℕ) (d : Data) (cs : List Cell) → MayHaveCells columns name d cs → All (IsListed columns) cs
may_have_listed columns name d cs (inl h) = subst (All (IsListed columns)) (sym h.1) (All-nil (IsListed columns))
may_have_listed columns name d cs (inr (inl h)) = subst (All (IsListed columns)) (sym h.1) (All-nil (IsListed columns))
may_have_listed columns name d cs (inr (inr h)) = has_listed columns name d cs h

mods_listed : (columns : List ColumnInfo) (ms : List Mod) (ds : Items) → Each (TellsMod columns) ms ds → All (IsListedMod columns) ms
mods_listed columns [] no_items h = All-nil (IsListedMod columns)
mods_listed columns [] (item d ds) h = absurd h
mods_listed columns (m ∷ ms) no_items h = absurd h
mods_listed columns (m ∷ ms) (item d ds) h =
    let first : TellsMod columns m d = h.0 in
    All-cons (IsListedMod columns) m ms (record {
      keys = has_listed columns (codes "keys") d m.keys first.keys;
      new = may_have_listed columns (codes "new_values") d m.new first.new_values;
      old = may_have_listed columns (codes "old_values") d m.old first.old_values;
    }) (mods_listed columns ms ds h.1)

-- ---- records

change_stands : (r : DataRecord) (d : Data) → TellsChange r d → CanStandFor r
change_stands r d t = record {
  sequence = sequence_is_small (codes "record_sequence") d r.sequence t.record_sequence;
  transaction = text_is is_transaction (codes "server_transaction_id") d r.tx t.server_transaction_id;
  table = text_is is_name (codes "table_name") d r.table t.table_name;
  apart = t.apart;
  mods = t.some_mods;
  cells = mods_listed r.columns r.mods t.mods.elements t.mods.each;
  records_in_tx = whole_is_small (codes "number_of_records_in_transaction") d r.records_in_tx t.number_of_records;
  parts_in_tx = whole_is_small (codes "number_of_partitions_in_transaction") d r.parts_in_tx t.number_of_partitions;
}

element_stands : (r : Record) (cs ds hs : Items) → IsElement r cs ds hs → CanStand r
element_stands (Heartbeat at) cs ds hs h = tt
element_stands (Children c) cs ds hs h = sequence_is_small (codes "record_sequence") h.2.0 c.sequence h.2.2.sequence
element_stands (Change r) cs ds hs h = change_stands r h.2.0 h.2.2

pub told_stands : (r : Record) (d : Data) → Tells r d → CanStand r
told_stands r d t = element_stands r t.children t.changes t.heartbeats t.one

-- what is read can be written
pub writable_answer : (t : List ℕ) (x : Reading Record) → Gives x (line_reading t) → IfOk x CanStand
writable_answer t (Ok r) h = let spells : Spells r t = spelled_answer t (Ok r) h in told_stands r spells.tree spells.tells
writable_answer t (Err e) h = tt
