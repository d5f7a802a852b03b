-- What the line of a change tells: with types all of the change.
use Rattle.std.proofs.Common.{◌≡◌, ℕ, List, [], ◌∷◌, All, refl, sym, ap, ◌∙◌, cond, ◌==◌}
use Rattle.std.proofs.lemmas.List.Elements.{All-head, All-tail, All-weaker}
use Rattle.json.specs.Json as json
use Rattle.serde_json.specs.Data.{Data, null, boolean, string}
use Rattle.serde_json.specs.Written.{outline, members_outline}
use Rattle.cs_types.specs.Database.{AreInRange, AreOfOneType, AgreeInTypes, AreOfOneDatabase, AreChangesOfOneDatabase}
use Rattle.cs_types.specs.Stamp.{IsStamp}
use Rattle.cs_types.specs.Value.{IsInRange, value_data}
use Rattle.cs_types.specs.declared.cells.Cell.{Cell}
use Rattle.cs_types.specs.declared.change.Change.{Change}
use Rattle.cs_types.specs.declared.change.Kind.{Kind}
use Rattle.cs_types.specs.declared.change.Kind.TheVariants.{Insert, Update, Delete}
use Rattle.cs_types.specs.declared.value.Value.{Value}
use Rattle.cs_types.specs.declared.value.Value.TheVariants.{Null, Bool as Boolean, Int64, Numeric, Text, Bytes, Date, Timestamp}
use Rattle.cs_output.specs.Line.{change_line}
use Rattle.cs_types.specs.Texts.{kind_text, cells_members}
use Rattle.cs_output.proofs.ChangeLines.{same_object, value_at, text_in, members_in}
use Rattle.cs_output.proofs.Moments.{MomentTexts}
use Rattle.cs_output.proofs.Watermarks.{same_moment}

-- a value's tree from its outline, since it is a word or a text
abbrev tree_of : json.Json → Data
tree_of json.null = null
tree_of (json.boolean b) = boolean b
tree_of (json.number s) = null
tree_of (json.string s) = string s
tree_of (json.array js) = null
tree_of (json.object ms) = null

tree_of-value : (v : Value) → tree_of (outline (value_data v)) ≡ value_data v
tree_of-value Null = refl
tree_of-value (Boolean b) = refl
tree_of-value (Int64 n) = refl
tree_of-value (Numeric n) = refl
tree_of-value (Text t) = refl
tree_of-value (Bytes b) = refl
tree_of-value (Date d) = refl
tree_of-value (Timestamp t) = refl

-- the name and the value of the first member, and what follows it
abbrev first_name : json.Members → List ℕ
first_name json.no_members = []
first_name (json.member k j ms) = k

abbrev first_value : json.Members → json.Json
first_value json.no_members = json.null
first_value (json.member k j ms) = j

abbrev behind_first : json.Members → json.Members
behind_first json.no_members = json.no_members
behind_first (json.member k j ms) = ms

abbrev told : List Cell → json.Members
told cells = members_outline (cells_members cells)

none_told : (c : Cell) (cells : List Cell) → told [] ≡ told (c ∷ cells) → ⊥
none_told c cells e = cc

abbrev in_range : Cell → Type 0
in_range x = IsInRange x.value

abbrev agrees : Cell → Cell → Type 0
agrees x y = x.column ≡ y.column → AreOfOneType x.value y.value

-- values of one type are told by what is written for them, as the law of values says
abbrev pub ValuesDiffer : Type 0
ValuesDiffer = (a b : Value) → AreOfOneType a b → IsInRange a → IsInRange b → value_data a ≡ value_data b → a ≡ b

-- cells are told by their members
same_cells : (differ : ValuesDiffer) (a b : List Cell) → AgreeInTypes a b → AreInRange a → AreInRange b → told a ≡ told b → a ≡ b
same_cells differ [] [] agree in_a in_b e = refl
same_cells differ [] (d ∷ b) agree in_a in_b e = absurd (none_told d b e)
same_cells differ (c ∷ a) [] agree in_a in_b e = absurd (none_told c a (sym e))
same_cells differ (c ∷ a) (d ∷ b) agree in_a in_b e =
    let column : c.column ≡ d.column = ap first_name e in
    let written : value_data c.value ≡ value_data d.value = sym (tree_of-value c.value) ∙ ap (λ ms. tree_of (first_value ms)) e ∙ tree_of-value d.value in
    let of_type : AreOfOneType c.value d.value = All-head (agrees c) d b (All-head (λ x. All (agrees x) (d ∷ b)) c a agree) column in
    let value : c.value ≡ d.value = differ c.value d.value of_type (All-head in_range c a in_a) (All-head in_range d b in_b) written in
    let more : AgreeInTypes a b = All-weaker (λ x. All (agrees x) (d ∷ b)) (λ x. All (agrees x) b) (λ x h. All-tail (agrees x) d b h) a (All-tail (λ x. All (agrees x) (d ∷ b)) c a agree) in
    let rest : a ≡ b = same_cells differ a b more (All-tail in_range c a in_a) (All-tail in_range d b in_b) (ap behind_first e) in
    λ i. record { column = column i; value = value i } ∷ rest i

-- the kind whose word it is, by its first letter
abbrev kind_of : List ℕ → Kind
kind_of [] = Delete
kind_of (letter ∷ word) = cond (letter == 73) Insert (cond (letter == 85) Update Delete)

kind_of-text : (k : Kind) → kind_of (kind_text k) ≡ k
kind_of-text Insert = refl
kind_of-text Update = refl
kind_of-text Delete = refl

module _ (texts : MomentTexts) (differ : ValuesDiffer) (c d : Change) (e : change_line c ≡ change_line d) where
  pub same_kind : c.kind ≡ d.kind
  same_kind = sym (kind_of-text c.kind) ∙ ap (λ j. kind_of (text_in (value_at 1 j))) (same_object c d e) ∙ kind_of-text d.kind

  pub same_table : c.row.table ≡ d.row.table
  same_table = ap (λ j. text_in (value_at 5 j)) (same_object c d e)

  pub same_stamp : IsStamp c.stamp → IsStamp d.stamp → c.stamp ≡ d.stamp
  same_stamp is_c is_d = same_moment texts c.stamp d.stamp (texts.stamps c.stamp is_c) (texts.stamps d.stamp is_d) (ap (λ j. text_in (value_at 4 j)) (same_object c d e))

  pub same_row : AreOfOneDatabase c.row d.row → c.row ≡ d.row
  same_row one =
      let key : c.row.key ≡ d.row.key =
      same_cells differ c.row.key d.row.key (one.types_of_one_table same_table) one.layout.values.0 one.layout.values.1 (ap (λ j. members_in (value_at 0 j)) (same_object c d e)) in
      λ i. record { table = same_table i; key = key i }

  pub same_change : AreChangesOfOneDatabase c d → c ≡ d
  same_change one =
      let types = one.types_of_one_table same_table in
      let new : c.new ≡ d.new = same_cells differ c.new d.new types.0 one.values.0 one.values.2 (ap (λ j. members_in (value_at 2 j)) (same_object c d e)) in
      let old : c.old ≡ d.old = same_cells differ c.old d.old types.1 one.values.1 one.values.3 (ap (λ j. members_in (value_at 3 j)) (same_object c d e)) in
      let tx : c.tx ≡ d.tx = ap (λ j. text_in (value_at 6 j)) (same_object c d e) in
      let stamp : c.stamp ≡ d.stamp = same_stamp one.stamps.0 one.stamps.1 in
      let row : c.row ≡ d.row = same_row one.rows in
      let kind : c.kind ≡ d.kind = same_kind in
      λ i. record { stamp = stamp i; tx = tx i; row = row i; kind = kind i; new = new i; old = old i }
