-- The inserts that are grouped.
use Rattle.std.proofs.Common.{◌≡◌, ◌+◌, ◌<◌, ℕ, zero, suc, ℤ, pos, List, [], ◌∷◌, length, get_or, map, ◌++◌, negsuc, Bool, true, false, ◌||◌, ◌↔◌, inl, inr, refl, ap, ◌∙◌, sym, arith, All, codes}
use Rattle.std.specs.List.{IsDistinct}
use Rattle.std.proofs.lemmas.Bool.{cases_lt}
use Rattle.std.proofs.lemmas.List.{get_or-map, get_or_append_left, get_or_push, length-map, length_push}
use Rattle.std.proofs.lemmas.List.Elements.{All-cons, All-nil}
use Rattle.std.proofs.lemmas.Map.Keys.{IsDistinct-from_apart}
use Rattle.cs_types.specs.declared.cells.Cell.{Cell}
use Rattle.cs_types.specs.declared.change.RowName.{RowName}
use Rattle.cs_types.specs.declared.change.Kind.TheVariants.{Insert}
use Rattle.cs_types.specs.declared.column_type.ColumnType.TheVariants.{Int64}
use Rattle.cs_types.specs.declared.names.CaptureType.TheVariants.{NewRow}
use Rattle.cs_types.specs.declared.value.Value.TheVariants.{Int64 as a_number}
use Rattle.cs_types.specs.Names.{columns_of, is_among}
use Rattle.cs_types.specs.Order.{value_number}
use Rattle.cs_types.specs.Row.{same_row}
use Rattle.cs_records.specs.declared.captured.Captured.{Captured}
use Rattle.cs_records.specs.declared.captured.ColumnInfo.{ColumnInfo}
use Rattle.cs_records.specs.Group.{Agree, HasItsColumns}

abbrev pub row_at : ℤ → RowName
row_at n = record { table = codes "T"; key = record { column = codes "K"; value = a_number n } ∷ [] }

abbrev pub column_k : ColumnInfo
column_k = record { name = codes "K"; ty = Int64; is_key = true; ordinal = 1 }

abbrev pub insert_at : ℕ → ℤ → Captured
insert_at stamp n = record {
  change = record { stamp = stamp; tx = codes "t1"; row = row_at n; kind = Insert; new = []; old = [] };
  columns = column_k ∷ [];
  capture = NewRow;
  tag = codes "";
  system = false;
}

abbrev pub AreInserts : ℕ → List Captured → Type 0
AreInserts stamp items = (i : ℕ) (d : Captured) → i < length items → get_or items i d ≡ insert_at stamp (pos i)

agree_at : (stamp : ℕ) (n m : ℤ) → Agree (insert_at stamp n) (insert_at stamp m)
agree_at stamp n m = record {
  stamp = refl;
  tx = refl;
  capture = refl;
  tag = refl;
  system = refl;
  key = λ _. refl;
  columns = λ _. All-cons (λ (x : ColumnInfo). All (λ y. x.name ≡ y.name → x ≡ y) (column_k ∷ [])) column_k []
      (All-cons (λ (y : ColumnInfo). column_k.name ≡ y.name → column_k ≡ y) column_k [] (λ _. refl) (All-nil (λ (y : ColumnInfo). column_k.name ≡ y.name → column_k ≡ y)))
      (All-nil (λ (x : ColumnInfo). All (λ y. x.name ≡ y.name → x ≡ y) (column_k ∷ [])));
}

pub all_agree : (stamp : ℕ) (items : List Captured) → AreInserts stamp items → All (λ a. All (λ b. Agree a b) items) items
all_agree stamp items h i d lt j e lt' = rw (h i d lt, h j e lt') (agree_at stamp (pos i) (pos j))

first_number : List Cell → ℤ
first_number [] = pos 0
first_number (c ∷ cells) = value_number c.value

not_true : (b : Bool) → ¬ (b ≡ true) → b ≡ false
not_true true h = absurd (h refl)
not_true false h = refl

abs : ℤ → ℕ
abs (pos n) = n
abs (negsuc n) = n

rows_apart : ((a b : RowName) → (same_row a b ≡ true) ↔ (a ≡ b)) → (i j : ℕ) → i < j → same_row (row_at (pos i)) (row_at (pos j)) ≡ false
unfolding first_number abs
rows_apart law i j lt = not_true (same_row (row_at (pos i)) (row_at (pos j))) (λ t.
    let same : row_at (pos i) ≡ row_at (pos j) = (law (row_at (pos i)) (row_at (pos j))).0 t in
    let numbers : i ≡ j = ap (λ (r : RowName). abs (first_number r.key)) same in
    absurd (omega (arith, numbers, lt)))

pub all_apart : ((a b : RowName) → (same_row a b ≡ true) ↔ (a ≡ b)) → (stamp : ℕ) (items : List Captured) → AreInserts stamp items → IsDistinct same_row (map (λ (c : Captured). c.change.row) items)
all_apart law stamp items h = IsDistinct-from_apart same_row (map (λ (c : Captured). c.change.row) items) (λ i j d lt lt'.
    let within : j < length items = omega (arith, lt', length-map items (λ (c : Captured). c.change.row)) in
    let before : i < length items = omega arith in
    let x : Captured = insert_at stamp (pos 0) in
    let left : get_or (map (λ (c : Captured). c.change.row) items) i d ≡ row_at (pos i) = get_or-map (λ (c : Captured). c.change.row) items i (insert_at stamp (pos 0)) d before ∙ ap (λ (c : Captured). c.change.row) (h i (insert_at stamp (pos 0)) before) in
    let right : get_or (map (λ (c : Captured). c.change.row) items) j d ≡ row_at (pos j) = get_or-map (λ (c : Captured). c.change.row) items j (insert_at stamp (pos 0)) d within ∙ ap (λ (c : Captured). c.change.row) (h j (insert_at stamp (pos 0)) within) in
    rw (left, right) (rows_apart law i j lt))

alone : (b : Bool) → b ≡ (b || (false || false))
alone true = refl
alone false = refl

its_columns : (stamp : ℕ) (n : ℤ) → HasItsColumns (insert_at stamp n)
its_columns stamp n = record {
  each = λ name. alone _;
  marked = All-cons (λ (x : ColumnInfo). x.is_key ≡ is_among x.name (columns_of (row_at n).key)) column_k [] refl (All-nil (λ (x : ColumnInfo). x.is_key ≡ is_among x.name (columns_of (row_at n).key)));
  rising = λ k lt. absurd (omega (arith, lt));
}

pub all_columns : (stamp : ℕ) (items : List Captured) → AreInserts stamp items → All HasItsColumns items
all_columns stamp items h i d lt = rw (h i d lt) (its_columns stamp (pos i))

pub one_more : (stamp : ℕ) (items : List Captured) (c : Captured) (n : ℕ) → AreInserts stamp items → length items ≡ n → c ≡ insert_at stamp (pos n) → AreInserts stamp (items ++ c ∷ [])
one_more stamp items c n h size is i d lt = elim (cases_lt i (length items)) [
  | inl before ↦ get_or_append_left items (c ∷ []) d i before ∙ h i d before
  | inr past ↦
      let here : i ≡ length items = omega (arith, lt, past, length_push items c) in
      get_or_push items c d i (sym here) ∙ is ∙ ap (λ k. insert_at stamp (pos k)) (sym (here ∙ size))
]
