-- The columns of a record by their names, and names of which no two are the same.
use Rattle.std.proofs.Common.{◌≡◌, ◌≢◌, ◌⊎◌, ℕ, suc, Bool, true, false, cond, List, [], ◌∷◌, ◌++◌, Option, Some, None, ⊎_elim, refl, sym, ap, ◌∙◌, subst, arith, true≢false, Contains, AllPairs}
use Rattle.std.specs.Option.{option_or}
use Rattle.cs_types.specs.declared.cells.Cell.{Cell}
use Rattle.cs_types.specs.declared.column_type.ColumnType.{ColumnType}
use Rattle.cs_types.specs.Exact.{same_name-is}
use Rattle.cs_types.specs.Names.{is_same, is_among, first_again, columns_of}
use Rattle.cs_types.specs.Members.{in_nil, in_head, in_tail, in_cons}
use Rattle.cs_records.specs.declared.captured.ColumnInfo.{ColumnInfo}
use Rattle.cs_json_reading.specs.Columns.{column_type, names_of}

abbrev no_type : Option ColumnType
no_type = None

-- a column of a name, whose type is told
pub record Found (name : List ℕ) (columns : List ColumnInfo) : Type 0 where
  pub column : ColumnInfo
  pub there : Contains columns column
  pub name_is : column.name ≡ name
  pub type_is : column_type name columns ≡ Some column.ty

none_there : (name : List ℕ) (columns : List ColumnInfo) → is_among name (names_of columns) ≡ false → column_type name columns ≡ None
none_there name [] h = refl
none_there name (x ∷ xs) h = by (is_same x.name name) h (none_there name xs)
  where
    by : (b : Bool) → cond b true (is_among name (names_of xs)) ≡ false → (is_among name (names_of xs) ≡ false → column_type name xs ≡ None) → option_or (column_type name xs) (cond b (Some x.ty) no_type) ≡ None
    by true k f = absurd (true≢false k)
    by false k f = ap (λ o. option_or o no_type) (f k)

-- a name that stands there has a column
pub found : (name : List ℕ) (columns : List ColumnInfo) → is_among name (names_of columns) ≡ true → Found name columns
found name [] h = absurd (true≢false (sym h))
found name (x ∷ xs) h = by (is_among name (names_of xs)) refl (found name xs) (is_same x.name name) refl h
  where
    by : (a : Bool) → is_among name (names_of xs) ≡ a → (is_among name (names_of xs) ≡ true → Found name xs) → (b : Bool) → is_same x.name name ≡ b → cond b true a ≡ true → Found name (x ∷ xs)
    by true e f b t k =
        let r = f e in
        record {
          column = r.column;
          there = in_tail x r.column xs r.there;
          name_is = r.name_is;
          type_is = ap (λ o. option_or o (cond (is_same x.name name) (Some x.ty) no_type)) r.type_is;
        }
    by false e f true t k = record {
      column = x;
      there = in_head x xs;
      name_is = (same_name-is x.name name).0 t;
      type_is = (λ i. option_or (none_there name xs e i) (cond (t i) (Some x.ty) no_type));
    }
    by false e f false t k = absurd (true≢false (sym k))

-- the column of a cell stands among those of the cells
pub has_column : (cells : List Cell) (cell : Cell) → Contains cells cell → is_among cell.column (columns_of cells) ≡ true
has_column [] cell i = absurd (in_nil cell i)
has_column (x ∷ xs) cell i = by (is_same x.column cell.column) refl (in_cons x cell xs i) (has_column xs cell)
  where
    by : (b : Bool) → is_same x.column cell.column ≡ b → (cell ≡ x) ⊎ Contains xs cell → (Contains xs cell → is_among cell.column (columns_of xs) ≡ true) → cond b true (is_among cell.column (columns_of xs)) ≡ true
    by true t c f = refl
    by false t c f = ⊎_elim (λ (s : cell ≡ x). absurd (true≢false (sym ((same_name-is x.column cell.column).1 (ap (λ (y : Cell). y.column) (sym s))) ∙ t))) f c

-- ---- no two have one name

not_behind : (name n : List ℕ) (earlier : List (List ℕ)) → is_among name earlier ≡ false → n ≢ name → is_among name (earlier ++ n ∷ []) ≡ false
not_behind name n [] h d = by (is_same n name) refl
  where
    by : (b : Bool) → is_same n name ≡ b → cond b true false ≡ false
    by true t = absurd (d ((same_name-is n name).0 t))
    by false t = refl
not_behind name n (e ∷ es) h d = by (is_same e name) h (λ k. not_behind name n es k d)
  where
    by : (b : Bool) → cond b true (is_among name es) ≡ false → (is_among name es ≡ false → is_among name (es ++ n ∷ []) ≡ false) → cond b true (is_among name (es ++ n ∷ [])) ≡ false
    by true k f = absurd (true≢false k)
    by false k f = f k

none_again : (earlier : List (List ℕ)) (columns : List ColumnInfo) → AllPairs (λ (x y : ColumnInfo). x.name ≢ y.name) columns → ((x : ColumnInfo) → Contains columns x → is_among x.name earlier ≡ false) → first_again earlier (names_of columns) ≡ None
none_again earlier [] h k = refl
none_again earlier (c ∷ cs) h k =
    rw (k c (in_head c cs)) (none_again (earlier ++ c.name ∷ []) cs
    (λ i j d lt within. h (suc i) (suc j) d (omega arith) (omega arith))
    (λ x i. not_behind x.name c.name earlier (k x (in_tail c x cs i)) (subst (λ (y : ColumnInfo). c.name ≢ y.name) i.2 (h 0 (suc i.0) x (omega arith) (omega (arith, i.1))))))

pub apart : (columns : List ColumnInfo) → AllPairs (λ (x y : ColumnInfo). x.name ≢ y.name) columns → first_again [] (names_of columns) ≡ None
apart columns h = none_again [] columns h (λ x i. refl)
