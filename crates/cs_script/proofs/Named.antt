-- What is found by a name has it, and tables by name from the last on.
use Rattle.std.proofs.Common.{◌≡◌, ◌+◌, ◌<◌, ℕ, List, [], ◌∷◌, ◌++◌, length, take, get_or, Bool, true, false, cond, Option, None, Some, IfSome, option_copied, Bor, refl, sym, ap, ◌∙◌}
use Rattle.std.specs.Option.{option_or}
use Rattle.std.proofs.lemmas.List.{take_more}
use Rattle.std.proofs.lemmas.Map.Text.{is_eq-slice_cmp}
use Rattle.std.proofs.lemmas.Slice.Eq.{bytes_eq-Decides}
use Rattle.cs_types.specs.Names.{is_same}
use Rattle.cs_schema.specs.declared.types.Column.{Column}
use Rattle.cs_schema.specs.declared.types.Table.{Table}
use Rattle.cs_schema.specs.Tables.{table_named}
use Rattle.cs_txn.specs.Columns.{column_named}

pub same_is : (a b : List ℕ) → is_same a b ≡ true → a ≡ b
same_is a b e = (bytes_eq-Decides a b).0 (sym (is_eq-slice_cmp a b) ∙ e)

some_same : {A : Type 0} (a b : A) → Some a ≡ Some b → a ≡ b
some_same a b e = cc

-- the column of a name has it
column_has : (name : List ℕ) (columns : List Column) (c : Column) → column_named name columns ≡ Some c → c.name ≡ name
column_has name [] c e = absurd cc
column_has name (d ∷ columns) c e = by (is_same d.name name) refl e (column_has name columns c)
  where
    by : (b : Bool) → is_same d.name name ≡ b → cond b (Some d) (column_named name columns) ≡ Some c → (column_named name columns ≡ Some c → c.name ≡ name) → c.name ≡ name
    by true s k f = ap (λ (z : Column). z.name) (sym (some_same d c k)) ∙ same_is d.name name s
    by false s k f = f k

pub column_is : (found : Option (Bor Column)) (name : List ℕ) (columns : List Column) → option_copied found ≡ column_named name columns → IfSome found (λ c. c.now.name ≡ name)
column_is None name columns h = tt
column_is (Some c) name columns h = column_has name columns c.now (sym h)

-- the table of a name has it
table_has : (name : List ℕ) (tables : List Table) (t : Table) → table_named name tables ≡ Some t → t.name ≡ name
table_has name [] t e = absurd cc
table_has name (u ∷ tables) t e = by (table_named name tables) refl (is_same u.name name) refl e (table_has name tables t)
  where
    by : (o : Option Table) → table_named name tables ≡ o → (b : Bool) → is_same u.name name ≡ b → option_or o (cond b (Some u) None) ≡ Some t → (table_named name tables ≡ Some t → t.name ≡ name) → t.name ≡ name
    by (Some v) k b s h f = f (k ∙ h)
    by None k true s h f = ap (λ (z : Table). z.name) (sym (some_same u t h)) ∙ same_is u.name name s
    by None k false s h f = absurd cc

pub table_is : (found : Option (Bor Table)) (name : List ℕ) (tables : List Table) → option_copied found ≡ table_named name tables → IfSome found (λ t. t.now.name ≡ name)
table_is None name tables h = tt
table_is (Some t) name tables h = table_has name tables t.now (sym h)

-- the last table of a name is looked at first
named_push : (name : List ℕ) (t : Table) (tables : List Table) → table_named name (tables ++ t ∷ []) ≡ cond (is_same t.name name) (Some t) (table_named name tables)
named_push name t [] = refl
named_push name t (u ∷ tables) = ap (λ o. option_or o (cond (is_same u.name name) (Some u) None)) (named_push name t tables) ∙ by (is_same t.name name)
  where
    by : (b : Bool) → option_or (cond b (Some t) (table_named name tables)) (cond (is_same u.name name) (Some u) None) ≡ cond b (Some t) (option_or (table_named name tables) (cond (is_same u.name name) (Some u) None))
    by true = refl
    by false = refl

pub last_step : (name : List ℕ) (tables : List Table) (i j : ℕ) (t : Table) → j ≡ i + 1 → i < length tables → t ≡ get_or tables i t
    → table_named name (take j tables) ≡ cond (is_same t.name name) (Some t) (table_named name (take i tables))
last_step name tables i j t next lt is =
    ap (λ n. table_named name (take n tables)) next ∙ ap (table_named name) (take_more tables i t lt ∙ ap (λ (x : Table). take i tables ++ x ∷ []) (sym is)) ∙ named_push name t (take i tables)
