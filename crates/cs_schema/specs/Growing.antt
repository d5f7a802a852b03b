-- How a catalog's tables grow, as CREATE TABLE and ALTER TABLE .. ADD COLUMN have it (Spanner's pages on its data definition language; nothing is dropped here): tables are added, and columns behind those of a table.
use Rattle.std.specs.Prelude.{◌≡◌, ℕ, List, [], ◌++◌, Some, None}
use Rattle.std.proofs.Common.{◌∙◌, refl, sym, ap, subst, append-nil, append_assoc}
use Rattle.std.specs.declared.option.Option.{Option}
use Rattle.std.specs.Option.{IsSomeAnd}
use Rattle.cs_schema.specs.declared.types.Column.{Column}
use Rattle.cs_schema.specs.declared.types.Table.{Table}
use Rattle.cs_schema.specs.Tables.{table_named}

-- the later table has the name and the key of the earlier one, and its columns first
pub record HasGrown (earlier later : Table) : Type 0 where
  pub name : later.name ≡ earlier.name
  pub key : later.key ≡ earlier.key
  pub columns : (more : List Column) × (later.columns ≡ earlier.columns ++ more)

-- each table that was there is there, and has at most grown
abbrev pub Grows : List Table → List Table → Type 0
Grows old new = (name : List ℕ) (t : Table) → table_named name old ≡ Some t → IsSomeAnd (table_named name new) (HasGrown t)

-- a table has grown by nothing
pub has_grown_itself : (t : Table) → HasGrown t t
has_grown_itself t = record { name = refl; key = refl; columns = ([], sym (append-nil t.columns)) }

has_grown_further : (t u v : Table) → HasGrown t u → HasGrown u v → HasGrown t v
has_grown_further t u v g h = record {
  name = h.name ∙ g.name;
  key = h.key ∙ g.key;
  columns = (g.columns.0 ++ h.columns.0, h.columns.1 ∙ ap (λ cs. cs ++ h.columns.0) g.columns.1 ∙ append_assoc t.columns g.columns.0 h.columns.0);
}

-- nothing has grown by nothing
pub grows_by_nothing : (tables : List Table) → Grows tables tables
grows_by_nothing tables name t e = subst (λ o. IsSomeAnd o (HasGrown t)) (sym e) (has_grown_itself t)

-- what grows twice has grown
pub grows_further : (a b c : List Table) → Grows a b → Grows b c → Grows a c
grows_further a b c g h name t e = by (table_named name b) refl (g name t e)
  where
    still : (u : Table) → HasGrown t u → (o : Option Table) → IsSomeAnd o (HasGrown u) → IsSomeAnd o (HasGrown t)
    still u f None k = absurd k
    still u f (Some v) k = has_grown_further t u v f k

    by : (o : Option Table) → table_named name b ≡ o → IsSomeAnd o (HasGrown t) → IsSomeAnd (table_named name c) (HasGrown t)
    by None f k = absurd k
    by (Some u) f k = still u k (table_named name c) (h name u f)
