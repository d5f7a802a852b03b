-- A sound catalog stays sound with a table more, and with a column more in one of its tables.
use Rattle.std.proofs.Common.{◌≡◌, ◌∙◌, sym, ap, subst, refl, ℕ, ◌<◌, ◌≤◌, List, [], ◌∷◌, ◌++◌, length, Some, None, cond, false, true, Bool, is_some, true≢false, All, nat_le, nat_lt, IsSomeAnd, arith, length-append}
use Rattle.std.specs.Prelude.{Ok, Err, OnOk, MatchResult}
use Rattle.std.specs.declared.result.Result.{Result}
use Rattle.std.proofs.lemmas.List.Elements.{All-nil, All-cons, All-head, All-tail, All-weaker, All-push}
use Rattle.cs_ddl.specs.declared.tree.TypeTree.{TypeTree}
use Rattle.cs_ddl.specs.declared.tree.ColumnTree.{ColumnTree}
use Rattle.cs_types.specs.Names.{is_same, is_among}
use Rattle.cs_types.specs.Firsts.{first_of}
use Rattle.cs_schema.specs.declared.types.Column.{Column}
use Rattle.cs_schema.specs.declared.types.Table.{Table}
use Rattle.cs_schema.specs.declared.types.Watched.{Watched}
use Rattle.cs_schema.specs.declared.types.Stream.{Stream}
use Rattle.cs_schema.specs.declared.fault.SchemaFault.{SchemaFault}
use Rattle.cs_schema.specs.declared.fault.SchemaFault.TheVariants.{TableThere, NoColumn, ColumnTwice, ColumnWatched, TooManyColumns}
use Rattle.cs_schema.specs.Tables.{table_named, with_column, grown, column_names}
use Rattle.cs_schema.specs.Lengths.{column_made, columns_made}
use Rattle.cs_schema.specs.Faults.{not_memory, no_column, twice_fault}
use Rattle.cs_schema.specs.Making.{crowded, there_fault, many_fault, tree_fault, table_fault, again_fault, full_fault, added_fault, added_to, column_fault}
use Rattle.cs_schema.specs.Streaming.{items_of, listed}
use Rattle.cs_schema.specs.Watching.{watchers}
use Rattle.cs_schema.specs.Growing.{HasGrown, Grows, grows_by_nothing}
use Rattle.cs_schema.specs.Sound.{AreDifferent, table_names, IsLimitOf, IsSoundTable, IsSoundList, IsSoundWatch, IsSoundCatalog}
use Rattle.cs_schema.proofs.Differ.{neither, not_some, not_none, each_none, of_columns, columns_more, map_more, differ_once, none_differ, one_more_differs, still_among, and_of, and_so}
use Rattle.cs_schema.proofs.Named.{named_among, names_kept, each_grown, grows_by_table, grows_by_column}
use Rattle.cs_schema.proofs.Limits.{limit_made}

-- what a watch lists stays in a table that has grown

wider : (n : List ℕ) (cs more : List Column) → is_among n (column_names cs) ≡ true → is_among n (column_names (cs ++ more)) ≡ true
wider n [] more e = absurd (true≢false (sym e))
wider n (c ∷ cs) more e = by (wider n cs more) (is_same c.name n) e
  where
    by : (is_among n (column_names cs) ≡ true → is_among n (column_names (cs ++ more)) ≡ true) → (b : Bool) → cond b true (is_among n (column_names cs)) ≡ true → cond b true (is_among n (column_names (cs ++ more))) ≡ true
    by rest true g = refl
    by rest false g = rest g

list_kept : (t u : Table) (names : List (List ℕ)) → HasGrown t u → IsSoundList t names → IsSoundList u names
list_kept t u names g l = record {
  there = All-weaker (λ n. is_among n (column_names t.columns) ≡ true) (λ n. is_among n (column_names u.columns) ≡ true) (λ n e. ap (λ cs. is_among n (column_names cs)) g.columns.1 ∙ wider n t.columns g.columns.0 e) names l.there;
  no_key = All-weaker (λ n. is_among n t.key ≡ false) (λ n. is_among n u.key ≡ false) (λ n e. ap (is_among n) g.key ∙ e) names l.no_key;
  differ = l.differ;
}

abbrev IsItem : List Table → Watched → Type 0
IsItem tables w = IsSomeAnd (table_named w.table tables) (λ t. IsSoundList t (listed w.columns))

item_kept : (old new : List Table) → Grows old new → (w : Watched) → IsItem old w → IsItem new w
item_kept old new g w h =
    let before = and_of (λ t. IsSoundList t (listed w.columns)) (table_named w.table old) h in
    let after = and_of (HasGrown before.0) (table_named w.table new) (g w.table before.0 before.1) in
    and_so (λ t. IsSoundList t (listed w.columns)) (table_named w.table new) after.0 after.1 (list_kept before.0 after.0 (listed w.columns) after.2 before.2)

watches_kept : (old new : List Table) (streams : List Stream) → Grows old new → All (λ (s : Stream). IsSoundWatch old s.watch) streams → All (λ (s : Stream). IsSoundWatch new s.watch) streams
watches_kept old new streams g h =
    All-weaker (λ (s : Stream). IsSoundWatch old s.watch) (λ (s : Stream). IsSoundWatch new s.watch)
    (λ s w. record { tables_differ = w.tables_differ; items = All-weaker (IsItem old) (IsItem new) (item_kept old new g) (items_of s.watch) w.items })
    streams h

-- so few streams watch a column

pub few_watch : (least : ℕ) (streams : List Stream) (table : List ℕ) (key : List (List ℕ)) (column : List ℕ) → crowded least streams table key column ≡ None → is_among column key ≡ false → watchers streams table column < least
few_watch least streams table key column e f =
    let test : nat_le least (watchers streams table column) ≡ false =
    not_some (nat_le least (watchers streams table column)) (ColumnWatched column 3)
    (sym (ap (λ b. cond b None (cond (nat_le least (watchers streams table column)) (Some (ColumnWatched column 3)) None)) f) ∙ e) in
    grind arith

few_watch_new : (streams : List Stream) (table : List ℕ) (key : List (List ℕ)) (column : List ℕ) → crowded 4 streams table key column ≡ None → is_among column key ≡ false → watchers streams table column ≤ 3
few_watch_new streams table key column e f = let few : watchers streams table column < 4 = few_watch 4 streams table key column e f in omega arith

-- a table more

limits_made : (trees : List ColumnTree) → All (λ (t : ColumnTree). tree_fault t ≡ None) trees → All (λ (c : Column). IsLimitOf c.ty c.limit) (columns_made trees)
limits_made [] h = All-nil (λ (c : Column). IsLimitOf c.ty c.limit)
limits_made (t ∷ ts) h =
    All-cons (λ (c : Column). IsLimitOf c.ty c.limit) (column_made t.name t.ty t.not_null) (columns_made ts)
    (limit_made t.ty (All-head (λ (t : ColumnTree). tree_fault t ≡ None) t ts h))
    (limits_made ts (All-tail (λ (t : ColumnTree). tree_fault t ≡ None) t ts h))

at_most : (n : ℕ) → many_fault n ≡ None → n ≤ 1024
at_most n e = let test : nat_lt 1024 n ≡ false = not_some (nat_lt 1024 n) (TooManyColumns 1024) e in grind arith

pub with_table : (tables : List Table) (streams : List Stream) (t : Table) (trees : List ColumnTree) → t.columns ≡ columns_made trees → table_fault tables streams t trees ≡ None → IsSoundCatalog tables streams → IsSoundCatalog (tables ++ t ∷ []) streams
with_table tables streams t trees made e s =
    let (no_there, e1) = neither (there_fault tables t.name) _ e in
    let (no_unknown, e2) = neither (first_of (no_column (column_names t.columns)) t.key) _ e1 in
    let (no_column_twice, e3) = neither (twice_fault (column_names t.columns)) _ e2 in
    let (no_key_twice, e4) = neither (twice_fault t.key) _ e3 in
    let (no_crowd, e5) = neither (first_of (crowded 4 streams t.name t.key) (column_names t.columns)) _ e4 in
    let (not_many, no_length) = neither (many_fault (length t.columns)) _ e5 in
    let absent : is_some (table_named t.name tables) ≡ false = not_some (is_some (table_named t.name tables)) TableThere no_there in
    record {
      tables_differ = subst AreDifferent (sym (map_more (λ (t : Table). t.name) tables t)) (one_more_differs (table_names tables) t.name s.tables_differ (sym (named_among t.name tables) ∙ absent));
      each_table = All-push IsSoundTable tables t s.each_table (record {
        width = at_most (length t.columns) not_many;
        columns_differ = differ_once (column_names t.columns) no_column_twice;
        key_differs = differ_once t.key no_key_twice;
        key_there = All-weaker (λ n. no_column (column_names t.columns) n ≡ None) (λ n. is_among n (column_names t.columns) ≡ true) (λ n f. not_none (is_among n (column_names t.columns)) (NoColumn n) f) t.key (each_none (no_column (column_names t.columns)) t.key no_unknown);
        limits = subst (All (λ (c : Column). IsLimitOf c.ty c.limit)) (sym made) (limits_made trees (each_none tree_fault trees no_length));
      });
      streams_differ = s.streams_differ;
      most_streams = s.most_streams;
      each_watch = watches_kept tables (tables ++ t ∷ []) streams (grows_by_table tables t absent) s.each_watch;
      most_watchers = All-push (λ (t : Table). All (λ (c : Column). is_among c.name t.key ≡ false → watchers streams t.name c.name ≤ 3) t.columns) tables t s.most_watchers
          (of_columns (λ n. is_among n t.key ≡ false → watchers streams t.name n ≤ 3) t.columns
          (All-weaker (λ n. crowded 4 streams t.name t.key n ≡ None) (λ n. is_among n t.key ≡ false → watchers streams t.name n ≤ 3) (few_watch_new streams t.name t.key) (column_names t.columns) (each_none (crowded 4 streams t.name t.key) (column_names t.columns) no_crowd)));
    }

-- a column more

not_full : (columns : List Column) (column : Column) → full_fault columns ≡ None → length (columns ++ column ∷ []) ≤ 1024
not_full columns column e =
    let test : nat_le 1024 (length columns) ≡ false = not_some (nat_le 1024 (length columns)) (TooManyColumns 1024) e in
    let few : length columns < 1024 = grind arith in
    omega (arith, length-append columns (column ∷ []))

table_kept : (streams : List Stream) (t : Table) (column : Column) (ty : TypeTree) → IsLimitOf column.ty column.limit → added_fault streams t column.name ty ≡ None → IsSoundTable t → IsSoundTable (grown t column)
table_kept streams t column ty limit e s =
    let (not_again, e1) = neither (again_fault t.columns column.name) _ e in
    let (no_crowd, e2) = neither (crowded 4 streams t.name t.key column.name) _ e1 in
    let (room, no_length) = neither (full_fault t.columns) _ e2 in
    let names : column_names (t.columns ++ column ∷ []) ≡ column_names t.columns ++ column.name ∷ [] = columns_more t.columns column in
    record {
      width = not_full t.columns column room;
      columns_differ = subst AreDifferent (sym names) (one_more_differs (column_names t.columns) column.name s.columns_differ (not_some (is_among column.name (column_names t.columns)) (ColumnTwice column.name) not_again));
      key_differs = s.key_differs;
      key_there = All-weaker (λ n. is_among n (column_names t.columns) ≡ true) (λ n. is_among n (column_names (t.columns ++ column ∷ [])) ≡ true) (λ n f. ap (is_among n) names ∙ still_among n column.name (column_names t.columns) f) t.key s.key_there;
      limits = All-push (λ (c : Column). IsLimitOf c.ty c.limit) t.columns column s.limits limit;
    }

pub with_a_column : (tables : List Table) (streams : List Stream) (table name : List ℕ) (column : Column) (ty : TypeTree) (not_null : Bool) → column ≡ column_made name ty not_null → column_fault tables streams table column.name ty ≡ None → IsSoundCatalog tables streams → IsSoundCatalog (with_column table column tables) streams
with_a_column tables streams table name column ty not_null made e s =
    let fault : (t : Table) → table_named table tables ≡ Some t → added_fault streams t column.name ty ≡ None = λ t f. sym (ap (λ o. added_to o streams table column.name ty) f) ∙ e in
    let limit : (t : Table) → table_named table tables ≡ Some t → IsLimitOf column.ty column.limit = λ t f.
    subst (λ (c : Column). IsLimitOf c.ty c.limit) (sym made) (limit_made ty (neither (full_fault t.columns) _ (neither (crowded 4 streams t.name t.key column.name) _ (neither (again_fault t.columns column.name) _ (fault t f)).1).1).1) in
    record {
      tables_differ = subst AreDifferent (sym (names_kept table column tables)) s.tables_differ;
      each_table = each_grown IsSoundTable table column tables s.each_table (λ t f sound. table_kept streams t column ty (limit t f) (fault t f) sound);
      streams_differ = s.streams_differ;
      most_streams = s.most_streams;
      each_watch = watches_kept tables (with_column table column tables) streams (grows_by_column table column tables) s.each_watch;
      most_watchers = each_grown (λ (t : Table). All (λ (c : Column). is_among c.name t.key ≡ false → watchers streams t.name c.name ≤ 3) t.columns) table column tables s.most_watchers
          (λ t f h. All-push (λ (c : Column). is_among c.name t.key ≡ false → watchers streams t.name c.name ≤ 3) t.columns column h
          (few_watch_new streams t.name t.key column.name (neither (crowded 4 streams t.name t.key column.name) _ (neither (again_fault t.columns column.name) _ (fault t f)).1).0));
    }

-- no table and no stream

pub nothing_is_sound : IsSoundCatalog [] []
nothing_is_sound = record {
  tables_differ = none_differ;
  each_table = All-nil IsSoundTable;
  streams_differ = none_differ;
  most_streams = omega arith;
  each_watch = All-nil (λ (s : Stream). IsSoundWatch [] s.watch);
  most_watchers = All-nil (λ (t : Table). All (λ (c : Column). is_among c.name t.key ≡ false → watchers [] t.name c.name ≤ 3) t.columns);
}

-- what grows

pub table_grows : (r : Result (Unit {0}) SchemaFault) (tables : List Table) (streams : List Stream) (t : Table) (trees : List ColumnTree) (after : List Table) → MatchResult r (λ x. table_fault tables streams t trees ≡ None) (λ e. not_memory e → table_fault tables streams t trees ≡ Some e) → OnOk r (after ≡ tables ++ t ∷ []) → OnOk r (Grows tables after)
table_grows (Ok x) tables streams t trees after e is = subst (Grows tables) (sym is) (grows_by_table tables t (not_some (is_some (table_named t.name tables)) TableThere (neither (there_fault tables t.name) _ e).0))
table_grows (Err x) tables streams t trees after e is = tt

pub column_grows : (r : Result (Unit {0}) SchemaFault) (tables : List Table) (name : List ℕ) (column : Column) (after : List Table) → OnOk r (after ≡ with_column name column tables) → OnOk r (Grows tables after)
column_grows (Ok x) tables name column after is = subst (Grows tables) (sym is) (grows_by_column name column tables)
column_grows (Err x) tables name column after is = tt

pub stream_grows : (r : Result (Unit {0}) SchemaFault) (tables after : List Table) → after ≡ tables → OnOk r (Grows tables after)
stream_grows (Ok x) tables after is = subst (Grows tables) (sym is) (grows_by_nothing tables)
stream_grows (Err x) tables after is = tt
