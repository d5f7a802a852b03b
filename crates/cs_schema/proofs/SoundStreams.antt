-- A sound catalog stays sound with a stream more.
use Rattle.std.proofs.Common.{◌≡◌, ◌∙◌, sym, ap, subst, refl, ℕ, suc, ◌<◌, ◌≤◌, List, [], ◌∷◌, ◌++◌, length, Some, None, cond, false, true, Bool, is_some, true≢false, All, nat_le, IsSomeAnd, get_or, arith, length-append}
use Rattle.std.specs.declared.option.Option.{Option}
use Rattle.std.specs.Option.{option_or}
use Rattle.std.proofs.lemmas.List.Elements.{All-head, All-tail, All-weaker, All-push, All-contains_itself, All-contains}
use Rattle.std.specs.Prelude.{Contains}
use Rattle.cs_ddl.specs.declared.tree.OptionTree.{OptionTree}
use Rattle.cs_types.specs.Names.{is_same, is_among, first_again}
use Rattle.cs_types.specs.Firsts.{first_of}
use Rattle.cs_schema.specs.declared.types.Column.{Column}
use Rattle.cs_schema.specs.declared.types.Table.{Table}
use Rattle.cs_schema.specs.declared.types.Watched.{Watched}
use Rattle.cs_schema.specs.declared.types.Watch.{Watch}
use Rattle.cs_schema.specs.declared.types.Watch.TheVariants.{Nothing, All as all_tables, Tables}
use Rattle.cs_schema.specs.declared.types.Stream.{Stream}
use Rattle.cs_schema.specs.declared.fault.SchemaFault.TheVariants.{NoTable, NoColumn, KeyListed, StreamThere, TooManyStreams}
use Rattle.cs_schema.specs.Tables.{table_named, column_names}
use Rattle.cs_schema.specs.WatchList.{item_of}
use Rattle.cs_schema.specs.Faults.{no_column}
use Rattle.cs_schema.specs.Options.{option_fault, retention_fault, built_fault}
use Rattle.cs_schema.specs.Making.{crowded}
use Rattle.cs_schema.specs.Watching.{is_listed, lists_column, watches_column, watchers}
use Rattle.cs_schema.specs.Streaming.{items_of, listed, tables_of, no_table, unknown_in, unknown_listed, is_key, key_in, key_listed, twice_listed, crowded_table, crowded_part, crowded_in, crowded_item, crowded_watch, item_twice, item_twice_if, is_stream, stream_there, many_streams, items_fault, stream_fault}
use Rattle.cs_schema.specs.Sound.{AreDifferent, stream_names, IsSoundList, IsSoundWatch, IsSoundCatalog}
use Rattle.cs_schema.proofs.Differ.{neither, not_some, not_none, each_none, of_columns, map_more, differ_by, differ_once, one_more_differs, among_each, same_names, some_of, and_so}
use Rattle.cs_schema.proofs.Named.{each_named}
use Rattle.cs_schema.proofs.SoundTables.{few_watch}

-- the watch of a stream that is not refused

item_sound : (tables : List Table) (w : Watched) → no_table tables w ≡ None → unknown_listed tables w ≡ None → key_listed tables w ≡ None → twice_listed w ≡ None → IsSomeAnd (table_named w.table tables) (λ t. IsSoundList t (listed w.columns))
item_sound tables w there known unkeyed once =
    let found = some_of (table_named w.table tables) (not_none (is_some (table_named w.table tables)) (NoTable w.table) there) in
    let t : Table = found.0 in
    let unknown : first_of (no_column (column_names t.columns)) (listed w.columns) ≡ None = sym (ap (λ o. unknown_in o w) found.1) ∙ known in
    let keys : first_of (is_key t.key) (listed w.columns) ≡ None = sym (ap (λ o. key_in o w) found.1) ∙ unkeyed in
    and_so (λ t. IsSoundList t (listed w.columns)) (table_named w.table tables) t found.1 (record {
      there = All-weaker (λ n. no_column (column_names t.columns) n ≡ None) (λ n. is_among n (column_names t.columns) ≡ true) (λ n e. not_none (is_among n (column_names t.columns)) (NoColumn n) e) (listed w.columns) (each_none (no_column (column_names t.columns)) (listed w.columns) unknown);
      no_key = All-weaker (λ n. is_key t.key n ≡ None) (λ n. is_among n t.key ≡ false) (λ n e. not_some (is_among n t.key) (KeyListed n) e) (listed w.columns) (each_none (is_key t.key) (listed w.columns) keys);
      differ = differ_once (listed w.columns) once;
    })

items_sound : (tables : List Table) (ws : List Watched) → items_fault tables ws ≡ None → All (λ (w : Watched). IsSomeAnd (table_named w.table tables) (λ t. IsSoundList t (listed w.columns))) ws
items_sound tables ws e =
    let (a, e1) = neither (first_of (no_table tables) ws) _ e in
    let (b, e2) = neither (first_of (unknown_listed tables) ws) _ e1 in
    let (c, d) = neither (first_of (key_listed tables) ws) _ e2 in
    λ k x within. item_sound tables (get_or ws k x) (each_none (no_table tables) ws a k x within) (each_none (unknown_listed tables) ws b k x within) (each_none (key_listed tables) ws c k x within) (each_none twice_listed ws d k x within)

tables_once : (ws : List Watched) → item_twice ws ≡ None → AreDifferent (tables_of ws)
tables_once ws e = differ_by (tables_of ws) (by (first_again [] (tables_of ws)) refl e)
  where
    by : (o : Option (List ℕ)) → first_again [] (tables_of ws) ≡ o → item_twice_if o ≡ None → first_again [] (tables_of ws) ≡ None
    by None f g = f
    by (Some n) f g = absurd (true≢false (ap is_some g))

watch_sound : (tables : List Table) (watch : Watch) → items_fault tables (items_of watch) ≡ None → item_twice (items_of watch) ≡ None → IsSoundWatch tables watch
watch_sound tables watch e f = record { tables_differ = tables_once (items_of watch) f; items = items_sound tables (items_of watch) e }

-- how many watch a column

one_more_watches : (streams : List Stream) (s : Stream) (table column : List ℕ) → watchers (streams ++ s ∷ []) table column ≡ cond (watches_column s.watch table column) (suc (watchers streams table column)) (watchers streams table column)
one_more_watches [] s table column = refl
one_more_watches (x ∷ ss) s table column = by (watches_column x.watch table column) (watches_column s.watch table column) (one_more_watches ss s table column)
  where
    by : (a b : Bool) → watchers (ss ++ s ∷ []) table column ≡ cond b (suc (watchers ss table column)) (watchers ss table column)
        → cond a (suc (watchers (ss ++ s ∷ []) table column)) (watchers (ss ++ s ∷ []) table column) ≡ cond b (suc (cond a (suc (watchers ss table column)) (watchers ss table column))) (cond a (suc (watchers ss table column)) (watchers ss table column))
    by true true e = ap suc e
    by true false e = ap suc e
    by false true e = e
    by false false e = e

item_there : (P : Watched → Type 0) (table : List ℕ) (ws : List Watched) (w : Watched) → item_of table ws ≡ Some w → All P ws → P w × (w.table ≡ table)
item_there P table [] w e h = absurd (true≢false (sym (ap is_some e)))
item_there P table (x ∷ ws) w e h = by (λ f. item_there P table ws w f (All-tail P x ws h)) (item_of table ws) (is_same x.table table) refl refl e
  where
    by : (item_of table ws ≡ Some w → P w × (w.table ≡ table)) → (o : Option Watched) (b : Bool) → item_of table ws ≡ o → is_same x.table table ≡ b → option_or o (cond b (Some x) None) ≡ Some w → P w × (w.table ≡ table)
    by rest None true f s g = let same : x ≡ w = cc in (subst P same (All-head P x ws h), subst (λ (y : Watched). y.table ≡ table) same (same_names x.table table s))
    by rest None false f s g = absurd (true≢false (sym (ap is_some g)))
    by rest (Some y) b f s g = rest (f ∙ g)

-- a watch that is not refused leaves room at each column that it watches

all_room : (streams : List Stream) (t : Table) → crowded_table streams t ≡ None → All (λ (c : Column). crowded 3 streams t.name t.key c.name ≡ None) t.columns
all_room streams t e = of_columns (λ n. crowded 3 streams t.name t.key n ≡ None) t.columns (each_none (crowded 3 streams t.name t.key) (column_names t.columns) e)

part_room : (streams : List Stream) (t : Table) (columns : Option (List (List ℕ))) → crowded_part streams t columns ≡ None → All (λ (c : Column). is_listed columns c.name ≡ true → crowded 3 streams t.name t.key c.name ≡ None) t.columns
part_room streams t None e = All-weaker (λ (c : Column). crowded 3 streams t.name t.key c.name ≡ None) (λ (c : Column). true ≡ true → crowded 3 streams t.name t.key c.name ≡ None) (λ c f l. f) t.columns (all_room streams t e)
part_room streams t (Some columns) e = λ k d within l. among_each (λ n. crowded 3 streams t.name t.key n ≡ None) (get_or t.columns k d).name columns l (each_none (crowded 3 streams t.name t.key) columns e)

item_room : (tables : List Table) (streams : List Stream) (ws : List Watched) (t : Table) → table_named t.name tables ≡ Some t → first_of (crowded_item tables streams) ws ≡ None → (o : Option Watched) → item_of t.name ws ≡ o → All (λ (c : Column). lists_column o c.name ≡ true → crowded 3 streams t.name t.key c.name ≡ None) t.columns
item_room tables streams ws t named e None f = λ k d within l. absurd (true≢false (sym l))
item_room tables streams ws t named e (Some w) f =
    let there = item_there (λ w. crowded_item tables streams w ≡ None) t.name ws w f (each_none (crowded_item tables streams) ws e) in
    part_room streams t w.columns (sym (ap (λ o. crowded_in streams o w) (ap (λ n. table_named n tables) there.1 ∙ named)) ∙ there.0)

watch_room : (tables : List Table) (streams : List Stream) (watch : Watch) (t : Table) → Contains tables t → table_named t.name tables ≡ Some t → crowded_watch tables streams watch ≡ None → All (λ (c : Column). watches_column watch t.name c.name ≡ true → crowded 3 streams t.name t.key c.name ≡ None) t.columns
watch_room tables streams Nothing t there named e = λ k d within l. absurd (true≢false (sym l))
watch_room tables streams all_tables t there named e =
    All-weaker (λ (c : Column). crowded 3 streams t.name t.key c.name ≡ None) (λ (c : Column). true ≡ true → crowded 3 streams t.name t.key c.name ≡ None) (λ c f l. f) t.columns
    (all_room streams t (All-contains (λ t. crowded_table streams t ≡ None) tables t (each_none (crowded_table streams) tables e) there))
watch_room tables streams (Tables ws) t there named e = item_room tables streams ws t named e (item_of t.name ws) refl

few_still : (streams : List Stream) (s : Stream) (t : Table) (column : List ℕ) → (is_among column t.key ≡ false → watchers streams t.name column ≤ 3) → (watches_column s.watch t.name column ≡ true → crowded 3 streams t.name t.key column ≡ None) → is_among column t.key ≡ false → watchers (streams ++ s ∷ []) t.name column ≤ 3
few_still streams s t column few room f = subst (λ n. n ≤ 3) (sym (one_more_watches streams s t.name column)) (by (watches_column s.watch t.name column) room)
  where
    by : (b : Bool) → (b ≡ true → crowded 3 streams t.name t.key column ≡ None) → cond b (suc (watchers streams t.name column)) (watchers streams t.name column) ≤ 3
    by true more = let less : watchers streams t.name column < 3 = few_watch 3 streams t.name t.key column (more refl) f in omega arith
    by false more = few f

-- a stream more

stream_among : (q : List ℕ) (ss : List Stream) → is_stream q ss ≡ is_among q (stream_names ss)
stream_among q [] = refl
stream_among q (s ∷ ss) = ap (cond (is_same s.name q) true) (stream_among q ss)

not_many : (streams : List Stream) (s : Stream) → many_streams streams ≡ None → length (streams ++ s ∷ []) ≤ 10
not_many streams s e =
    let test : nat_le 10 (length streams) ≡ false = not_some (nat_le 10 (length streams)) (TooManyStreams 10) e in
    let few : length streams < 10 = grind arith in
    omega (arith, length-append streams (s ∷ []))

pub with_stream : (tables : List Table) (streams : List Stream) (s : Stream) (options : List OptionTree) → stream_fault tables streams s.name s.watch options ≡ None → IsSoundCatalog tables streams → IsSoundCatalog tables (streams ++ s ∷ [])
with_stream tables streams s options e sound =
    let (items, e1) = neither (items_fault tables (items_of s.watch)) _ e in
    let (no_there, e2) = neither (stream_there streams s.name) _ e1 in
    let (few, e3) = neither (many_streams streams) _ e2 in
    let (room, e4) = neither (crowded_watch tables streams s.watch) _ e3 in
    let once : item_twice (items_of s.watch) ≡ None = (neither (first_of built_fault options) (item_twice (items_of s.watch)) (neither (first_of retention_fault options) _ (neither (option_fault [] options) _ e4).1).1).1 in
    let named : All (λ (t : Table). table_named t.name tables ≡ Some t) tables = each_named tables sound.tables_differ in
    record {
      tables_differ = sound.tables_differ;
      each_table = sound.each_table;
      streams_differ = subst AreDifferent (sym (map_more (λ (s : Stream). s.name) streams s)) (one_more_differs (stream_names streams) s.name sound.streams_differ (sym (stream_among s.name streams) ∙ not_some (is_stream s.name streams) StreamThere no_there));
      most_streams = not_many streams s few;
      each_watch = All-push (λ (s : Stream). IsSoundWatch tables s.watch) streams s sound.each_watch (watch_sound tables s.watch items once);
      most_watchers = λ k d within. λ j c inside.
          few_still streams s (get_or tables k d) (get_or (get_or tables k d).columns j c).name
          (sound.most_watchers k d within j c inside)
          (watch_room tables streams s.watch (get_or tables k d) (All-contains_itself tables k d within) (named k d within) room j c inside);
    }
