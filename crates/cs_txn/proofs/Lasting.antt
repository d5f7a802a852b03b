-- What fits a catalog fits it when it has grown.
use Rattle.std.proofs.Common.{◌≡◌, ◌∙◌, sym, ap, subst, refl, ℕ, ◌≤◌, List, [], ◌∷◌, ◌++◌, Some, None, cond, false, true, Bool, is_some, true≢false, All, length, take, arith}
use Rattle.std.specs.declared.option.Option.{Option}
use Rattle.std.specs.Option.{IsSomeAnd}
use Rattle.std.proofs.lemmas.List.{take-append-le, length-append}
use Rattle.std.proofs.lemmas.List.Elements.{All-nil, All-cons, All-head, All-tail}
use Rattle.cs_types.specs.declared.cells.Cell.{Cell}
use Rattle.cs_types.specs.declared.change.Kind.{Kind}
use Rattle.cs_types.specs.declared.change.Kind.TheVariants.{Insert, Update, Delete}
use Rattle.cs_types.specs.Names.{is_same}
use Rattle.cs_schema.specs.declared.types.Column.{Column}
use Rattle.cs_schema.specs.declared.types.Table.{Table}
use Rattle.cs_schema.specs.Growing.{HasGrown, Grows}
use Rattle.cs_schema.specs.Tables.{table_named}
use Rattle.cs_txn.specs.declared.txn.Modification.{Modification}
use Rattle.cs_txn.specs.Columns.{column_named}
use Rattle.cs_txn.specs.Fits.{FitsColumn, is_free, IsRowOf, HasRows, FitsTable, FitsCatalog, EachFits, IsHistoryOf}

-- more columns behind those that are there

still_named : (columns more : List Column) (name : List ℕ) (c : Column) → column_named name columns ≡ Some c → column_named name (columns ++ more) ≡ Some c
still_named [] more name c e = absurd (true≢false (sym (ap is_some e)))
still_named (d ∷ ds) more name c e = at (is_same d.name name) e (still_named ds more name c)
  where
    at : (b : Bool) → cond b (Some d) (column_named name ds) ≡ Some c → (column_named name ds ≡ Some c → column_named name (ds ++ more) ≡ Some c) → cond b (Some d) (column_named name (ds ++ more)) ≡ Some c
    at true e r = e
    at false e r = r e

still_fits : (columns more : List Column) (cells : List Cell) → All (FitsColumn columns) cells → All (FitsColumn (columns ++ more)) cells
still_fits columns more [] a = All-nil (FitsColumn (columns ++ more))
still_fits columns more (c ∷ cs) a =
    let f : FitsColumn columns c = All-head (FitsColumn columns) c cs a in
    All-cons (FitsColumn (columns ++ more)) c cs (record { column = f.column; there = still_named columns more c.column f.column f.there; value = f.value }) (still_fits columns more cs (All-tail (FitsColumn columns) c cs a))

module _ (t : Table) (name : List ℕ) (more : List Column) where
  abbrev later : Table
  later = record { name = name; columns = t.columns ++ more; key = t.key }

  still_free : (n : ℕ) (q : List ℕ) → n ≤ length t.columns → is_free t.key (take n t.columns) q ≡ is_free t.key (take n (t.columns ++ more)) q
  still_free n q le = ap (λ cs. is_free t.key cs q) (sym (take-append-le n t.columns more le))

  still_row : (n : ℕ) (cells : List Cell) → n ≤ length t.columns → IsRowOf t n cells → IsRowOf later n cells
  still_row n cells le r = record { are_cells = r.are_cells; columns = λ q. r.columns q ∙ still_free n q le; values = still_fits t.columns more cells r.values }

  still_rows : (n : ℕ) (k : Kind) (before after : List Cell) → n ≤ length t.columns → HasRows t n k before after → HasRows later n k before after
  still_rows n Insert before after le h = (h.0, still_row n after le h.1)
  still_rows n Update before after le h = (still_row n before le h.0, still_row n after le h.1)
  still_rows n Delete before after le h = (still_row n before le h.0, h.1)

  still_named_free : (n : ℕ) (names : List (List ℕ)) → n ≤ length t.columns → All (λ q. is_free t.key (take n t.columns) q ≡ true) names → All (λ q. is_free t.key (take n (t.columns ++ more)) q ≡ true) names
  still_named_free n [] le a = All-nil (λ q. is_free t.key (take n (t.columns ++ more)) q ≡ true)
  still_named_free n (x ∷ xs) le a =
      All-cons (λ q. is_free t.key (take n (t.columns ++ more)) q ≡ true) x xs
      (sym (still_free n x le) ∙ All-head (λ q. is_free t.key (take n t.columns) q ≡ true) x xs a)
      (still_named_free n xs le (All-tail (λ q. is_free t.key (take n t.columns) q ≡ true) x xs a))

  still_of_table : (m : Modification) → FitsTable t m → FitsTable later m
  still_of_table m f =
      let l = length-append t.columns more in
      record {
        key = record { are_cells = f.key.are_cells; columns = f.key.columns; values = still_fits t.columns more m.row.key f.key.values };
        count = f.count;
        within = let w = f.within in omega (arith, l, w);
        named = still_named_free f.count m.named f.within f.named;
        rows = still_rows f.count m.kind m.before m.after f.within f.rows;
      }

grown_fits : (t u : Table) (m : Modification) → HasGrown t u → FitsTable t m → FitsTable u m
grown_fits t u m g f =
    let columns = g.columns.1 in
    let key = g.key in
    let is : record { name = u.name; columns = t.columns ++ g.columns.0; key = t.key } ≡ u = λ i. record { name = u.name; columns = sym columns i; key = sym key i } in
    subst (λ x. FitsTable x m) is (still_of_table t u.name g.columns.0 m f)

pub fits_grown : (old new : List Table) (m : Modification) → Grows old new → FitsCatalog old m → FitsCatalog new m
fits_grown old new m g f = at (table_named m.row.table new) refl (g m.row.table f.table f.there)
  where
    at : (o : Option Table) → table_named m.row.table new ≡ o → IsSomeAnd o (HasGrown f.table) → FitsCatalog new m
    at None e h = absurd h
    at (Some u) e h = record { table = u; there = e; fits = grown_fits f.table u m h f.fits }

each_grown : (old new : List Table) (earlier ms : List Modification) → Grows old new → EachFits old earlier ms → EachFits new earlier ms
each_grown old new earlier [] g h = tt
each_grown old new earlier (m ∷ ms) g h = (record { fits = fits_grown old new m g h.0.fits; found = h.0.found }, each_grown old new (earlier ++ m ∷ []) ms g h.1)

pub history_grown : (old new : List Table) (ms : List Modification) → Grows old new → IsHistoryOf old ms → IsHistoryOf new ms
history_grown old new ms g h = each_grown old new [] ms g h
