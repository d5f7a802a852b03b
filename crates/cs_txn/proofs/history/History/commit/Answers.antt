use Rattle.std.proofs.Common.{rules, ◌≡◌, ◌∙◌, ap, sym, subst, map, All, List, [], ◌++◌, ◌+◌, ◌≤◌, None}
use Rattle.cs_schema.specs.declared.types.Table.{Table}
use Rattle.cs_schema.specs.Sound.{IsSoundTable}
use Rattle.cs_txn.specs.declared.txn.Modification.{Modification}
use Rattle.cs_txn.specs.History.{last_stamp, modifications_of, IsHistory}
use Rattle.cs_txn.specs.Places.{PlacesOf, IdsOf, last_place, rows_of, lasts_in, lasts_of}
use Rattle.cs_txn.specs.Faults.{write_fault}
use Rattle.cs_txn.specs.Fits.{HasCells, FitsCatalog, IsHistoryOf}
use Rattle.cs_txn.specs.Sizes.{history_size, history_limit, weights_of, total}
use Rattle.cs_txn.proofs.Weights.{history_size-append}
use Rattle.cs_txn.proofs.Places.{lasts_alike, added_rows}
use Rattle.cs_txn.proofs.Kept.{history_kept}
use Rattle.cs_txn.proofs.Fitting.{fits_kept, history_of_kept}
use Rattle.cs_txn.proofs.Adding.{ids_added, stamp_added}
use Rattle.cs_txn.proofs.history.History.commit.Goals as goal

pub check-requires-clause-lasts : goal.check-requires-clause-lasts
check-requires-clause-lasts c =
    let keys : c.deref.result.now ≡ rows_of c.args.txn.now.writes = search rules in
    let found : c.deref-3.result.now ≡ lasts_in c.self.inside.rows c.deref.result.now = search rules in
    let items : c.as_slice-items.result.now ≡ c.self.inside.items.items = search rules in
    found ∙ ap (lasts_in c.self.inside.rows) keys ∙ lasts_alike c.self.inside.rows c.self.inside.items.items c.args.txn.now.writes c.self.invariant.0 ∙ ap (λ l. lasts_of l c.args.txn.now.writes) (sym items)

pub modifications-requires : goal.modifications-requires
modifications-requires c =
    let keys : c.deref.result.now ≡ rows_of c.args.txn.now.writes = search rules in
    let found : c.deref-4.result.now ≡ lasts_in c.self.inside.rows c.deref.result.now = search rules in
    let items : c.as_slice-items.result.now ≡ c.self.inside.items.items = search rules in
    found ∙ ap (lasts_in c.self.inside.rows) keys ∙ lasts_alike c.self.inside.rows c.self.inside.items.items c.args.txn.now.writes c.self.invariant.0 ∙ ap (λ l. lasts_of l c.args.txn.now.writes) (sym items)

pub put_all-requires-clause-rows : goal.put_all-requires-clause-rows
put_all-requires-clause-rows c =
    let old : List Modification = c.self.inside.items.items in
    let tables : List Table = c.args.catalog.now.tables in
    let keys : c.in_ok-keys.keys.items ≡ rows_of c.args.txn.now.writes = search rules in
    let added : c.as_slice-5.result.now ≡ modifications_of tables old c.args.txn.now = search rules in
    keys ∙ added_rows tables old c.args.txn.now c.args.txn.now.writes ∙ ap (map (λ (m : Modification). m.row)) (sym added)

pub invariant_of-self-2 : goal.invariant_of-self-2
invariant_of-self-2 c =
    let old : List Modification = c.self.inside.items.items in
    let tables : List Table = c.args.catalog.now.tables in
    let is : c.append.new.self.items ≡ old ++ modifications_of tables old c.args.txn.now = search rules in
    let some : modifications_of tables old c.args.txn.now ≡ [] → ⊥ = λ e. search rules in
    let both : c.as_slice-4.result.now ++ c.as_slice-5.result.now ≡ old ++ modifications_of tables old c.args.txn.now = search rules in
    let places : PlacesOf (old ++ modifications_of tables old c.args.txn.now) c.put_all.new.rows = λ row. c.put_all.ensures row ∙ ap (last_place row) both in
    let unrefused : write_fault tables old c.args.txn.now ≡ None = search rules in
    let added : c.as_slice-2.result.now ≡ modifications_of tables old c.args.txn.now = search rules in
    let weighed : c.as_slice-3.result.now ≡ weights_of (modifications_of tables old c.args.txn.now) = c.as_slice-3.ensures ∙ c.in_ok-sizes.ensures.weights ∙ ap weights_of added in
    let sum : c.in-Some.size ≡ history_size (old ++ modifications_of tables old c.args.txn.now) =
    c.in-Some.ensures.0 ∙ ap (λ n. n + total c.as_slice-3.result.now) c.self.invariant.4 ∙ ap (λ l. history_size old + total l) weighed ∙ sym (history_size-append old (modifications_of tables old c.args.txn.now)) in
    let within : c.in-Some.size ≤ history_limit = c.in-Some.ensures.1 in
    let P : List Modification → Type 0 = λ ms. PlacesOf ms c.put_all.new.rows × IdsOf ms c.insert.new.self × (c.us-self-inside.result ≡ last_stamp ms) × IsHistory ms × (c.in-Some.size ≡ history_size ms) × (c.in-Some.size ≤ history_limit) in
    subst P (sym is) (places, ids_added tables c.self.inside.ids c.insert.new.self old c.args.txn.now c.args.txn.now.writes some c.self.invariant.1 (λ q. search rules), c.us-self-inside.ensures.value ∙ stamp_added tables old c.args.txn.now c.args.txn.now.writes some, history_kept tables old c.args.txn.now c.self.invariant.3 unrefused, sum, within)

pub returns-clause-fits : goal.returns-clause-fits
returns-clause-fits c = λ a.
    let old : List Modification = c.self.inside.items.items in
    let tables : List Table = c.args.catalog.now.tables in
    let sound : All IsSoundTable tables = c.tables-tables.ensures.sound.each_table in
    let same : c.args.self.now ≡ c.self.inside.items.items = search rules in
    let is : c.append.new.self.items ≡ old ++ modifications_of tables old c.args.txn.now = search rules in
    let added : c.as_slice-2.result.now ≡ modifications_of tables old c.args.txn.now = search rules in
    let unrefused : write_fault tables old c.args.txn.now ≡ None = search rules in
    subst (All (FitsCatalog tables)) (sym is) (fits_kept tables old c.args.txn.now sound (subst (All (FitsCatalog tables)) same a) unrefused (subst (All HasCells) added c.in_ok-sizes.ensures.cells))

pub returns-clause-of_catalog : goal.returns-clause-of_catalog
returns-clause-of_catalog c = λ h.
    let old : List Modification = c.self.inside.items.items in
    let tables : List Table = c.args.catalog.now.tables in
    let sound : All IsSoundTable tables = c.tables-tables.ensures.sound.each_table in
    let same : c.args.self.now ≡ c.self.inside.items.items = search rules in
    let is : c.append.new.self.items ≡ old ++ modifications_of tables old c.args.txn.now = search rules in
    let added : c.as_slice-2.result.now ≡ modifications_of tables old c.args.txn.now = search rules in
    let unrefused : write_fault tables old c.args.txn.now ≡ None = search rules in
    subst (IsHistoryOf tables) (sym is) (history_of_kept tables old c.args.txn.now sound (subst (IsHistoryOf tables) same h) unrefused (subst (All HasCells) added c.in_ok-sizes.ensures.cells))
