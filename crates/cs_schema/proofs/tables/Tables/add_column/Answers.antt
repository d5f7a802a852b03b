use Rattle.std.proofs.Common.{rules, ◌∙◌, ◌≡◌, ap, sym, subst, List, Some, None}
use Rattle.std.specs.Ordering.{nat_cmp}
use Rattle.std.specs.Prelude.{OnOk}
use Rattle.std.specs.Cmp.Lexicographic.{slice_cmp}
use Rattle.std.specs.BTreeMap.{get}
use Rattle.cs_schema.specs.declared.types.Table.{Table}
use Rattle.cs_schema.specs.Tables.{flat, with_column, place_named}
use Rattle.cs_schema.proofs.Places.{named_stands, standing, same_places, on_ok, grown_named, none_grows, stands_at}
use Rattle.cs_schema.proofs.tables.Tables.add_column.Goals as goal

pub returns-in-Some-Some-clause-ok : goal.returns-in-Some-Some-clause-ok
returns-in-Some-Some-clause-ok c =
    let there : flat (get (slice_cmp nat_cmp) c.self.inside.places c.args.name.now) ≡ Some c.in-Some-Some.place = search rules in
    let at : place_named c.args.name.now c.self.inside.list.items ≡ Some c.in-Some-Some.place = sym (c.self.invariant c.args.name.now) ∙ there in
    let t = stands_at c.args.name.now c.self.inside.list.items c.in-Some-Some.place at in
    let listed : c.self.inside.list.items ≡ c.args.self.now = search rules in
    on_ok c.grow.result c.grow.ensures.ok (λ f. f t.0 t.1 ∙ grown_named c.args.name.now c.args.column c.self.inside.list.items c.in-Some-Some.place t.0 at t.1 ∙ ap (with_column c.args.name.now c.args.column) listed)

pub invariant_of-self : goal.invariant_of-self
invariant_of-self c =
    let there : flat (get (slice_cmp nat_cmp) c.self.inside.places c.args.name.now) ≡ Some c.in-Some-Some.place = search rules in
    let at : place_named c.args.name.now c.self.inside.list.items ≡ Some c.in-Some-Some.place = sym (c.self.invariant c.args.name.now) ∙ there in
    let t = stands_at c.args.name.now c.self.inside.list.items c.in-Some-Some.place at in
    let ok : OnOk c.grow.result (c.grow.new.tables.items ≡ with_column c.args.name.now c.args.column c.self.inside.list.items) = on_ok c.grow.result c.grow.ensures.ok (λ f. f t.0 t.1 ∙ grown_named c.args.name.now c.args.column c.self.inside.list.items c.in-Some-Some.place t.0 at t.1) in
    λ q. c.self.invariant q ∙ sym (same_places c.grow.result c.args.name.now c.args.column c.self.inside.list.items c.grow.new.tables.items ok c.grow.ensures.err q)

pub returns-in_default-clause-ok : goal.returns-in_default-clause-ok
returns-in_default-clause-ok c =
    let there : flat (get (slice_cmp nat_cmp) c.self.inside.places c.args.name.now) ≡ None = search rules in
    let listed : c.self.inside.list.items ≡ c.args.self.now = search rules in
    let P : List Table → Type 0 = λ l. l ≡ with_column c.args.name.now c.args.column l in
    subst P listed (none_grows c.args.name.now c.args.column c.self.inside.list.items (sym (named_stands c.args.name.now c.self.inside.list.items).0 ∙ ap (standing c.self.inside.list.items) (sym (c.self.invariant c.args.name.now) ∙ there)))
