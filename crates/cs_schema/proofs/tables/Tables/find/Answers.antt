use Rattle.std.proofs.Common.{rules, ◌≡◌, ◌∙◌, sym, ap, Some, None}
use Rattle.std.specs.Ordering.{nat_cmp}
use Rattle.std.specs.Cmp.Lexicographic.{slice_cmp}
use Rattle.std.specs.BTreeMap.{get}
use Rattle.cs_schema.specs.Tables.{flat, table_named}
use Rattle.std.specs.List.{slice_get}
use Rattle.cs_schema.proofs.Places.{named_stands, standing}
use Rattle.cs_schema.proofs.tables.Tables.find.Goals as goal

pub returns-in-Some-Some : goal.returns-in-Some-Some
returns-in-Some-Some c =
    let there : flat (get (slice_cmp nat_cmp) c.self.inside.places c.args.name.now) ≡ Some c.in-Some-Some.place = search rules in
    let listed : c.self.inside.list.items ≡ c.args.self.now = search rules in
    let sliced : c.as_slice.result.now ≡ c.self.inside.list.items = search rules in
    let found : standing c.self.inside.list.items (Some c.in-Some-Some.place) ≡ table_named c.args.name.now c.self.inside.list.items = ap (standing c.self.inside.list.items) (sym there ∙ c.self.invariant c.args.name.now) ∙ (named_stands c.args.name.now c.self.inside.list.items).0 in
    c.table_at.ensures ∙ ap (λ l. slice_get l c.in-Some-Some.place) sliced ∙ found ∙ ap (table_named c.args.name.now) listed

pub returns-in_default : goal.returns-in_default
returns-in_default c =
    let there : flat (get (slice_cmp nat_cmp) c.self.inside.places c.args.name.now) ≡ None = search rules in
    let listed : c.self.inside.list.items ≡ c.args.self.now = search rules in
    let found : standing c.self.inside.list.items None ≡ table_named c.args.name.now c.self.inside.list.items = ap (standing c.self.inside.list.items) (sym there ∙ c.self.invariant c.args.name.now) ∙ (named_stands c.args.name.now c.self.inside.list.items).0 in
    found ∙ ap (table_named c.args.name.now) listed
