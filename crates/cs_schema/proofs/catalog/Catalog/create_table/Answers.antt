use Rattle.std.proofs.Common.{◌≡◌, sym, subst, None}
use Rattle.cs_schema.specs.declared.types.Table.{Table}
use Rattle.cs_schema.specs.Making.{table_fault}
use Rattle.cs_schema.specs.Sound.{IsSoundCatalog}
use Rattle.cs_schema.proofs.SoundTables.{with_table}
use Rattle.cs_schema.proofs.catalog.Catalog.create_table.Goals as goal

pub invariant_of-self-2 : goal.invariant_of-self-2
invariant_of-self-2 c =
    let t : Table = record { name = c.in_ok-text.field-0; columns = c.in_ok-columns.field-0; key = c.in_ok-texts.field-0 } in
    subst (λ ts. IsSoundCatalog ts c.self.inside.streams) (sym c.in_ok-push.ensures.ok)
    (with_table c.self.inside.tables c.self.inside.streams t c.args.trees.now c.in_ok-columns.ensures
    (subst (λ ss. table_fault c.self.inside.tables ss t c.args.trees.now ≡ None) c.as_slice.ensures c.in_ok-check_table.ensures) c.self.invariant)
