use Rattle.std.proofs.Common.{◌≡◌, sym, subst, None, false}
use Rattle.cs_schema.specs.Making.{column_fault}
use Rattle.cs_schema.specs.Sound.{IsSoundCatalog}
use Rattle.cs_schema.proofs.SoundTables.{with_a_column}
use Rattle.cs_schema.proofs.catalog.Catalog.add_column.Goals as goal

pub invariant_of-self-2 : goal.invariant_of-self-2
invariant_of-self-2 c =
    subst (λ ts. IsSoundCatalog ts c.self.inside.streams) (sym c.in_ok-add_column.ensures.ok)
    (with_a_column c.self.inside.tables c.self.inside.streams c.in_ok-table.table c.args.name.now c.in_ok-made.made c.args.ty.now false c.in_ok-made.ensures
    (subst (λ ss. column_fault c.self.inside.tables ss c.in_ok-table.table c.in_ok-made.made.name c.args.ty.now ≡ None) c.as_slice.ensures c.in_ok-check_column.ensures) c.self.invariant)
