use Rattle.std.proofs.Common.{List, ℕ, ap, ◌∙◌}
use Rattle.cs_schema.specs.Tables.{table_named}
use Rattle.cs_script.proofs.Named.{table_is}
use Rattle.cs_script.proofs.finder.table_of.Goals as goal

pub returns-then-as_slice-le-FEW-clause-name : goal.returns-then-as_slice-le-FEW-clause-name
returns-then-as_slice-le-FEW-clause-name c =
    table_is c.last_named.result c.args.name.now c.args.tables.now (c.last_named.ensures ∙ ap (table_named c.args.name.now) c.as_slice-then-as_slice-le-FEW.ensures)

pub returns-clause-name : goal.returns-clause-name
returns-clause-name c =
    table_is c.find.result c.args.name.now c.args.tables.now (c.find.ensures ∙ ap (λ (n : List ℕ). table_named n c.args.tables.now) c.in_ok-name.ensures)
