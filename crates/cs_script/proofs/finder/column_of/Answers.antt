use Rattle.std.proofs.Common.{◌≡◌, rules, option_copied}
use Rattle.cs_txn.specs.Columns.{column_named}
use Rattle.cs_script.proofs.Named.{column_is}
use Rattle.cs_script.proofs.finder.column_of.Goals as goal

pub returns-in_ok-name-in-Some-clause-name : goal.returns-in_ok-name-in-Some-clause-name
returns-in_ok-name-in-Some-clause-name c =
    let found : option_copied c.placed.result ≡ column_named c.args.name.now c.args.table.now.columns = search rules in
    column_is c.placed.result c.args.name.now c.args.table.now.columns found

pub returns-in-None-clause-name : goal.returns-in-None-clause-name
returns-in-None-clause-name c =
    let found : option_copied c.walked.result ≡ column_named c.args.name.now c.args.table.now.columns = search rules in
    column_is c.walked.result c.args.name.now c.args.table.now.columns found
