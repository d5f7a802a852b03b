use Rattle.std.proofs.Common.{rules, Err}
use Rattle.cs_tree.specs.View.{view}
use Rattle.cs_script.specs.Readings.{not_memory}
use Rattle.cs_script.specs.Takes.{IsTakenTree}
use Rattle.cs_script.proofs.Doing.{cause_taken}
use Rattle.cs_script.proofs.Ids.{id_of_read}
use Rattle.cs_script.proofs.state.ServerState.take.Goals as goal

pub returns-in_err-at-clause-refused : goal.returns-in_err-at-clause-refused
returns-in_err-at-clause-refused c =
    let told : not_memory c.in_err-at.field-0.0 → IsTakenTree c.args.self.now (view c.args.tree.now) (Err c.in_err-at.field-0.0) =
    λ n. cause_taken c.args.self.now (view c.args.tree.now) c.told_of-told.result c.in_err-at.field-0.0 c.told_of-told.ensures (c.in_err-at.ensures.reading n) in
    search (rules, told)

pub act-requires-clause-id : goal.act-requires-clause-id
act-requires-clause-id c = id_of_read c.args.self.now c.told_of-told.result (view c.args.tree.now) (c.in_ok-at.at, c.in_ok-at.action) c.in_ok-at.ensures.reading
