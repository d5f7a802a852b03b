use Rattle.cs_tool.proofs.Generating.{fresh_follow}
use Rattle.cs_tool.proofs.generated.book_in_memory.Goals as goal

pub returns-in-Ok-clause-entries : goal.returns-in-Ok-clause-entries
returns-in-Ok-clause-entries c =
    let E = c.in-Ok.ensures.entries in
    (E.0, E.1, fresh_follow c.journals_stay_consistent.ensures.first c.args.window.now E.0 _ c.in_ok-journal.ensures E.2)
