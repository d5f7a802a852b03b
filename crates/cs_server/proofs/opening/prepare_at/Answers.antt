use Rattle.cs_server.proofs.opening.prepare_at.Goals as goal

pub returns-in-None : goal.returns-in-None
returns-in-None c = c.anew.ensures c.args.kept.now
