use Rattle.cs_ddl.proofs.query.+placed.Given as goal

abbrev pub decreases-placed : goal.decreases-placed
decreases-placed l = l.left
