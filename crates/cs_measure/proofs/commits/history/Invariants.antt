use Rattle.cs_txn.specs.Fits.{IsHistoryOf}
use Rattle.cs_measure.proofs.commits.history.Given as goal

abbrev pub invariant-loop-number : goal.invariant-loop-number
invariant-loop-number l = IsHistoryOf l.catalog.tables l.history
