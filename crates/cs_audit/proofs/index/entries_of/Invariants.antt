use Rattle.cs_audit.specs.Index.{AreEntries}
use Rattle.cs_audit.proofs.index.entries_of.Given as goal

abbrev pub invariant-loop-place : goal.invariant-loop-place
invariant-loop-place l = AreEntries l.entries.items l.wanted l.place
