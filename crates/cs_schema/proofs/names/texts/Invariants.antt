use Rattle.std.proofs.Common.{◌≡◌, ◌++◌, drop}
use Rattle.cs_schema.specs.Names.{names_of}
use Rattle.cs_schema.proofs.names.texts.Given as goal

abbrev pub invariant-loop-word : goal.invariant-loop-word
invariant-loop-word l = l.names ++ names_of (drop l.word-index l.words) ≡ names_of l.words
