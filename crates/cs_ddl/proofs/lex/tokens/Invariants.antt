use Rattle.std.proofs.Common.{◌≡◌, ◌-◌, ◌≤◌, ◌++◌, length, drop}
use Rattle.cs_ddl.specs.Lex.{cut, tokens_of}
use Rattle.cs_ddl.proofs.lex.tokens.Given as goal

-- the tokens so far, and those of what is left, are all
abbrev pub invariant-loop-at : goal.invariant-loop-at
invariant-loop-at l = record { within : l.at ≤ length l.text; told : l.tokens.items ++ cut 0 l.at (drop l.at l.text) ≡ tokens_of l.text }

abbrev pub decreases-loop-at : goal.decreases-loop-at
decreases-loop-at l = length l.text - l.at
