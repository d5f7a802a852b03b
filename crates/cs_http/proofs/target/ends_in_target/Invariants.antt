use Rattle.std.proofs.Common.{◌↔◌, length}
use Rattle.httparse.specs.Grammar.{EndsInTarget}
use Rattle.cs_http.proofs.target.ends_in_target.Given as goal

-- the empty lines that were passed over make no difference
abbrev pub invariant-lines : goal.invariant-lines
invariant-lines l = EndsInTarget l.rest ↔ EndsInTarget l.bytes

abbrev pub decreases-lines : goal.decreases-lines
decreases-lines l = length l.rest
