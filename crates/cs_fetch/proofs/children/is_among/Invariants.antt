use Rattle.std.proofs.Common.{◌≡◌, drop}
use Rattle.cs_fetch.specs.Breach.{is_token_among}
use Rattle.cs_fetch.proofs.children.is_among.Given as goal

abbrev pub invariant-loop-one : goal.invariant-loop-one
invariant-loop-one l = is_token_among (drop l.one-index l.tokens) l.token ≡ is_token_among l.tokens l.token
