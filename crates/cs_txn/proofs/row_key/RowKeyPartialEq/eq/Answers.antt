use Rattle.std.proofs.Common.{rules, arith, ◌≡◌, ◌∙◌, ap}
use Rattle.cs_txn.specs.Digests.{row_digest}
use Rattle.cs_txn.proofs.Places.{apart}
use Rattle.cs_txn.proofs.row_key.RowKeyPartialEq.eq.Goals as goal

pub returns-then-self-other : goal.returns-then-self-other
returns-then-self-other c =
    let one : c.self.inside.digest ≡ row_digest c.args.self.now = c.self.invariant ∙ ap row_digest (search rules) in
    let two : c.other.inside.digest ≡ row_digest c.args.other.now = c.other.invariant ∙ ap row_digest (search rules) in
    apart c.args.self.now c.args.other.now c.self.inside.digest c.other.inside.digest one two (λ e. omega (arith, e, c.if-self-other.true))
