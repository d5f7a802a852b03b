use Rattle.std.proofs.Common.{rules, ◌∙◌, ap}
use Rattle.cs_fetch.specs.Keeping.{parents_of}
use Rattle.cs_fetch.proofs.Sets.{listed}
use Rattle.cs_fetch.proofs.listing.Listing.add.Goals as goal

pub invariant_of-self-2 : goal.invariant_of-self-2
invariant_of-self-2 c = λ token.
    listed c.self.inside.children.items c.args.child token _ _ (search rules) (rw (c.in_ok-token.ensures, c.in_ok-parents.ensures) at (c.in_ok-insert.ensures.updates.0 token)) (c.self.invariant token)
    ∙ ap (parents_of token) (search rules)
