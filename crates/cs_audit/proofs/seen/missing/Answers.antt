use Rattle.cs_audit.proofs.Standing.{none_absent}
use Rattle.cs_audit.proofs.seen.missing.Goals as goal

pub returns-then-not-may_miss : goal.returns-then-not-may_miss
returns-then-not-may_miss c =
    λ known. none_absent c.args.stands.now c.args.entries.now c.args.wanted.now c.args.covered c.args.at c.requires.entries c.requires.in_order (c.may_miss.ensures c.if-not-may_miss.true) known
