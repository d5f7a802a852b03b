use Rattle.std.proofs.Common.{rules, arith, ◌∙◌, ap}
use Rattle.cs_fetch.specs.Sets.{is_known_by}
use Rattle.cs_fetch.proofs.Keeping.{known_else}
use Rattle.cs_fetch.proofs.kept.SeenSet.has.Goals as goal

pub returns : goal.returns
returns c =
    known_else c.args.through c.self.inside.list c.args.name.now c.contains.result (omega (arith, c.us-stamp.ensures.value, c.if-stamp-through.false)) (omega (arith, c.us-stamp.ensures.value, c.if-stamp-through-2.false))
    (c.contains.ensures ∙ c.self.invariant c.args.name.now.seen)
    ∙ ap (λ xs. is_known_by c.args.through xs c.args.name.now) (search rules)
