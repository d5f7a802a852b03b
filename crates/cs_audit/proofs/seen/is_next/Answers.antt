use Rattle.std.proofs.Common.{None, sym, ◌∙◌, arith}
use Rattle.std.proofs.lemmas.List.{get_or_default}
use Rattle.cs_types.specs.declared.change.Change.{Change}
use Rattle.cs_audit.proofs.Standing.{element}
use Rattle.cs_audit.proofs.seen.is_next.Goals as goal

pub prove-unreachable-requires : goal.prove-unreachable-requires
prove-unreachable-requires c =
    let place = c.args.place in
    let d : Change = element c.args.wanted.now place c.requires.within in
    let is : _ = get_or_default c.args.index.now.previous.items place None c.index.result.now (omega (arith, c.requires.within, c.requires.previous.count)) ∙ sym c.index.ensures ∙ c.in-Some.is in
    let latest = rw is at (c.requires.previous.each place d c.requires.within) in
    omega (arith, latest.0, c.if-prove.true, c.requires.within)
