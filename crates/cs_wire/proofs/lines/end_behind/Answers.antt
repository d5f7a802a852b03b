use Rattle.std.proofs.Common.{subst, List, ℕ}
use Rattle.cs_wire.specs.Held.{EndsAt}
use Rattle.cs_types.specs.Texts.{HasNoEnd}
use Rattle.cs_wire.proofs.Ends.{rest_is, none_behind, ends_behind}
use Rattle.cs_wire.proofs.lines.end_behind.Goals as goal

pub returns-in-Some : goal.returns-in-Some
returns-in-Some c =
    ends_behind c.args.bytes.now c.args.seen c.in-Some.place c.requires.within c.requires.none
    (subst (λ (xs : List ℕ). EndsAt xs c.in-Some.place) (rest_is c.args.bytes.now c.args.seen) c.in-Some.ensures)

pub returns-in-None : goal.returns-in-None
returns-in-None c =
    none_behind c.args.bytes.now c.args.seen c.requires.none
    (subst HasNoEnd (rest_is c.args.bytes.now c.args.seen) c.in-None.ensures)
