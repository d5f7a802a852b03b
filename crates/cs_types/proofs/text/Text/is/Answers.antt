use Rattle.std.proofs.Common.{◌≡◌, ◌∙◌, ap}
use Rattle.std.specs.Ordering.{is_eq}
use Rattle.cs_types.specs.Exact.{same_name-is}
use Rattle.cs_types.specs.Names.{is_same}
use Rattle.cs_types.proofs.text.Text.is.Goals as goal

pub returns-clause-equal : goal.returns-clause-equal
returns-clause-equal c =
    let test : c.is_eq.result ≡ is_same c.args.self.now c.args.other.now = c.is_eq.ensures ∙ ap is_eq c.cmp.ensures in
    rw test (same_name-is c.args.self.now c.args.other.now)
