use Rattle.std.proofs.Common.{◌∙◌, ap, ◌≡◌}
use Rattle.std.specs.Ordering.{is_eq}
use Rattle.cs_types.specs.Row.{same_row}
use Rattle.cs_types.specs.Exact.{same_row-is}
use Rattle.cs_types.proofs.change.RowName.is.Goals as goal

pub returns : goal.returns
returns c =
    let test : c.is_eq.result ≡ same_row c.args.self.now c.args.other.now = c.is_eq.ensures ∙ ap is_eq c.cmp.ensures in
    record { test = test; equal = rw test (same_row-is c.args.self.now c.args.other.now) }
