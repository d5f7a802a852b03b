use Rattle.std.proofs.Common.{◌∙◌, ap, is_eq}
use Rattle.cs_fetch.proofs.children.is_same.Goals as goal

pub returns : goal.returns
returns c = c.is_eq.ensures ∙ ap is_eq c.cmp.ensures
