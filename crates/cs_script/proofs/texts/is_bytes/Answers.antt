use Rattle.std.proofs.Common.{sym, ◌∙◌}
use Rattle.std.proofs.lemmas.Map.Text.{is_eq-slice_cmp}
use Rattle.cs_script.proofs.texts.is_bytes.Goals as goal

pub returns-clause-same : goal.returns-clause-same
returns-clause-same c = c.eq.ensures ∙ sym (is_eq-slice_cmp c.args.one.now c.args.other.now)
