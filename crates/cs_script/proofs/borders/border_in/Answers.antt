use Rattle.std.proofs.Common.{subst, option_copied}
use Rattle.cs_script.specs.Readings.{Gives}
use Rattle.cs_script.specs.Borders.{border_key}
use Rattle.cs_script.proofs.borders.border_in.Goals as goal

pub returns : goal.returns
returns c =
    let key = subst (λ o. Gives c.border_key-key.result (border_key (option_copied c.args.table) o)) c.get.ensures c.border_key-key.ensures in
    λ r given. c.border_made.ensures _ (c.both-2.ensures.reading r _ given (c.both.ensures.reading _ _ key c.no_others-others.ensures))
