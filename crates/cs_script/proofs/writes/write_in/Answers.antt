use Rattle.std.proofs.Common.{subst, option_copied}
use Rattle.cs_script.specs.Readings.{Gives}
use Rattle.cs_script.specs.Cells.{key_member}
use Rattle.cs_script.proofs.writes.write_in.Goals as goal

pub returns : goal.returns
returns c =
    let key = subst (λ o. Gives c.key_member-key.result (key_member (option_copied c.args.table) o)) c.get.ensures c.key_member-key.ensures in
    λ r given. c.write_made.ensures _ (c.both-3.ensures.reading r _ given (c.both-2.ensures.reading _ _ key (c.both.ensures.reading _ _ c.set_cells-set.ensures c.no_other_members-others.ensures)))
