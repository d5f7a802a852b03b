use Rattle.std.proofs.Common.{rules, ◌∙◌, sym, ap, get_or, drop}
use Rattle.std.proofs.lemmas.List.{drop_more}
use Rattle.cs_schema.specs.Options.{retention_from}
use Rattle.cs_schema.proofs.Over.{retention_step}
use Rattle.cs_schema.proofs.options.retention.Goals as goal

pub returns-then-count-gt-MOST_HOURS : goal.returns-then-count-gt-MOST_HOURS
returns-then-count-gt-MOST_HOURS c =
    sym (sym c.loop-rest.invariant.rest
    ∙ ap (retention_from c.loop-rest.count) (drop_more c.loop-rest.rest.now 0 0 (search rules))
    ∙ retention_step c.loop-rest.count (get_or c.loop-rest.rest.now 0 0) (drop 1 c.loop-rest.rest.now) (search rules) (search rules))
