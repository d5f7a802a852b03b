use Rattle.std.proofs.Common.{rules, ◌∙◌, ◌+◌, sym, ap, get_or, drop}
use Rattle.std.proofs.lemmas.List.{drop_more}
use Rattle.cs_schema.specs.Lengths.{length_from}
use Rattle.cs_schema.proofs.Over.{over_step}
use Rattle.cs_schema.proofs.lengths.length.Goals as goal

pub returns-then-most-number : goal.returns-then-most-number
returns-then-most-number c =
    sym (sym c.loop-digit.invariant.rest
    ∙ ap (length_from c.args.most c.loop-digit.number) (drop_more c.args.digits.now c.loop-digit.digit-index 0 (search rules))
    ∙ over_step c.args.most c.loop-digit.number (get_or c.args.digits.now c.loop-digit.digit-index 0) (drop (c.loop-digit.digit-index + 1) c.args.digits.now) (search rules) (search rules))
