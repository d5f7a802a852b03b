use Rattle.std.proofs.Common.{◌+◌, map, string_bytes, refl, sym, subst}
use Rattle.cs_words.specs.declared.options.Chosen.{Chosen}
use Rattle.cs_words.proofs.Settings.{Onward, onward_first, onward_next, fault_onward}
use Rattle.cs_words.proofs.options.read_options.Goals as goal

pub options-init : goal.options-init
options-init c = onward_first _ c.args.from c.args.end _ refl refl refl refl

pub returns-in-Err-clause-refused : goal.returns-in-Err-clause-refused
returns-in-Err-clause-refused c = fault_onward _ c.args.from c.options.at c.args.end c.options.chosen c.in-Err.fault c.options.invariant (c.in-Err.ensures.refused c.args.end)

pub options-preserved : goal.options-preserved
options-preserved c =
    let taken = c.in-Ok.ensures.taken in
    subst (λ (now : Chosen). Onward (map string_bytes c.args.words.now) c.args.from (c.options.at + 2) c.args.end now) (sym taken.5)
    (onward_next c.written_stamps_read_back.ensures.one _ c.args.from c.options.at c.args.end c.options.chosen taken.0 taken.1 c.options.invariant taken.2 taken.3 taken.4)
