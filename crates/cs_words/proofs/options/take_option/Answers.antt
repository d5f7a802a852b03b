use Rattle.std.proofs.Common.{refl, arith}
use Rattle.std.proofs.lemmas.List.{length-map}
use Rattle.cs_words.proofs.Settings.{name_wrong, name_again, value_wrong}
use Rattle.cs_words.proofs.Samples.{some_stamp}
use Rattle.cs_words.proofs.options.take_option.Goals as goal

pub returns-in_default-clause-refused : goal.returns-in_default-clause-refused
returns-in_default-clause-refused c end = name_wrong c.args.chosen.now end _ c.args.at (rw length-map c.requires) (λ option e none. c.in_default.ensures option e)

pub returns-then-is_chosen-clause-refused : goal.returns-then-is_chosen-clause-refused
returns-then-is_chosen-clause-refused c end = name_again c.args.chosen.now end _ c.args.at (rw length-map c.requires) c.in-Some.option c.in-Some.ensures (c.if-is_chosen.ensures.there refl)

pub returns-then-not-choose-clause-refused : goal.returns-then-not-choose-clause-refused
returns-then-not-choose-clause-refused c end =
    value_wrong c.args.chosen.now end _ c.args.at (c.written_stamps_read_back.ensures.written some_stamp (omega arith, omega arith)) c.in-Some.option c.in-Some.ensures (c.if-is_chosen.ensures.absent refl) (c.if-not-choose.ensures.none refl)
