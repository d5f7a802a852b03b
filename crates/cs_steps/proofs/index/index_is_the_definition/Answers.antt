use Rattle.cs_steps.proofs.Growing.{starts_empty, takes_held, passes_other, ends_whole, cuts_transactions}
use Rattle.cs_steps.proofs.Picked.{is_whole}
use Rattle.cs_steps.proofs.index.index_is_the_definition.Goals as goal

pub returns : goal.returns
returns c = record { starts = starts_empty; takes = takes_held; passes = passes_other; ends = ends_whole; cuts = cuts_transactions; index = is_whole }
