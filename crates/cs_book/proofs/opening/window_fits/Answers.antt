use Rattle.cs_book.proofs.Opened.{begin_length}
use Rattle.cs_book.proofs.opening.window_fits.Goals as goal

pub returns-clause-short : goal.returns-clause-short
returns-clause-short c = begin_length c.args.window.now c.requires
