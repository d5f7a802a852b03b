use Rattle.std.proofs.Common.{◌≡◌, ap, sym, Some, ◌∙◌}
use Rattle.cs_types.specs.Texts.{HasNoEnd}
use Rattle.cs_http.specs.Line.{finished_line, cut_line, closing_reading}
use Rattle.cs_http.proofs.Closings.{finished_back, cut_back, finished_no_end, cut_no_end, so_of}
use Rattle.cs_http.proofs.closing.closing_line.Goals as goal

pub returns-in-Finished-clause-read : goal.returns-in-Finished-clause-read
returns-in-Finished-clause-read c =
    so_of (λ line. closing_reading line ≡ Some c.args.closing.now) c.of.result finished_line c.of.ensures (finished_back ∙ ap Some (sym c.in-Finished.is))

pub returns-in-Finished-clause-no_end : goal.returns-in-Finished-clause-no_end
returns-in-Finished-clause-no_end c = so_of HasNoEnd c.of.result finished_line c.of.ensures finished_no_end

pub returns-in-Cut-clause-read : goal.returns-in-Cut-clause-read
returns-in-Cut-clause-read c =
    so_of (λ line. closing_reading line ≡ Some c.args.closing.now) c.of-in-Cut.result cut_line c.of-in-Cut.ensures (cut_back ∙ ap Some (sym c.in-Cut.is))

pub returns-in-Cut-clause-no_end : goal.returns-in-Cut-clause-no_end
returns-in-Cut-clause-no_end c = so_of HasNoEnd c.of-in-Cut.result cut_line c.of-in-Cut.ensures cut_no_end
