use Rattle.std.proofs.Common.{sym, ◌∙◌}
use Rattle.cs_partitions.proofs.Indexes.{found_here, found_other, found_nowhere, stands_inside}
use Rattle.cs_partitions.proofs.finding.index_named.Goals as goal

pub returns-then-is_same : goal.returns-then-is_same
returns-then-is_same c =
    let s = sym c.in-Some.ensures in
    record {
      index = found_here c.args.parts.now c.requires c.args.token.now c.number_in-index.result (λ stream n l e. c.number_in-index.ensures stream n l (c.bytes.ensures.value ∙ e)) c.in-Some.part.now s (sym c.if-is_same.ensures);
      inside = stands_inside c.args.parts.now c.number_in-index.result c.in-Some.part.now s;
    }

pub returns-else-is_same : goal.returns-else-is_same
returns-else-is_same c = record {
  index = found_other c.args.parts.now c.requires c.args.token.now c.number_in-index.result (λ stream n l e. c.number_in-index.ensures stream n l (c.bytes.ensures.value ∙ e)) c.in-Some.part.now (sym c.in-Some.ensures) (sym c.if-is_same.ensures);
  inside = tt;
}

pub returns-in-None : goal.returns-in-None
returns-in-None c = record {
  index = found_nowhere c.args.parts.now c.requires c.args.token.now c.number_in-index.result (λ stream n l e. c.number_in-index.ensures stream n l (c.bytes.ensures.value ∙ e)) (sym c.in-None.ensures);
  inside = tt;
}
