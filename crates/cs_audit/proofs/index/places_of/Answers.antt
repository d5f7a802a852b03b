use Rattle.std.specs.Ordering.{nat_cmp}
use Rattle.std.specs.Cmp.Lexicographic.{slice_cmp}
use Rattle.cs_output.specs.Line.{change_line}
use Rattle.cs_audit.proofs.Indexing.{places_more, line_is_new, exact_text, same_text}
use Rattle.cs_audit.proofs.index.places_of.Goals as goal

pub loop-place-preserved : goal.loop-place-preserved
loop-place-preserved c =
    let w = c.args.wanted.now in
    let i = c.loop-place.place in
    let x = c.index-wanted-place.result in
    places_more (slice_cmp nat_cmp) exact_text same_text change_line c.loop-place.places c.insert.new.self w i x c.in_ok-line.line
    (line_is_new w i x c.in_ok-line.line c.requires c.loop-place-test.true c.index-wanted-place.is c.in_ok-line.ensures) c.loop-place-test.true c.index-wanted-place.is c.in_ok-line.ensures c.in_ok-insert.ensures.updates.0 c.loop-place.invariant
