use Rattle.std.proofs.Common.{sym, ◌∙◌}
use Rattle.std.specs.Ordering.{nat_cmp}
use Rattle.std.specs.Cmp.Lexicographic.{slice_cmp}
use Rattle.cs_output.specs.Line.{change_line}
use Rattle.cs_audit.proofs.Indexing.{places_more, new_key, differ_more, exact_text, same_text}
use Rattle.cs_audit.proofs.conditions.lines_differ.Goals as goal

pub loop-place-preserved : goal.loop-place-preserved
loop-place-preserved c =
    let w = c.args.wanted.now in
    let i = c.loop-place.place in
    let x = c.index-wanted-place.result in
    let new = new_key (slice_cmp nat_cmp) exact_text same_text change_line c.loop-place.places w i c.in_ok-line.line c.loop-place.invariant.places (sym c.in_ok-_earlier.ensures.old ∙ c.in_default.is) in
    record {
      places = places_more (slice_cmp nat_cmp) exact_text same_text change_line c.loop-place.places c.insert.new.self w i x c.in_ok-line.line new c.loop-place-test.true c.index-wanted-place.is
          c.in_ok-line.ensures c.in_ok-_earlier.ensures.updates.0 c.loop-place.invariant.places;
      differ = differ_more (slice_cmp nat_cmp) exact_text same_text change_line w i x c.in_ok-line.line c.loop-place-test.true c.index-wanted-place.is c.in_ok-line.ensures new c.loop-place.invariant.differ;
    }
