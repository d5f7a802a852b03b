use Rattle.std.proofs.Common.{sym, ◌∙◌, true≢false}
use Rattle.cs_audit.specs.Index.{name_of, name_cmp}
use Rattle.cs_audit.proofs.Indexing.{places_more, new_key, key_twice, differ_more, exact_name, same_name}
use Rattle.cs_audit.proofs.conditions.names_differ.Goals as goal

pub returns-in-Some : goal.returns-in-Some
returns-in-Some c = (
  (λ e. absurd (true≢false (sym e))),
  λ differ. absurd (key_twice name_cmp exact_name same_name name_of c.loop-place.places c.args.wanted.now c.loop-place.place c.in-Some._earlier c.index-wanted-place.result c.in_ok-name.name
      c.loop-place.invariant.places (sym c.in_ok-_earlier.ensures.old ∙ c.in-Some.is) c.loop-place-test.true c.index-wanted-place.is c.in_ok-name.ensures differ),
)

pub loop-place-preserved : goal.loop-place-preserved
loop-place-preserved c =
    let w = c.args.wanted.now in
    let i = c.loop-place.place in
    let x = c.index-wanted-place.result in
    let new = new_key name_cmp exact_name same_name name_of c.loop-place.places w i c.in_ok-name.name c.loop-place.invariant.places (sym c.in_ok-_earlier.ensures.old ∙ c.in_default.is) in
    record {
      places = places_more name_cmp exact_name same_name name_of c.loop-place.places c.insert.new.self w i x c.in_ok-name.name new c.loop-place-test.true c.index-wanted-place.is
          c.in_ok-name.ensures c.in_ok-_earlier.ensures.updates.0 c.loop-place.invariant.places;
      differ = differ_more name_cmp exact_name same_name name_of w i x c.in_ok-name.name c.loop-place-test.true c.index-wanted-place.is c.in_ok-name.ensures new c.loop-place.invariant.differ;
    }
