use Rattle.std.proofs.Common.{◌≡◌, ◌++◌, ◌∷◌, [], ℕ, ap, ◌∙◌}
use Rattle.cs_audit.proofs.Indexing.{entries_more}
use Rattle.cs_audit.proofs.index.entries_of.Goals as goal

pub loop-place-preserved : goal.loop-place-preserved
loop-place-preserved c =
    let pushed : c.push.new.self.items ≡ c.loop-place.entries.items ++ (c.index-wanted-place.result.stamp, c.loop-place.place) ∷ [] =
    c.in_ok-push.ensures.items ∙ ap (λ (s : ℕ). c.loop-place.entries.items ++ (s, c.loop-place.place) ∷ []) c.us.ensures.value in
    entries_more c.loop-place.entries.items c.push.new.self.items c.args.wanted.now c.loop-place.place c.index-wanted-place.result c.loop-place-test.true c.index-wanted-place.is pushed c.loop-place.invariant
