use Rattle.std.proofs.Common.{sym, subst}
use Rattle.std.specs.List.Sorted.{IsPermutation}
use Rattle.cs_partitions.specs.Views.{AreLiveByLow}
use Rattle.cs_partitions.proofs.Living.{live_are}
use Rattle.cs_partitions.proofs.live.live_by_low.Goals as goal

pub returns : goal.returns
returns c created h =
    let moved = subst (λ z. IsPermutation z c.sort_by_low.new.parts.items) c.in_ok-live.ensures c.in_ok-sort_by_low.ensures.same in
    subst (λ z. AreLiveByLow c.args.parts.now c.args.moment z) (sym c.from_vec.ensures) (live_are created c.args.parts.now h c.args.moment c.sort_by_low.new.parts.items moved c.in_ok-sort_by_low.ensures.sorted)
