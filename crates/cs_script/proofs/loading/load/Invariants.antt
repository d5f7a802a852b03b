use Rattle.std.proofs.Common.{◌≡◌, ◌-◌, ◌≤◌, ◌<◌, List, ℕ, length}
use Rattle.cs_script.specs.Progress.{IsGiven}
use Rattle.cs_script.proofs.loading.load.Given as goal

abbrev pub invariant-pieces : goal.invariant-pieces
invariant-pieces g l =
    record {
      given : (bytes : List ℕ) × IsGiven (g.S.Source.left l.initial.source) (g.S.Source.left l.source) l.reader l.total bytes;
      object : g.S.Source.same l.initial.source l.source;
      calm : g.S.Source.faults l.source ≡ g.S.Source.faults l.initial.source;
      room : 0 < length l.piece.items;
      total : l.total ≤ 67108865;
    }

abbrev pub decreases-pieces : goal.decreases-pieces
decreases-pieces g l = 67108865 - l.total
