use Rattle.std.proofs.Common.{◌≡◌, ◌+◌, ◌*◌, ◌≤◌, drop}
use Rattle.cs_types.specs.Moment.{tenths}
use Rattle.cs_types.proofs.moment.nanoseconds.Given as goal

abbrev pub invariant-loop-at : goal.invariant-loop-at
invariant-loop-at l =
    (l.sum + tenths l.unit (drop l.at l.text) ≡ tenths 100000000 (drop 20 l.text)) × (l.sum + 230 * l.unit ≤ 23000000000) × (l.unit ≤ 100000000)
