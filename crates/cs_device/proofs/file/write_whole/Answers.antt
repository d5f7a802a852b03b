use Rattle.std.proofs.Common.{◌≤◌, length, drop, length-drop, arith}
use Rattle.std.proofs.lemmas.List.{take_rest}
use Rattle.cs_device.proofs.Fronts.{more_taken, still_taken, all_taken}
use Rattle.cs_device.proofs.file.write_whole.Goals as goal

pub parts-preserved : goal.parts-preserved
parts-preserved g c =
    let bound : c.in-Ok.count ≤ length (drop c.parts.at c.args.bytes.now) = rw take_rest at c.in-Ok.ensures.bound in
    record {
      within = omega (arith, bound, length-drop c.parts.at c.args.bytes.now, c.parts.invariant.within);
      taken = more_taken _ _ _ c.args.bytes.now c.parts.at c.in-Ok.count c.parts.invariant.taken (rw take_rest at c.in-Ok.ensures.bytes);
    }

pub returns-in_default : goal.returns-in_default
returns-in_default g c = record { bytes = tt; torn = (c.parts.at, still_taken _ _ _ _ c.parts.invariant.taken c.in_default.ensures.bytes) }

pub returns-then-count-eq0 : goal.returns-then-count-eq0
returns-then-count-eq0 g c =
    record { bytes = tt; torn = (_, more_taken _ _ _ c.args.bytes.now c.parts.at c.in-Ok.count c.parts.invariant.taken (rw take_rest at c.in-Ok.ensures.bytes)) }

pub returns : goal.returns
returns g c = record { bytes = all_taken _ _ c.args.bytes.now c.parts.at (omega arith) c.parts.invariant.taken; torn = tt }
