use Rattle.std.proofs.Common.{◌≡◌, ℕ, ◌<◌, length, cond, take, get_or}
use Rattle.cs_place.specs.declared.part.Part.{Part}
use Rattle.cs_types.specs.Names.{is_among}
use Rattle.cs_partitions.proofs.children.set_births.Given as goal

abbrev pub invariant-loop-token : goal.invariant-loop-token
invariant-loop-token l = record {
  count : length l.births ≡ length l.fn.births;
  each : (i : ℕ) (d : Part) → i < length l.parts → get_or l.births i (0, 0) ≡ cond (is_among (get_or l.parts i d).token (take l.token-index l.tokens)) l.span (get_or l.fn.births i (0, 0));
}
