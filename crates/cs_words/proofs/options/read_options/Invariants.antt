use Rattle.std.proofs.Common.{◌-◌, length, map, string_bytes}
use Rattle.cs_words.proofs.Settings.{Onward}
use Rattle.cs_words.proofs.options.read_options.Given as goal

abbrev pub invariant-options : goal.invariant-options
invariant-options l = Onward (map string_bytes l.words) l.from l.at l.end l.chosen

abbrev pub decreases-options : goal.decreases-options
decreases-options l = length l.words - l.at
