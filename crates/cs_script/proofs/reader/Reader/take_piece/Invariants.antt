use Rattle.std.proofs.Common.{◌≤◌, ◌-◌, ◌++◌, List, ℕ, length, take}
use Rattle.cs_script.specs.Progress.{HasRead}
use Rattle.cs_script.specs.Script.{most_bytes}
use Rattle.cs_script.proofs.reader.Reader.take_piece.Given as goal

abbrev pub invariant-parts : goal.invariant-parts
invariant-parts l =
    record {
      given : (before : List ℕ) → HasRead l.initial.self before → length (before ++ l.piece) ≤ most_bytes → HasRead l.self (before ++ take l.at l.piece);
      at : l.at ≤ length l.piece;
    }

abbrev pub decreases-parts : goal.decreases-parts
decreases-parts l = length l.piece - l.at
