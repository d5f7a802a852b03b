use Rattle.std.proofs.Common.{◌≤◌, ◌-◌, ◌++◌, List, ℕ, length, take, drop, sym, subst, arith, length-drop}
use Rattle.cs_script.specs.Progress.{HasRead, IsRefusedIn}
use Rattle.cs_script.specs.Script.{most_bytes}
use Rattle.cs_script.proofs.Pieces.{piece_more, piece_whole}
use Rattle.cs_script.proofs.reader.Reader.take_piece.Goals as goal

-- what is left, behind what was taken, is no longer than all
left_short : (before piece : List ℕ) (i : ℕ) → length (before ++ piece) ≤ most_bytes → length ((before ++ take i piece) ++ take (length piece - i) (drop i piece)) ≤ most_bytes
left_short before piece i short = subst (λ (l : List ℕ). length l ≤ most_bytes) (sym (piece_whole before piece i)) short

pub parts-preserved : goal.parts-preserved
parts-preserved c = record {
  given = λ before given short.
      let piece = c.args.piece.now in
      let at = c.parts.at in
      subst (λ (l : List ℕ). HasRead c.take_part.new.self l) (piece_more before piece at c.in-Ok.count)
      (c.in-Ok.ensures.given (before ++ take at piece) (c.parts.invariant.given before given short) (left_short before piece at short));
  at = omega (arith, c.in-Ok.ensures.count, length-drop c.parts.at c.args.piece.now, c.parts-test.true);
}

pub returns-in-Err-clause-refused : goal.returns-in-Err-clause-refused
returns-in-Err-clause-refused c = λ before rest given short.
    let piece = c.args.piece.now in
    let at = c.parts.at in
    subst (λ (l : List ℕ). IsRefusedIn (l ++ rest) c.in-Err.fault) (piece_whole before piece at)
    (c.in-Err.ensures.refused (before ++ take at piece) rest (c.parts.invariant.given before given short) (left_short before piece at short))
