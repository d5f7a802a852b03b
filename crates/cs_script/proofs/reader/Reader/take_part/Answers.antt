use Rattle.std.proofs.Common.{◌+◌, ◌++◌, List, ℕ, take, drop, subst}
use Rattle.cs_script.specs.Progress.{HasRead, IsRefusedIn}
use Rattle.cs_script.specs.Script.{most_bytes}
use Rattle.cs_script.proofs.Pieces.{line_more, line_short, line_rest}
use Rattle.cs_script.proofs.reader.Reader.take_part.Goals as goal

pub returns-in-Ok-take_end-clause-given : goal.returns-in-Ok-take_end-clause-given
returns-in-Ok-take_end-clause-given c = λ before given short.
    let piece = c.args.piece.now in
    let end = c.in-Some.end in
    let found = c.in-Some.ensures in
    subst (λ (l : List ℕ). HasRead c.take_end.new.self l) (line_more before piece end found.0 found.2)
    (c.in-Ok-take_end.ensures.given (before ++ take end piece) (c.in-Ok-take_front.ensures.given before given) (line_short before piece end found.0 found.2 most_bytes short))

pub returns-in-Err-take_end-clause-refused : goal.returns-in-Err-take_end-clause-refused
returns-in-Err-take_end-clause-refused c = λ before rest given short.
    let piece = c.args.piece.now in
    let end = c.in-Some.end in
    let found = c.in-Some.ensures in
    subst (λ (l : List ℕ). IsRefusedIn l c.in-Err-take_end.fault) (line_rest before piece end found.0 found.2 rest)
    (c.in-Err-take_end.ensures.refused (before ++ take end piece) (drop (end + 1) piece ++ rest) (c.in-Ok-take_front.ensures.given before given) (line_short before piece end found.0 found.2 most_bytes short))
