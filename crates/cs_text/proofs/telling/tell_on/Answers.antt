use Rattle.std.proofs.Common.{◌++◌, [], ◌∷◌, ◌∙◌}
use Rattle.cs_text.proofs.Marks.{told_more}
use Rattle.cs_text.proofs.telling.tell_on.Goals as goal

pub returns-clause-tells : goal.returns-clause-tells
returns-clause-tells c = λ _ es tells.
    let rows = c.in_ok-fold_entry.ensures.folded c.if-not-branch.false es tells.rows in
    let low = c.mark_of-mark.ensures.mark ∙ c.boards_are_of_entries.ensures.mark (es ++ c.args.entry.now ∷ []) c.fold_entry.new.self rows in
    told_more c.args.telling.now.board c.fold_entry.new.self c.args.entry.now c.args.telling.now.marked c.in_ok-telling.field-0 c.mark_of-mark.result c.args.telling.now.lines c.add_lines.new.lines es
    c.fold_entry.ensures.window rows low c.in_ok-telling.ensures.now c.in_ok-telling.ensures.lines tells
