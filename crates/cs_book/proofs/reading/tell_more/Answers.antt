use Rattle.std.proofs.Common.{◌≡◌, ◌≤◌, Bool, true, ℕ, List, [], ◌∷◌, ◌++◌, subst, sym, ap, ◌∙◌}
use Rattle.cs_schedule.specs.declared.entry.Entry.{Entry}
use Rattle.cs_types.specs.declared.names.Window.{Window}
use Rattle.cs_text.specs.Adding.{Tells}
use Rattle.cs_book.proofs.Payloads.{told_more, if_ok_both}
use Rattle.cs_book.proofs.reading.tell_more.Goals as goal

pub returns-clause-told : goal.returns-clause-told
returns-clause-told c =
    let t = c.args.telling.now in
    let u = c.tell_on.new.telling in
    let e = c.args.entry.now in
    let first : 1 ≤ t.board.window.start = subst (λ (n : ℕ). 1 ≤ n) (c.us-start.ensures.value ∙ ap (λ (w : Window). w.start) c.window.ensures) c.us-start.ensures.range.0 in
    if_ok_both (λ (fits : Bool). 1 ≤ u.marked) (λ (fits : Bool). fits ≡ true → (es : List Entry) → Tells t.board t.marked t.lines es → Tells u.board u.marked u.lines (es ++ e ∷ [])) _ c.tell_on.result
    (λ fits least tells. λ is es told. told_more c.journals_stay_consistent.ensures.rows t u es e c.rows-rows.ensures.ordered first c.tell_on.ensures.window least told (tells is es told.tells))
    c.tell_on.ensures.least c.tell_on.ensures.tells
