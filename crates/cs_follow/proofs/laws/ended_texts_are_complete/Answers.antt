use Rattle.std.proofs.Common.{◌≢◌, List, [], ◌∷◌, map, refl, sym, ap, ◌∙◌, subst, Contains}
use Rattle.cs_types.specs.declared.names.Window.{Window}
use Rattle.cs_types.specs.Members.{in_head, in_map, from_map}
use Rattle.cs_schedule.specs.declared.row.Row.{Row}
use Rattle.cs_schedule.specs.Board.{fresh}
use Rattle.cs_schedule.specs.Rows.{rows_of}
use Rattle.cs_follow.proofs.laws.ended_texts_are_complete.Goals as goal

some_row : (rows : List Row) → rows ≢ [] → (r : Row) × Contains rows r
some_row [] h = absurd (h refl)
some_row (r ∷ rows) h = (r, in_head r rows)

pub returns : goal.returns
returns c = λ f w limits since before now turns count count_now faults faults_now es F C S.
    let some = some_row S.board.rows S.cause.0 in
    let there : Contains (rows_of w.start es) (fresh some.0) = subst (λ (v : Window). Contains (rows_of v.start es) (fresh some.0)) S.window ((S.of.rows (fresh some.0)).0 (in_map fresh some.0 S.board.rows some.1)) in
    c.consistent_texts_are_good.ensures.complete f w es (fresh some.0) F.feed F.created F.in_order C there
    (λ a i.
    let j : Contains (map fresh S.board.rows) a = (S.of.rows a).1 (subst (λ (v : Window). Contains (rows_of v.start es) a) (sym S.window) i) in
    let u = from_map fresh a S.board.rows j in
    ap (λ (z : Row). z.finished) u.2 ∙ S.cause.1 u.0 u.1)
