use Rattle.std.proofs.Common.{sym, ◌∙◌}
use Rattle.cs_ddl.proofs.QueryWhole.{query_answers, query_is_this}
use Rattle.cs_ddl.proofs.query.parse_query.Goals as goal

pub returns-clause-answers : goal.returns-clause-answers
returns-clause-answers c =
    let is = c.deref.ensures.value ∙ c.in_ok-tokens.ensures in
    let same = c.deref-2.ensures.value ∙ sym c.deref.ensures.value in
    rw (c.answer.ensures, same) (query_answers c.args.text.now c.deref.result.now c.query-read.result is c.query-read.ensures)

pub returns-clause-only : goal.returns-clause-only
returns-clause-only c =
    let is = c.deref.ensures.value ∙ c.in_ok-tokens.ensures in
    let same = c.deref-2.ensures.value ∙ sym c.deref.ensures.value in
    rw (c.answer.ensures, same) (query_is_this c.args.text.now c.deref.result.now c.query-read.result is c.query-read.ensures)
