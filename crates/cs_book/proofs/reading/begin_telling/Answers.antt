use Rattle.std.proofs.Common.{◌≡◌}
use Rattle.cs_book.proofs.Payloads.{told_first}
use Rattle.cs_book.proofs.reading.begin_telling.Goals as goal

pub returns-clause-told : goal.returns-clause-told
returns-clause-told c = told_first c.texts_are_by_entries.ensures.first c.args.window.now (record { board = c.in_ok-begin.field-0; lines = c.new.result; marked = c.us.result }) c.in_ok-begin.ensures.window c.in_ok-begin.ensures.of c.new.ensures c.us.ensures.value c.us.ensures.range.0
