use Rattle.std.proofs.Common.{◌≡◌}
use Rattle.cs_book.proofs.Opened.{match_more}
use Rattle.cs_book.proofs.Payloads.{if_ok}
use Rattle.cs_book.proofs.Still.{still_then, still_kept}
use Rattle.cs_book.proofs.book.Book.begun.Goals as goal

pub returns-in-Ok-begin_telling-clause-objects : goal.returns-in-Ok-begin_telling-clause-objects
returns-in-Ok-begin_telling-clause-objects g c =
    match_more _ _ _ _ c.put_begin.result
    (λ b h. (h.0, g.met.O.Disk.same_then c.args.output c.len.new.self b.output c.len.ensures.object h.1))
    (λ e h. (h.0, g.met.O.Disk.same_then c.args.output c.len.new.self e.2 c.len.ensures.object h.1)) c.put_begin.ensures.objects

pub returns-in-Ok-begin_telling-clause-still : goal.returns-in-Ok-begin_telling-clause-still
returns-in-Ok-begin_telling-clause-still g c =
    let text = g.O.Disk.seen c.args.output in
    let now = g.O.Disk.seen c.len.new.self in
    if_ok _ _ c.put_begin.result (λ b h. (h.0, still_then text now (g.O.Disk.seen b.output) (still_kept text now c.len.ensures.kept) h.1)) c.put_begin.ensures.still
