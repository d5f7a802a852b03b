use Rattle.std.proofs.Common.{rules, ◌≡◌, refl}
use Rattle.cs_book.proofs.Opened.{over_sound, over_free, over_entries}
use Rattle.cs_book.proofs.Still.{still_now, still_front}
use Rattle.cs_book.proofs.book.Book.over.Goals as goal

pub invariant_of-result : goal.invariant_of-result
invariant_of-result g c =
    let t = c.args.telling in
    let told = c.requires.told in
    let same : c.as_bytes.result.now ≡ t.lines = (search rules) in
    (told.2.least, over_sound t.board c.fresh.new.self c.fresh.ensures c.requires.order told.2.in_order, λ _ _. (told.0, over_entries c.leases_are_no_entries.ensures.fresh (g.J.Disk.seen c.args.journal.disk) (g.O.Disk.seen c.redo.new.disk) t c.fresh.new.self c.as_bytes.result.now told.0 c.fresh.ensures c.in-Ok-redo.ensures.bytes same told.1 told.2))

pub returns-clause-free : goal.returns-clause-free
returns-clause-free g c = (over_free c.args.telling.board c.fresh.new.self c.fresh.ensures, refl)

pub returns-clause-entries : goal.returns-clause-entries
returns-clause-entries g c = λ es held told.
    let t = c.args.telling in
    let same : c.as_bytes.result.now ≡ t.lines = (search rules) in
    over_entries c.leases_are_no_entries.ensures.fresh (g.J.Disk.seen c.args.journal.disk) (g.O.Disk.seen c.redo.new.disk) t c.fresh.new.self c.as_bytes.result.now es c.fresh.ensures c.in-Ok-redo.ensures.bytes same held told

pub returns-clause-still : goal.returns-clause-still
returns-clause-still g c = (still_now (g.J.Disk.seen c.args.journal.disk), still_front _ (g.O.Disk.seen c.args.output) (g.O.Disk.seen c.redo.new.disk) c.redo.ensures.front)
