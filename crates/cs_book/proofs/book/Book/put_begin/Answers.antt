use Rattle.std.proofs.Common.{◌≡◌, [], ◌∷◌, Some, IfSome, subst, sym}
use Rattle.cs_device.specs.Crash.{CrashesLeave}
use Rattle.cs_schedule.specs.declared.entry.Entry.TheVariants.{Begin}
use Rattle.cs_book.specs.Opening.{HoldsSameOrFirst}
use Rattle.cs_book.proofs.Opened.{first_told, first_crash, whole_crash, if_err, begin_fault}
use Rattle.cs_book.proofs.Payloads.{if_ok}
use Rattle.cs_book.proofs.Still.{still_then, still_told}
use Rattle.cs_book.proofs.book.Book.put_begin.Goals as goal

pub returns-in_default-clause-any_moment : goal.returns-in_default-clause-any_moment
returns-in_default-clause-any_moment g c =
    let j = c.args.journal in
    let w = c.args.telling.board.window in
    subst (λ d. IfSome (g.J.Disk.seen j.disk) (λ bytes. CrashesLeave (HoldsSameOrFirst w bytes) (g.J.Disk.crash j.disk) (g.J.Disk.crash d))) (sym c.close.ensures)
    (first_crash w c.args.framed (g.J.Disk.seen j.disk) (g.J.Disk.crash j.disk) (g.J.Disk.crash c.put.new.self.disk) c.requires.framed c.requires.form c.requires.none (c.put.ensures.any_moment c.requires.running))

pub over-requires-clause-told : goal.over-requires-clause-told
over-requires-clause-told g c =
    let j = c.args.journal in
    let w = c.args.telling.board.window in
    (Begin w ∷ [], first_told (Begin w) c.args.framed (g.J.Disk.seen j.disk) (g.J.Disk.seen c.put.new.self.disk) c.requires.framed c.requires.form c.requires.none (g.met.J.Disk.silent j.disk c.put.new.self.disk c.put.ensures.object) c.in-Ok.ensures.added, c.requires.told)

pub returns-clause-entries : goal.returns-clause-entries
returns-clause-entries g c =
    let j = c.args.journal in
    let w = c.args.telling.board.window in
    let held = first_told (Begin w) c.args.framed (g.J.Disk.seen j.disk) (g.J.Disk.seen c.put.new.self.disk) c.requires.framed c.requires.form c.requires.none (g.met.J.Disk.silent j.disk c.put.new.self.disk c.put.ensures.object) c.in-Ok.ensures.added in
    if_ok _ _ c.over.result (λ b h. h (Begin w ∷ []) held c.requires.told) c.over.ensures.entries

pub returns-clause-any_moment : goal.returns-clause-any_moment
returns-clause-any_moment g c =
    let j = c.args.journal in
    let w = c.args.telling.board.window in
    let put = first_crash w c.args.framed (g.J.Disk.seen j.disk) (g.J.Disk.crash j.disk) (g.J.Disk.crash c.put.new.self.disk) c.requires.framed c.requires.form c.requires.none (c.put.ensures.any_moment c.requires.running) in
    whole_crash w (g.J.Disk.seen j.disk) (g.J.Disk.crash j.disk) g.J.Disk.crash (λ x. x.disk) c.put.new.self (λ b. b.journal) (λ e. e.1) c.over.result c.over.ensures.journal c.over.ensures.back put

pub returns-clause-refused : goal.returns-clause-refused
returns-clause-refused g c = if_err _ _ c.over.result (λ e h. begin_fault (g.J.Disk.faults c.args.journal.disk) (g.O.Disk.faults c.args.output) e.0 (g.J.Disk.faults e.1) (g.O.Disk.faults e.2) h) c.over.ensures.refused

pub returns-clause-still : goal.returns-clause-still
returns-clause-still g c =
    let j = c.args.journal in
    let put = still_told _ (g.J.Disk.seen j.disk) (g.J.Disk.seen c.put.new.self.disk) c.in-Ok.ensures.added in
    if_ok _ _ c.over.result (λ b h. (still_then (g.J.Disk.seen j.disk) (g.J.Disk.seen c.put.new.self.disk) (g.J.Disk.seen b.journal.disk) put h.0, h.1)) c.over.ensures.still
