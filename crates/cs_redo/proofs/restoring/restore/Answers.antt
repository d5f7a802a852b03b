use Rattle.std.proofs.Common.{◌≡◌}
use Rattle.cs_redo.specs.Agreeing.{agreeing}
use Rattle.cs_redo.proofs.Kept.{keeps_both, held_before, quiet_once, quiet_both}
use Rattle.cs_redo.proofs.Restored.{agree_found, fronts_kept, images_kept}
use Rattle.cs_redo.proofs.restoring.restore.Goals as goal

pub replace_synced-requires-clause-same : goal.replace_synced-requires-clause-same
replace_synced-requires-clause-same g c =
    agree_found c.in_ok-count.count (g.O.Disk.seen c.len.new.self) (g.O.Disk.seen c.agree.new.disk) c.args.text.now (g.met.O.Disk.silent c.len.new.self c.agree.new.disk c.in_ok-count.ensures.object) c.in_ok-count.ensures.count c.in_ok-count.ensures.kept

pub returns-clause-front : goal.returns-clause-front
returns-clause-front g c =
    let text = c.args.text.now in
    let n = c.in_ok-count.count in
    let a = g.O.Disk.seen c.args.disk.now in
    let b = g.O.Disk.seen c.len.new.self in
    let d = g.O.Disk.seen c.agree.new.disk in
    let found = held_before (λ bytes. n ≡ agreeing bytes text) a b c.in_ok-len.ensures.kept c.in_ok-count.ensures.count in
    let keeps = keeps_both a b d c.in_ok-len.ensures.kept c.in_ok-count.ensures.kept in
    fronts_kept n c.in_ok-len.len text a d (g.O.Disk.seen c.replace_synced.new.disk) (g.O.Disk.crash c.agree.new.disk) (g.O.Disk.crash c.replace_synced.new.disk) found c.in_ok-len.ensures.length keeps c.replace_synced.ensures.front c.replace_synced.ensures.untouched

pub returns-clause-any_moment : goal.returns-clause-any_moment
returns-clause-any_moment g c =
    let text = c.args.text.now in
    let n = c.in_ok-count.count in
    let a = g.O.Disk.seen c.args.disk.now in
    let b = g.O.Disk.seen c.len.new.self in
    let d = g.O.Disk.seen c.agree.new.disk in
    let old = g.O.Disk.crash c.args.disk.now in
    let next = g.O.Disk.crash c.len.new.self in
    let mid = g.O.Disk.crash c.agree.new.disk in
    let found = held_before (λ bytes. n ≡ agreeing bytes text) a b c.in_ok-len.ensures.kept c.in_ok-count.ensures.count in
    let quiet = quiet_both old next mid (quiet_once old next c.in_ok-len.ensures.crash) c.in_ok-count.ensures.quiet in
    images_kept n c.in_ok-len.len text a d (g.O.Disk.seen c.replace_synced.new.disk) old mid (g.O.Disk.crash c.replace_synced.new.disk) found c.in_ok-len.ensures.length quiet c.replace_synced.ensures.any_moment c.replace_synced.ensures.untouched
