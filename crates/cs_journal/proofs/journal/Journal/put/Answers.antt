use Rattle.std.proofs.Common.{◌≡◌, ◌+◌, ◌-◌, length, IfSome, arith, ap, subst, refl}
use Rattle.cs_device.specs.Crash.{CrashesLeave}
use Rattle.cs_journal.specs.Crashes.{IsBeforeOrAfter}
use Rattle.cs_journal.specs.Rows.{payloads_of, with_payload}
use Rattle.cs_journal.specs.State.{IsAtRest, IsSettled, WhereTold}
use Rattle.cs_journal.proofs.Rest.{told_only}
use Rattle.cs_journal.proofs.Puts.{crash_of_first, crash_of_both, done_both, within_second, row_size}
use Rattle.cs_journal.proofs.journal.Journal.put.Goals as goal

pub returns-in_err-write_synced-clause-any_moment : goal.returns-in_err-write_synced-clause-any_moment
returns-in_err-write_synced-clause-any_moment g c = λ _.
    let settled = c.self.invariant c.if-self.false in
    let gate = c.self.inside.gate in
    let row = c.bytes-bytes.result.now in
    let is = c.bytes-bytes.ensures.bytes in
    let seen = g.J.Disk.seen c.self.inside.disk in
    let old = g.J.Disk.crash c.self.inside.disk in
    let mid = g.J.Disk.crash c.write_synced.new.disk in
    let written = g.J.Disk.seen c.write_synced.new.disk in
    let first = c.write_synced.ensures.any_moment in
    let same = ap (λ j. j.disk) c.self.view_is in
    subst (λ d. IfSome (g.J.Disk.seen d) (λ bytes. CrashesLeave (IsBeforeOrAfter bytes c.args.framed.now) (g.J.Disk.crash d) mid)) same (crash_of_first gate c.args.framed.now row is c.bytes-bytes.ensures.size seen old mid settled first)

pub write_synced-requires-2 : goal.write_synced-requires-2
write_synced-requires-2 g c =
    let settled = c.self.invariant c.if-self.false in
    let gate = c.self.inside.gate in
    let row = c.bytes-bytes.result.now in
    let is = c.bytes-bytes.ensures.bytes in
    let seen = g.J.Disk.seen c.self.inside.disk in
    let old = g.J.Disk.crash c.self.inside.disk in
    let mid = g.J.Disk.crash c.write_synced.new.disk in
    let written = g.J.Disk.seen c.write_synced.new.disk in
    let first = c.write_synced.ensures.any_moment in
    let same = ap (λ j. j.disk) c.self.view_is in
    within_second gate c.args.framed.now row is c.bytes-bytes.ensures.size seen old mid settled first written c.in_ok-write_synced.ensures.bytes (g.met.J.Disk.silent c.self.inside.disk c.write_synced.new.disk c.write_synced.ensures.object)

pub returns-in_err-write_synced-2-clause-any_moment : goal.returns-in_err-write_synced-2-clause-any_moment
returns-in_err-write_synced-2-clause-any_moment g c = λ _.
    let settled = c.self.invariant c.if-self.false in
    let gate = c.self.inside.gate in
    let row = c.bytes-bytes.result.now in
    let is = c.bytes-bytes.ensures.bytes in
    let seen = g.J.Disk.seen c.self.inside.disk in
    let old = g.J.Disk.crash c.self.inside.disk in
    let mid = g.J.Disk.crash c.write_synced.new.disk in
    let written = g.J.Disk.seen c.write_synced.new.disk in
    let first = c.write_synced.ensures.any_moment in
    let same = ap (λ j. j.disk) c.self.view_is in
    subst (λ d. IfSome (g.J.Disk.seen d) (λ bytes. CrashesLeave (IsBeforeOrAfter bytes c.args.framed.now) (g.J.Disk.crash d) (g.J.Disk.crash c.write_synced-2.new.disk))) same
    (crash_of_both gate c.args.framed.now row is c.bytes-bytes.ensures.size seen old mid settled first written c.in_ok-write_synced.ensures.bytes (g.J.Disk.crash c.write_synced-2.new.disk) c.in_ok-write_synced.ensures.durable c.write_synced-2.ensures.any_moment)

pub returns-clause-any_moment : goal.returns-clause-any_moment
returns-clause-any_moment g c = λ _.
    let settled = c.self.invariant c.if-self.false in
    let gate = c.self.inside.gate in
    let row = c.bytes-bytes.result.now in
    let is = c.bytes-bytes.ensures.bytes in
    let seen = g.J.Disk.seen c.self.inside.disk in
    let old = g.J.Disk.crash c.self.inside.disk in
    let mid = g.J.Disk.crash c.write_synced.new.disk in
    let written = g.J.Disk.seen c.write_synced.new.disk in
    let first = c.write_synced.ensures.any_moment in
    let same = ap (λ j. j.disk) c.self.view_is in
    subst (λ d. IfSome (g.J.Disk.seen d) (λ bytes. CrashesLeave (IsBeforeOrAfter bytes c.args.framed.now) (g.J.Disk.crash d) (g.J.Disk.crash c.write_synced-2.new.disk))) same
    (crash_of_both gate c.args.framed.now row is c.bytes-bytes.ensures.size seen old mid settled first written c.in_ok-write_synced.ensures.bytes (g.J.Disk.crash c.write_synced-2.new.disk) c.in_ok-write_synced.ensures.durable c.write_synced-2.ensures.any_moment)

pub returns-clause-added : goal.returns-clause-added
returns-clause-added g c =
    let settled = c.self.invariant c.if-self.false in
    let gate = c.self.inside.gate in
    let row = c.bytes-bytes.result.now in
    let is = c.bytes-bytes.ensures.bytes in
    let seen = g.J.Disk.seen c.self.inside.disk in
    let old = g.J.Disk.crash c.self.inside.disk in
    let mid = g.J.Disk.crash c.write_synced.new.disk in
    let written = g.J.Disk.seen c.write_synced.new.disk in
    let first = c.write_synced.ensures.any_moment in
    let same = ap (λ j. j.disk) c.self.view_is in
    subst (λ d. WhereTold (λ before after. payloads_of after ≡ with_payload c.args.framed.now (payloads_of before)) (g.J.Disk.seen d) (g.J.Disk.seen c.write_synced-2.new.disk)) same
    (done_both gate c.args.framed.now row is c.bytes-bytes.ensures.size seen old mid settled first written c.in_ok-write_synced.ensures.bytes (g.J.Disk.seen c.write_synced-2.new.disk) c.in_ok-write_synced-2.ensures.bytes).0

pub invariant_of-self-2 : goal.invariant_of-self-2
invariant_of-self-2 g c = λ _.
    let settled = c.self.invariant c.if-self.false in
    let gate = c.self.inside.gate in
    let row = c.bytes-bytes.result.now in
    let is = c.bytes-bytes.ensures.bytes in
    let seen = g.J.Disk.seen c.self.inside.disk in
    let old = g.J.Disk.crash c.self.inside.disk in
    let mid = g.J.Disk.crash c.write_synced.new.disk in
    let written = g.J.Disk.seen c.write_synced.new.disk in
    let first = c.write_synced.ensures.any_moment in
    let same = ap (λ j. j.disk) c.self.view_is in
    let opened = g.J.Disk.seen c.write_synced-2.new.disk in
    let object = g.met.J.Disk.same_then _ _ _ c.write_synced.ensures.object c.write_synced-2.ensures.object in
    let silent = g.met.J.Disk.silent c.self.inside.disk c.write_synced-2.new.disk object in
    let place : gate + 5 + length c.args.framed.now ≡ c.saturating_add-length.result - 1 = omega (arith, row_size c.args.framed.now row is, c.saturating_add-length.ensures, c.if-length-gt-LIMIT.false) in
    let rest = told_only (IsAtRest (gate + 5 + length c.args.framed.now)) seen opened silent (done_both gate c.args.framed.now row is c.bytes-bytes.ensures.size seen old mid settled first written c.in_ok-write_synced.ensures.bytes opened c.in_ok-write_synced-2.ensures.bytes).1 in
    subst (λ n. IsSettled opened (g.J.Disk.crash c.write_synced-2.new.disk) n) place (record { rest = rest; durable = c.in_ok-write_synced-2.ensures.durable })

pub returns-clause-settled : goal.returns-clause-settled
returns-clause-settled g c =
    let row = c.bytes-bytes.result.now in
    let place : c.saturating_add-length.result - 1 ≡ c.args.self.now.gate + 5 + length c.args.framed.now =
    omega (arith, row_size c.args.framed.now row c.bytes-bytes.ensures.bytes, c.saturating_add-length.ensures, c.if-length-gt-LIMIT.false, ap (λ j. j.gate) c.self.view_is) in
    (refl, place, invariant_of-self-2 g c refl)
