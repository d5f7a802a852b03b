use Rattle.std.proofs.Common.{length, arith, ap, sym, ◌∙◌, subst}
use Rattle.cs_device.specs.Past.{content, crash_of}
use Rattle.cs_device.specs.Crash.{Leaves, IsUnchanged}
use Rattle.cs_device.proofs.Changed.{allowed_call, synced}
use Rattle.cs_device.proofs.disk.MemDiskDisk.sync.Goals as goal

pub invariant_of-self-2 : goal.invariant_of-self-2
invariant_of-self-2 c =
    let old = c.self.invariant in
    let kept = c.keep_sync.ensures in
    let below = allowed_call c.args.self.now c.fails_call.result c.fails_call.ensures c.if-fails_call.false in
    let made = ap (λ d. d.calls.made) c.self.view_is in
    let allowed = ap (λ d. d.allowed) c.self.view_is in
    let size = ap (λ s. length s.calls) kept in
    let written = ap (λ s. s.written) kept in
    let room = ap (λ s. s.room) kept in
    let limit = ap (λ s. s.allowed) kept in
    let bytes = old.0 ∙ sym (ap (λ s. content c.self.inside.first.items s.calls) kept) in
    (bytes, omega (arith, written, room, old.1), omega (arith, written, room, old.2), omega (arith, size, old.3, old.4, below, made, allowed, c.count-2.ensures.made), omega (arith, limit, old.4))

pub returns-clause-crash : goal.returns-clause-crash
returns-clause-crash c =
    subst (λ d. Leaves IsUnchanged (crash_of d.first d.past) (crash_of c.self.inside.first.items c.keep_sync.new.self.calls)) c.self.view_is
    (synced c.self.inside.first.items c.self.inside.log.calls _ (ap (λ s. s.calls) c.keep_sync.ensures))
