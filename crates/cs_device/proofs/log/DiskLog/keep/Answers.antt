use Rattle.std.proofs.Common.{◌≡◌, length, arith, ap, ◌∙◌, length-append}
use Rattle.cs_device.specs.Log.{bytes_in}
use Rattle.cs_device.proofs.Logs.{length-past, bytes_more, kept_state, with_call}
use Rattle.cs_device.proofs.log.DiskLog.keep.Goals as goal

pub unreachable-requires-in-Err-push : goal.unreachable-requires-in-Err-push
unreachable-requires-in-Err-push c =
    let calls = ap (λ s. length s.calls) c.self.view_is in
    omega (arith, calls, length-past c.self.inside.log.items c.self.inside.written.items, c.requires.calls, c.self.invariant.2, ap (λ s. s.allowed) c.self.view_is, c.in-Err-push.ensures.full)

pub invariant_of-self : goal.invariant_of-self
invariant_of-self c =
    let log = ap bytes_in c.in-Ok-push.ensures.items ∙ bytes_more c.self.inside.log.items c.args.logged in
    let written = ap length c.in-Ok.ensures.items ∙ length-append c.self.inside.written.items c.args.bytes.now in
    let same : bytes_in c.push.new.self.items ≡ length c.extend_from_slice.new.self.items = omega (arith, log, written, c.self.invariant.0, c.requires.count) in
    (same, omega (arith, c.self.invariant.1, c.in-Ok.ensures.capacity), omega (arith, c.self.invariant.2, c.in-Ok-push.ensures.capacity))

pub returns : goal.returns
returns c =
    let log = c.self.inside.log.items in
    let written = c.self.inside.written.items in
    kept_state log _ c.args.logged written _ c.args.bytes.now c.self.inside.room c.self.inside.allowed c.in-Ok-push.ensures.items c.in-Ok.ensures.items c.self.invariant.0
    ∙ ap (with_call c.args.logged c.args.bytes.now) c.self.view_is
