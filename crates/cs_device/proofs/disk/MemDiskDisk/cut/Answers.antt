use Rattle.std.proofs.Common.{length, take, arith, ap, sym, ◌∙◌, length-take}
use Rattle.cs_device.specs.Past.{content}
use Rattle.cs_device.proofs.Changed.{allowed_call}
use Rattle.cs_device.proofs.disk.MemDiskDisk.cut.Goals as goal

pub invariant_of-self-then-stops_now : goal.invariant_of-self-then-stops_now
invariant_of-self-then-stops_now c =
    let old = c.self.invariant in
    let kept = c.keep_cut.ensures in
    let below = allowed_call c.args.self.now c.fails_call.result c.fails_call.ensures c.if-fails_call.false in
    let made = ap (λ d. d.calls.made) c.self.view_is in
    let allowed = ap (λ d. d.allowed) c.self.view_is in
    let size = ap (λ s. length s.calls) kept in
    let written = ap (λ s. s.written) kept in
    let room = ap (λ s. s.room) kept in
    let limit = ap (λ s. s.allowed) kept in
    let bytes = old.0 ∙ sym (ap (λ s. content c.self.inside.first.items s.calls) kept) in
    (bytes, omega (arith, written, room, old.1), omega (arith, written, room, old.2), omega (arith, size, old.3, old.4, below, made, allowed, c.count-then-stops_now.ensures.made), omega (arith, limit, old.4))

pub invariant_of-self-2 : goal.invariant_of-self-2
invariant_of-self-2 c =
    let old = c.self.invariant in
    let kept = c.keep_cut-2.ensures in
    let below = allowed_call c.args.self.now c.fails_call.result c.fails_call.ensures c.if-fails_call.false in
    let made = ap (λ d. d.calls.made) c.self.view_is in
    let allowed = ap (λ d. d.allowed) c.self.view_is in
    let size = ap (λ s. length s.calls) kept in
    let written = ap (λ s. s.written) kept in
    let room = ap (λ s. s.room) kept in
    let limit = ap (λ s. s.allowed) kept in
    let bytes = c.truncate.ensures.items ∙ ap (λ b. take c.args.to b) old.0 ∙ sym (ap (λ s. content c.self.inside.first.items s.calls) kept) in
    (bytes, omega (arith, written, room, old.1), omega (arith, written, room, old.2, c.truncate.ensures.capacity, ap length c.truncate.ensures.items, length-take c.args.to c.self.inside.bytes.items), omega (arith, size, old.3, old.4, below, made, allowed, c.count-2.ensures.made), omega (arith, limit, old.4))
