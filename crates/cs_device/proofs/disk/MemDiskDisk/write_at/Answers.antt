use Rattle.std.proofs.Common.{◌≤◌, length, arith, ap, sym, ◌∙◌, subst}
use Rattle.cs_device.specs.Past.{content}
use Rattle.cs_device.specs.Memory.{seen_of}
use Rattle.cs_device.proofs.Changed.{allowed_write, written_within, room_for}
use Rattle.cs_device.proofs.disk.MemDiskDisk.write_at.Goals as goal

pub invariant_of-self-then-stops_now : goal.invariant_of-self-then-stops_now
invariant_of-self-then-stops_now c =
    let old = c.self.invariant in
    let kept = c.keep_write.ensures in
    let below = allowed_write c.args.self.now (length c.args.bytes.now) c.fails_write.result c.fails_write.ensures c.if-fails_write.false in
    let made = ap (λ d. d.calls.made) c.self.view_is in
    let allowed = ap (λ d. d.allowed) c.self.view_is in
    let size = ap (λ s. length s.calls) kept in
    let written = ap (λ s. s.written) kept in
    let room = ap (λ s. s.room) kept in
    let limit = ap (λ s. s.allowed) kept in
    let fits = room_for c.args.self.now (length c.args.bytes.now) c.fails_write.result c.fails_write.ensures c.if-fails_write.false in
    let bytes = old.0 ∙ sym (ap (λ s. content c.self.inside.first.items s.calls) kept) in
    (bytes, omega (arith, written, room, old.1, fits, ap (λ d. d.written) c.self.view_is, ap (λ d. d.room) c.self.view_is), omega (arith, written, room, old.2, fits), omega (arith, size, old.3, old.4, below, made, allowed, c.count-then-stops_now.ensures.made), omega (arith, limit, old.4))

pub invariant_of-self-2 : goal.invariant_of-self-2
invariant_of-self-2 c =
    let old = c.self.invariant in
    let kept = c.keep_write-2.ensures in
    let below = allowed_write c.args.self.now (length c.args.bytes.now) c.fails_write.result c.fails_write.ensures c.if-fails_write.false in
    let made = ap (λ d. d.calls.made) c.self.view_is in
    let allowed = ap (λ d. d.allowed) c.self.view_is in
    let size = ap (λ s. length s.calls) kept in
    let written = ap (λ s. s.written) kept in
    let room = ap (λ s. s.room) kept in
    let limit = ap (λ s. s.allowed) kept in
    let fits = room_for c.args.self.now (length c.args.bytes.now) c.fails_write.result c.fails_write.ensures c.if-fails_write.false in
    let seen = old.0 ∙ ap (λ d. seen_of d) c.self.view_is in
    let within = subst (λ b. c.args.at ≤ length b) (sym seen) c.requires in
    let bytes =
    written_within c.self.inside.first.items c.self.inside.log.calls c.args.at c.args.bytes.now c.self.inside.bytes.items _ old.0 within c.in-Ok.ensures.items
    ∙ sym (ap (λ s. content c.self.inside.first.items s.calls) kept) in
    (bytes, omega (arith, written, room, old.1, fits, ap (λ d. d.written) c.self.view_is, ap (λ d. d.room) c.self.view_is), omega (arith, written, room, old.2, fits, c.in-Ok.ensures.capacity, c.in-Ok.ensures.longer), omega (arith, size, old.3, old.4, below, made, allowed, c.count-2.ensures.made), omega (arith, limit, old.4))
