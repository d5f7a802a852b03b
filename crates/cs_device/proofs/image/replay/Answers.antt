use Rattle.std.proofs.Common.{List, take, arith, sym, ◌∙◌, ap}
use Rattle.cs_device.specs.Past.{content, DiskCall}
use Rattle.cs_device.specs.Log.{past_of}
use Rattle.cs_device.proofs.Logs.{past_step, bytes_step, bytes_left, some_call}
use Rattle.cs_device.proofs.image.replay.Goals as goal

pub calls-preserved : goal.calls-preserved
calls-preserved c =
    let log = c.args.log.now in
    let i = c.calls.logged-index in
    let inv = c.calls.invariant in
    let step = bytes_step log i some_call c.calls-test.true in
    let left = bytes_left log i some_call c.calls-test.true in
    record {
      from = omega (arith, inv.from, step, c.count-from.ensures);
      fits = omega (arith, inv.fits, left, c.count-from.ensures);
      held = c.in_ok-redo.ensures c.args.held.now.items (past_of (take i log) c.args.written.now) inv.held
          ∙ sym (ap (λ (p : List DiskCall). content c.args.held.now.items p) (past_step log i c.calls.from some_call c.args.written.now c.calls-test.true inv.from));
    }
