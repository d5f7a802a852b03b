use Rattle.std.proofs.Common.{◌≡◌, ◌+◌, ◌++◌, ◌∷◌, ℕ, refl, get_or, List, take, drop, arith, sym, ◌∙◌, ap, subst}
use Rattle.std.proofs.lemmas.List.{drop-drop}
use Rattle.cs_device.specs.Past.{MayLeave, DiskCall}
use Rattle.cs_device.specs.Log.{past_of, bytes_in, call_at}
use Rattle.cs_device.proofs.Logs.{past_step, bytes_step, bytes_left, no_sync_next, some_call}
use Rattle.cs_device.proofs.image.pick.Goals as goal

pub calls-preserved : goal.calls-preserved
calls-preserved c =
    let log = c.args.log.now in
    let i = c.calls.logged-index in
    let inv = c.calls.invariant in
    let bytes = drop c.args.from c.args.written.now in
    let so_far = past_of (take i log) bytes in
    let within = c.calls-test.true in
    let place : drop (bytes_in (take i log)) bytes ≡ drop c.calls.from c.args.written.now =
    drop-drop (bytes_in (take i log)) c.args.from c.args.written.now ∙ ap (λ n. drop n c.args.written.now) (sym inv.from) in
    let step : past_of (take (i + 1) log) bytes ≡ call_at (get_or log i some_call) (drop c.calls.from c.args.written.now) ∷ so_far =
    past_step log i (bytes_in (take i log)) some_call bytes within refl ∙ ap (λ (b : List ℕ). call_at (get_or log i some_call) b ∷ so_far) place in
    record {
      from = omega (arith, inv.from, bytes_step log i some_call within, c.count-from.ensures);
      fits = omega (arith, inv.fits, bytes_left log i some_call within, c.count-from.ensures);
      no_sync = (no_sync_next log i some_call within inv.no_sync).1;
      held = λ first past may. subst (λ (p : List DiskCall). MayLeave first (p ++ past) c.redo_part.new.held.items) (sym step) (c.in_ok-redo_part.ensures first (so_far ++ past) (inv.held first past may));
    }
