use Rattle.std.proofs.Common.{arith, sym}
use Rattle.std.proofs.lemmas.Result.{err_from_is_err_and}
use Rattle.cs_ddl.proofs.Loop.{goes_on, is_last, is_last_trailing, fails, runs_out}
use Rattle.cs_ddl.proofs.list.list_behind.Goals as goal

pub returns-in_err-read : goal.returns-in_err-read
returns-in_err-read g c =
    let e = c.in_err-read.field-0.0 in
    let from = err_from_is_err_and c.from_residual.result c.from_residual.ensures.1 in
    rw (from.1, from.2) (fails e g.P.Part.reads c.args.trailing c.loop.items c.left-end.result c.loop.counter c.loop.cursor _ (omega arith) c.in_err-read.ensures c.loop.invariant)

pub returns-then-not-is_sign : goal.returns-then-not-is_sign
returns-then-not-is_sign g c =
    rw c.in_ok-push.ensures.ok (is_last g.P.Part.reads c.args.trailing c.loop.items c.left-end.result c.loop.counter c.loop.cursor c.read.new.cursor c.in_ok-read.field-0 _ (omega arith) c.in_ok-read.ensures (sym c.if-not-is_sign.ensures) c.loop.invariant)

pub loop-preserved : goal.loop-preserved
loop-preserved g c =
    rw (c.in_ok-push.ensures.ok, c.skip.ensures) (goes_on g.P.Part.reads c.args.trailing c.loop.items c.left-end.result c.loop.counter c.loop.cursor c.read.new.cursor c.in_ok-read.field-0 _ (omega arith) c.in_ok-read.ensures (sym c.if-not-is_sign.ensures) (rw c.skip.ensures at (sym c.if-ends_list.ensures)) c.loop.invariant)

pub returns : goal.returns
returns g c = rw c.left.ensures (runs_out g.P.Part.reads c.args.trailing c.loop.items c.left-end.result c.loop.counter c.loop.cursor _ (omega arith) c.loop.invariant)

pub returns-then-ends_list : goal.returns-then-ends_list
returns-then-ends_list g c =
    rw (c.in_ok-push.ensures.ok, c.skip.ensures) (is_last_trailing g.P.Part.reads c.args.trailing c.loop.items c.left-end.result c.loop.counter c.loop.cursor c.read.new.cursor c.in_ok-read.field-0 _ (omega arith) c.in_ok-read.ensures (sym c.if-not-is_sign.ensures) (rw c.skip.ensures at (sym c.if-ends_list.ensures)) c.loop.invariant)
