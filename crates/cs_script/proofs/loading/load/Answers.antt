use Rattle.std.proofs.Common.{◌≤◌, ◌∙◌, [], IfOk, IfErr, Ok, Err, arith, refl, sym}
use Rattle.cs_script.specs.Script.{most_bytes, Makes, of_script}
use Rattle.cs_script.proofs.Advancing.{short_makes, refused_makes, long_makes}
use Rattle.cs_script.proofs.Doing.{if_ok, if_err}
use Rattle.cs_script.proofs.SourceSteps.{at_end, before_rest, kept_short, given_more, given_none, long_given, given_bytes, IfOk-some, IfErr-some, read_of, read_more}
use Rattle.cs_script.proofs.loading.load.Goals as goal

pub returns-then-count-eq0-clause-made : goal.returns-then-count-eq0-clause-made
returns-then-count-eq0-clause-made g c =
    let small : c.pieces.total ≤ most_bytes = omega (arith, c.pieces-test.true) in
    IfOk-some c.finish.result (g.S.Source.left c.args.source.now) (λ b s. Makes b (Ok s))
    (at_end (g.S.Source.left c.args.source.now) (g.S.Source.left c.pieces.source) (g.S.Source.left c.read_piece.new.source) c.pieces.reader c.pieces.total c.pieces.invariant.given.0 c.read_piece.new.piece.items c.in-Ok.count
    c.pieces.invariant.given.1 small c.in-Ok.ensures.bytes c.if-count-eq0.true (c.in-Ok.ensures.at_end c.if-count-eq0.true)
    (λ b. IfOk c.finish.result (λ s. Makes b (Ok s)))
    (λ all given short. if_ok c.finish.result (λ s h. short_makes all (Ok s) short h) (c.finish.ensures.read all given short)))

pub returns-then-count-eq0-clause-refused : goal.returns-then-count-eq0-clause-refused
returns-then-count-eq0-clause-refused g c =
    let small : c.pieces.total ≤ most_bytes = omega (arith, c.pieces-test.true) in
    IfErr-some c.finish.result (g.S.Source.left c.args.source.now) (λ b e. of_script e → Makes b (Err e))
    (at_end (g.S.Source.left c.args.source.now) (g.S.Source.left c.pieces.source) (g.S.Source.left c.read_piece.new.source) c.pieces.reader c.pieces.total c.pieces.invariant.given.0 c.read_piece.new.piece.items c.in-Ok.count
    c.pieces.invariant.given.1 small c.in-Ok.ensures.bytes c.if-count-eq0.true (c.in-Ok.ensures.at_end c.if-count-eq0.true)
    (λ b. IfErr c.finish.result (λ e. of_script e → Makes b (Err e)))
    (λ all given short. if_err c.finish.result _ _ (λ e h told. short_makes all (Err e) short (h told)) (c.finish.ensures.refused all given short)))

pub returns-then-count-eq0-clause-read : goal.returns-then-count-eq0-clause-read
returns-then-count-eq0-clause-read g c =
    let small : c.pieces.total ≤ most_bytes = omega (arith, c.pieces-test.true) in
    read_more (g.S.Source.left c.args.source.now) (g.S.Source.left c.pieces.source) (g.S.Source.left c.read_piece.new.source) c.pieces.reader c.pieces.total c.pieces.invariant.given.0 c.read_piece.new.piece.items c.in-Ok.count
    c.pieces.invariant.given.1 c.in-Ok.ensures.bytes (omega (arith, small, c.in-Ok.ensures.within))

pub returns-then-count-eq0-clause-object : goal.returns-then-count-eq0-clause-object
returns-then-count-eq0-clause-object g c = g.met.S.Source.same_then _ _ _ c.pieces.invariant.object c.in-Ok.ensures.object

pub returns-in-Err-clause-refused : goal.returns-in-Err-clause-refused
returns-in-Err-clause-refused g c =
    let small : c.pieces.total ≤ most_bytes = omega (arith, c.pieces-test.true) in
    let given = given_bytes (g.S.Source.left c.args.source.now) (g.S.Source.left c.pieces.source) (g.S.Source.left c.read_piece.new.source) c.pieces.reader c.pieces.total c.pieces.invariant.given.0 c.read_piece.new.piece.items c.in-Ok.count c.pieces.invariant.given.1 small c.in-Ok.ensures.bytes in
    let short = kept_short (g.S.Source.left c.args.source.now) (g.S.Source.left c.pieces.source) (g.S.Source.left c.read_piece.new.source) c.pieces.reader c.pieces.total c.pieces.invariant.given.0 c.read_piece.new.piece.items c.in-Ok.count
    c.pieces.invariant.given.1 small c.in-Ok.ensures.bytes c.min-kept.result c.min-kept.ensures c.in-Ok.ensures.bound in
    before_rest (g.S.Source.left c.args.source.now) (g.S.Source.left c.pieces.source) (g.S.Source.left c.read_piece.new.source) c.pieces.reader c.pieces.total c.pieces.invariant.given.0 c.read_piece.new.piece.items c.in-Ok.count
    c.pieces.invariant.given.1 small c.in-Ok.ensures.bytes c.min-kept.result c.min-kept.ensures c.in-Ok.ensures.bound (λ b. of_script c.in-Err.fault → Makes b (Err c.in-Err.fault))
    (λ rest told. refused_makes _ rest c.in-Err.fault short
    (λ more. rw (sym c.deref.ensures.value) (c.in-Err.ensures.refused c.pieces.invariant.given.0 more given (rw c.deref.ensures.value short))) told)

pub returns-in-Err-clause-read : goal.returns-in-Err-clause-read
returns-in-Err-clause-read g c =
    let small : c.pieces.total ≤ most_bytes = omega (arith, c.pieces-test.true) in
    read_more (g.S.Source.left c.args.source.now) (g.S.Source.left c.pieces.source) (g.S.Source.left c.read_piece.new.source) c.pieces.reader c.pieces.total c.pieces.invariant.given.0 c.read_piece.new.piece.items c.in-Ok.count
    c.pieces.invariant.given.1 c.in-Ok.ensures.bytes (omega (arith, small, c.in-Ok.ensures.within))

pub pieces-init : goal.pieces-init
pieces-init g c =
    record {
      given = ([], given_none (g.S.Source.left c.args.source.now) c.new-reader.result c.new-reader.ensures);
      object = g.met.S.Source.same_now _;
      calm = refl;
      room = omega (arith, c.in_ok-piece.ensures);
      total = omega arith;
    }

pub pieces-preserved : goal.pieces-preserved
pieces-preserved g c =
    let small : c.pieces.total ≤ most_bytes = omega (arith, c.pieces-test.true) in
    let given = given_bytes (g.S.Source.left c.args.source.now) (g.S.Source.left c.pieces.source) (g.S.Source.left c.read_piece.new.source) c.pieces.reader c.pieces.total c.pieces.invariant.given.0 c.read_piece.new.piece.items c.in-Ok.count c.pieces.invariant.given.1 small c.in-Ok.ensures.bytes in
    let short = kept_short (g.S.Source.left c.args.source.now) (g.S.Source.left c.pieces.source) (g.S.Source.left c.read_piece.new.source) c.pieces.reader c.pieces.total c.pieces.invariant.given.0 c.read_piece.new.piece.items c.in-Ok.count
    c.pieces.invariant.given.1 small c.in-Ok.ensures.bytes c.min-kept.result c.min-kept.ensures c.in-Ok.ensures.bound in
    record {
      given = (
        _,
        given_more (g.S.Source.left c.args.source.now) (g.S.Source.left c.pieces.source) (g.S.Source.left c.read_piece.new.source) c.pieces.reader c.pieces.total c.pieces.invariant.given.0 c.read_piece.new.piece.items c.in-Ok.count
            c.pieces.invariant.given.1 small c.in-Ok.ensures.bytes c.min-kept.result c.min-kept.ensures c.in-Ok.ensures.bound c.take_piece.new.self
            (rw (sym c.deref.ensures.value) (c.in-Ok-take_piece.ensures.given c.pieces.invariant.given.0 given (rw c.deref.ensures.value short))),
      );
      object = g.met.S.Source.same_then _ _ _ c.pieces.invariant.object c.in-Ok.ensures.object;
      calm = c.in-Ok.ensures.cause.kept ∙ c.pieces.invariant.calm;
      room = c.in-Ok.ensures.filled;
      total = omega (arith, c.in-Ok.ensures.within, small);
    }

pub returns-clause-refused : goal.returns-clause-refused
returns-clause-refused g c =
    long_given (g.S.Source.left c.args.source.now) (g.S.Source.left c.pieces.source) c.pieces.reader c.pieces.total c.pieces.invariant.given.0 c.pieces.invariant.given.1 (omega (arith, c.pieces-test.false)) _
    (λ given rest has full more told. long_makes c.pieces.reader given rest has full more)

pub returns-clause-read : goal.returns-clause-read
returns-clause-read g c =
    read_of (g.S.Source.left c.args.source.now) (g.S.Source.left c.pieces.source) c.pieces.invariant.given.0 c.pieces.invariant.given.1.taken (omega (arith, c.pieces.invariant.given.1.count, c.pieces.invariant.total))

pub returns-in_default-clause-read : goal.returns-in_default-clause-read
returns-in_default-clause-read g c =
    read_more (g.S.Source.left c.args.source.now) (g.S.Source.left c.pieces.source) (g.S.Source.left c.read_piece.new.source) c.pieces.reader c.pieces.total c.pieces.invariant.given.0 [] 0
    c.pieces.invariant.given.1 c.in_default.ensures.kept (omega (arith, c.pieces.invariant.total))

pub returns-in-Err-clause-object : goal.returns-in-Err-clause-object
returns-in-Err-clause-object g c = g.met.S.Source.same_then _ _ _ c.pieces.invariant.object c.in-Ok.ensures.object
