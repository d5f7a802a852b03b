use Rattle.std.proofs.Common.{◌<◌, ◌∙◌, ap, sym, subst, refl, arith, cond, not, Bool}
use Rattle.std.specs.Prelude.{Ok, Err}
use Rattle.std.proofs.lemmas.Result.{err_from_is_err_and}
use Rattle.cs_link.specs.Causes.{one_more, Rose}
use Rattle.cs_fetch.specs.Turn.{IsTurn}
use Rattle.cs_fetch.proofs.Looping.{kept_none}
use Rattle.cs_fetch.specs.Made.{HasAsked}
use Rattle.cs_fetch.proofs.Turning.{asked_open, fetched_next, goes_on, kept_turn, made_turn, fetched_turn, few_next}
use Rattle.cs_fetch.proofs.making.make.Goals as goal

pub steps-init : goal.steps-init
steps-init g c = record {
  kept = kept_none c.args.args.now c.args.known.now c.args.limits.now _ _ _ _ (Ok c.in_ok-open.field-0) c.in_ok-open.field-0 _ _ c.open.ensures.moment c.in_ok-open.ensures.present refl c.requires.records.0 c.requires.bytes c.new-so_far.ensures c.none-tally.ensures;
  reads = asked_open _ _ c.args.args.now (Ok c.in_ok-open.field-0) c.in_ok-open.field-0 c.in_ok-open.ensures.reads refl;
  reading = c.in_ok-open.ensures.reading;
  faults = c.in_ok-open.ensures.cause.kept (λ h. cc);
  caught_up = c.open.ensures.caught_up;
  moment = c.open.ensures.moment;
  feed = c.open.ensures.feed;
  object = c.open.ensures.object;
  honest = c.open.ensures.honest;
  paced = c.open.ensures.paced;
}

pub steps-preserved : goal.steps-preserved
steps-preserved g c =
    let t = subst (λ z. IsTurn c.args.args.now c.args.known.now c.args.limits.now c.steps.so_far c.turn.new.self c.steps.tally c.in_ok-step.step (Ok z)) c.in-On.is c.in_ok-batch.ensures in
    let on = goes_on c.args.args.now c.args.known.now c.args.limits.now c.steps.so_far c.turn.new.self c.steps.tally c.in-On.counted c.in_ok-step.step t in
    record {
      kept = kept_turn c.args.args.now c.args.known.now c.args.limits.now _ _ _ _ c.steps.so_far c.steps.tally c.steps.counter c.steps.invariant.kept c.turn.new.self c.in-On.counted c.in_ok-step.step c.requires.records.1 c.in_ok-step.ensures.present t;
      reads = subst (λ z. HasAsked (g.K.Link.reads c.args.link.now) z c.args.args.now) (sym c.in_ok-step.ensures.reads) c.steps.invariant.reads;
      reading = c.in_ok-step.ensures.reading ∙ ap not on.0;
      faults = c.in_ok-step.ensures.cause.kept (λ h. cc) ∙ c.steps.invariant.faults;
      caught_up = c.in_ok-step.ensures.caught_up ∙ ap (λ (b : Bool). cond b (one_more (g.K.Link.caught_up c.steps.link)) (g.K.Link.caught_up c.steps.link)) on.1 ∙ c.steps.invariant.caught_up;
      moment = omega (arith, c.steps.invariant.moment, c.next.ensures.moment);
      feed = λ stream. c.next.ensures.feed stream ∙ c.steps.invariant.feed stream;
      object = g.met.K.Link.same_then _ _ _ c.steps.invariant.object c.next.ensures.object;
      honest = λ stream h. c.next.ensures.honest stream (c.steps.invariant.honest stream h);
      paced = λ p. c.next.ensures.paced (c.steps.invariant.paced p);
    }

pub returns-in_err-batch-clause-fetched : goal.returns-in_err-batch-clause-fetched
returns-in_err-batch-clause-fetched g c =
    let from = err_from_is_err_and c.from_residual-in_err-batch.result c.from_residual-in_err-batch.ensures.1 in
    rw (from.1, from.2) (fetched_turn c.args.args.now c.args.known.now c.args.limits.now _ _ _ _ c.steps.so_far c.steps.tally c.steps.counter c.steps.invariant.kept c.turn.new.self _ c.in_err-batch.field-0.0 c.in_ok-step.step c.in_ok-step.ensures.present c.in_err-batch.ensures)

pub returns-in_err-batch-clause-calls : goal.returns-in_err-batch-clause-calls
returns-in_err-batch-clause-calls g c = few_next c.args.args.now c.args.known.now c.args.limits.now _ _ _ _ c.steps.so_far c.steps.tally c.steps.counter _ c.steps.invariant.kept (Ok c.in_ok-step.step) c.in_ok-step.ensures.present (subst (λ n. c.steps.counter < n) c.most_calls-end.ensures c.steps-test.true)

pub returns-in-Gives-clause-fetched : goal.returns-in-Gives-clause-fetched
returns-in-Gives-clause-fetched g c =
    made_turn c.args.args.now c.args.known.now c.args.limits.now _ _ _ _ c.steps.so_far c.steps.tally c.steps.counter c.steps.invariant.kept c.turn.new.self c.in-Gives.batch c.in_ok-step.step c.in_ok-step.ensures.present
    (subst (λ z. IsTurn c.args.args.now c.args.known.now c.args.limits.now c.steps.so_far c.turn.new.self c.steps.tally c.in_ok-step.step (Ok z)) c.in-Gives.is c.in_ok-batch.ensures)

pub returns-in-Gives-clause-calls : goal.returns-in-Gives-clause-calls
returns-in-Gives-clause-calls g c = few_next c.args.args.now c.args.known.now c.args.limits.now _ _ _ _ c.steps.so_far c.steps.tally c.steps.counter _ c.steps.invariant.kept (Ok c.in_ok-step.step) c.in_ok-step.ensures.present (subst (λ n. c.steps.counter < n) c.most_calls-end.ensures c.steps-test.true)

pub returns-in_err-step-clause-fetched : goal.returns-in_err-step-clause-fetched
returns-in_err-step-clause-fetched g c =
    let from = err_from_is_err_and c.from_residual-in_err-step.result c.from_residual-in_err-step.ensures.1 in
    rw (from.1, from.2)
    (fetched_next c.args.args.now c.args.known.now c.args.limits.now _ _ _ _ c.steps.so_far c.steps.tally c.steps.counter c.steps.invariant.kept _ c.in_err-step.field-0.0 c.in_err-step.ensures.present c.in_err-step.ensures.answer
    (λ h. subst (λ n. Rose n (g.K.Link.faults c.next.new.self)) c.steps.invariant.faults (c.in_err-step.ensures.cause.failed (ap Err h))))
