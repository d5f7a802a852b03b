use Rattle.std.proofs.Common.{arith, ◌∙◌, subst}
use Rattle.cs_fetch.specs.Laws.{IsFaithfulResult}
use Rattle.cs_link.specs.Reading.{end_of}
use Rattle.cs_fetch.proofs.Truth.{result_faithful, result_grows, result_well, result_brings, result_reaches, feed_is, if_ok}
use Rattle.cs_fetch.proofs.Turning.{fetched_batch, fetched_breach, fetched_stalled, fetched_refused, fetched_link_fault}
use Rattle.cs_fetch.proofs.making.fetch.Goals as goal

pub returns-clause-batch : goal.returns-clause-batch
returns-clause-batch g c = fetched_batch _ _ _ _ _ _ _ c.make.result c.make.ensures.fetched

pub returns-clause-breach : goal.returns-clause-breach
returns-clause-breach g c = λ breach h. fetched_breach _ _ _ _ _ _ _ c.make.result breach c.make.ensures.fetched h

pub returns-clause-stalled : goal.returns-clause-stalled
returns-clause-stalled g c = λ count h. fetched_stalled _ _ _ _ _ _ _ c.make.result count c.make.ensures.fetched h

pub returns-clause-refused : goal.returns-clause-refused
returns-clause-refused g c = λ refusal h. fetched_refused _ _ _ _ _ _ _ c.make.result refusal c.make.ensures.fetched h

pub returns-clause-link_fault : goal.returns-clause-link_fault
returns-clause-link_fault g c = λ h. fetched_link_fault _ _ _ _ _ _ _ c.make.result c.make.ensures.fetched h

pub returns-clause-honest : goal.returns-clause-honest
returns-clause-honest g c = λ H f s.
    let G = c.make.ensures.stays_honest c.args.args.now.stream H in
    let m = c.make.ensures.fetched in
    let r = result_faithful c.args.args.now _ _ _ _ H G c.args.known.now c.args.limits.now _ c.make.result (omega (arith, c.us-start.ensures.value, c.us-start.ensures.range.1)) c.requires.start
    (λ b h. if_ok c.make.result _ (fetched_batch _ _ _ _ _ _ _ c.make.result m) b h)
    (λ breach h. fetched_breach _ _ _ _ _ _ _ c.make.result breach m h)
    (λ count h. (fetched_stalled _ _ _ _ _ _ _ c.make.result count m h).1) in
    subst (λ z. IsFaithfulResult z (end_of c.args.args.now) c.args.known.now c.make.result) (feed_is G f (c.make.ensures.feed c.args.args.now.stream ∙ s)) r

pub returns-clause-grows : goal.returns-clause-grows
returns-clause-grows g c = result_grows _ _ _ _ _ _ c.make.result (fetched_batch _ _ _ _ _ _ _ c.make.result c.make.ensures.fetched)

pub returns-clause-brings_on : goal.returns-clause-brings_on
returns-clause-brings_on g c = λ H P past.
    let G = c.make.ensures.stays_honest c.args.args.now.stream H in
    result_brings c.args.args.now _ _ _ _ H G _ _ _ c.make.result (fetched_batch _ _ _ _ _ _ _ c.make.result c.make.ensures.fetched) c.requires.start (g.met.K.Link.paced_steps _ (c.make.ensures.stays_paced P)) past

pub returns-clause-well_formed : goal.returns-clause-well_formed
returns-clause-well_formed g c = λ W. result_well _ _ _ _ _ _ c.make.result (fetched_batch _ _ _ _ _ _ _ c.make.result c.make.ensures.fetched) W

pub returns-clause-reaches : goal.returns-clause-reaches
returns-clause-reaches g c = λ H.
    let G = c.make.ensures.stays_honest c.args.args.now.stream H in
    result_reaches c.args.args.now _ _ _ _ H G _ _ _ c.make.result (fetched_batch _ _ _ _ _ _ _ c.make.result c.make.ensures.fetched)
