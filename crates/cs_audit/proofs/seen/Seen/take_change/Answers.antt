use Rattle.std.proofs.Common.{◌<◌, length, get_or, true≢false, sym, ◌∙◌, arith}
use Rattle.std.proofs.lemmas.List.Elements.{Contains-get_or}
use Rattle.cs_types.specs.declared.change.Change.{Change}
use Rattle.cs_output.specs.declared.reading.Line.TheVariants.{Change as Told}
use Rattle.cs_audit.proofs.Standing.{element, standing_change, covered_more, last_of_change}
use Rattle.cs_audit.proofs.Next.{next_from_flags, flags_from_next, no_offence_more}
use Rattle.cs_audit.proofs.seen.Seen.take_change.Goals as goal

pub returns-then-not-is_next-clause-next : goal.returns-then-not-is_next-clause-next
returns-then-not-is_next-clause-next c = λ before end kept.
    let w = c.args.wanted.now in
    let place = c.in-Some.place in
    let found = c.requires.index.places.only c.args.text.now place (sym c.in-Some.ensures) in
    let d : Change = element w place found.0 in
    let free_is_next = rw c.deref.ensures.value at c.is_next.ensures.1 in (
      get_or w place d,
      Contains-get_or w place d found.0,
      found.1 d,
      λ next. true≢false (sym (free_is_next (flags_from_next c.args.self.now.stands.items before w place d _ c.requires.apart kept.standing found.0 (c.requires.index.previous.each place d found.0) next)) ∙ c.if-not-is_next.true),
    )

pub returns-clause-next : goal.returns-clause-next
returns-clause-next c = λ before end kept.
    let w = c.args.wanted.now in
    let place = c.in-Some.place in
    let stands = c.args.self.now.stands.items in
    let found = c.requires.index.places.only c.args.text.now place (sym c.in-Some.ensures) in
    let d : Change = element w place found.0 in
    let is_free = rw c.deref.ensures.value at c.is_next.ensures.0 in
    let next = next_from_flags stands before w end place d _ kept.right c.requires.apart kept.standing found.0 (c.requires.index.previous.each place d found.0) (is_free c.if-not-is_next.false) in
    let within : place < length stands = omega (arith, found.0, c.requires.count) in
    record {
      right = no_offence_more before (Told c.args.text.now) w end kept.right (get_or w place d, found.1 d, next);
      standing = standing_change stands before w place c.args.text.now c.requires.apart found.0 found.1 kept.standing;
      covered = covered_more stands c.args.index.now.by_stamp.items c.args.self.now.covered place within kept.covered;
      last = kept.last ∙ sym (last_of_change before c.args.text.now);
    }
