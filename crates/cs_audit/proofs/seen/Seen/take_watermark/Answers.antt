use Rattle.std.proofs.Common.{◌≤◌, true≢false, sym, subst, ◌∙◌, arith, inl, inr}
use Rattle.cs_output.specs.declared.reading.Line.TheVariants.{Watermark}
use Rattle.cs_audit.specs.Audit.{IsAbove}
use Rattle.cs_audit.specs.Index.{AreCovered, NoneIsAbsent, IsFirstAbsent}
use Rattle.cs_audit.proofs.Standing.{standing_watermark, last_of_watermark, up_to_from_flags, missing_from_flags}
use Rattle.cs_audit.proofs.Next.{no_offence_more}
use Rattle.cs_audit.proofs.seen.Seen.take_watermark.Goals as goal

pub returns-in-Some-clause-next : goal.returns-in-Some-clause-next
returns-in-Some-clause-next c = λ before kept.
    let more = rw (c.deref.ensures.value, c.deref-2.ensures.value) at c.cover-self.ensures.covered in
    let answer = rw (c.deref-3.ensures.value, c.deref-4.ensures.value) at c.in-Some.ensures in
    let first : IsFirstAbsent c.args.self.now.stands.items c.args.wanted.now c.args.at c.in-Some.place = answer (more kept.covered) in
    (first.within, λ d. missing_from_flags c.args.self.now.stands.items before c.args.wanted.now c.args.at c.in-Some.place d kept.standing first)

pub returns-then-not-is_above-clause-next : goal.returns-then-not-is_above-clause-next
returns-then-not-is_above-clause-next c = λ before kept.
    let more = rw (c.deref.ensures.value, c.deref-2.ensures.value) at c.cover-self.ensures.covered in
    let answer = rw (c.deref-3.ensures.value, c.deref-4.ensures.value) at c.in_default.ensures in
    let none : NoneIsAbsent c.args.self.now.stands.items c.args.wanted.now c.args.at = answer (more kept.covered) in (
      up_to_from_flags c.args.self.now.stands.items before c.args.wanted.now c.args.at kept.standing none,
      inl (λ above. true≢false (sym (c.is_above.ensures.1 (subst (IsAbove c.args.at) (sym kept.last) above)) ∙ c.if-not-is_above.true)),
    )

pub returns-then-us-clause-next : goal.returns-then-us-clause-next
returns-then-us-clause-next c = λ before kept.
    let more = rw (c.deref.ensures.value, c.deref-2.ensures.value) at c.cover-self.ensures.covered in
    let answer = rw (c.deref-3.ensures.value, c.deref-4.ensures.value) at c.in_default.ensures in
    let none : NoneIsAbsent c.args.self.now.stands.items c.args.wanted.now c.args.at = answer (more kept.covered) in
    (up_to_from_flags c.args.self.now.stands.items before c.args.wanted.now c.args.at kept.standing none, inr (omega arith))

pub returns-clause-next : goal.returns-clause-next
returns-clause-next c = λ before kept.
    let more = rw (c.deref.ensures.value, c.deref-2.ensures.value) at c.cover-self.ensures.covered in
    let answer = rw (c.deref-3.ensures.value, c.deref-4.ensures.value) at c.in_default.ensures in
    let covered : AreCovered c.args.self.now.stands.items c.args.index.now.by_stamp.items c.cover-self.result = more kept.covered in
    let none : NoneIsAbsent c.args.self.now.stands.items c.args.wanted.now c.args.at = answer covered in
    let le : c.args.at ≤ c.args.end = omega arith in
    record {
      right = no_offence_more before (Watermark c.args.at) c.args.wanted.now c.args.end kept.right (record {
        has = up_to_from_flags c.args.self.now.stands.items before c.args.wanted.now c.args.at kept.standing none;
        above = subst (IsAbove c.args.at) kept.last (c.is_above.ensures.0 c.if-not-is_above.false);
        up_to_end = le;
      });
      standing = standing_watermark c.args.self.now.stands.items before c.args.wanted.now c.args.at kept.standing;
      covered = covered;
      last = sym (last_of_watermark before c.args.at);
    }
