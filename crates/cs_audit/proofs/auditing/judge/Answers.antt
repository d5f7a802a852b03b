use Rattle.std.proofs.Common.{◌≡◌, ◌++◌, ◌∷◌, ◌+◌, [], suc, length, take, drop, List, IfOk, Result, Ok, Err, true≢false, sym, ap, subst, ◌∙◌, arith}
use Rattle.std.proofs.Math.Seq.{split_at, take-length}
use Rattle.std.proofs.lemmas.List.{take_more, length-take-le}
use Rattle.cs_output.specs.declared.reading.Line.{Line}
use Rattle.cs_audit.specs.Index.{IsKept}
use Rattle.cs_audit.proofs.Ending.{verdict_of, all_stand, all_set}
use Rattle.cs_audit.proofs.auditing.judge.Goals as goal

IfOk-weaken : {T E : Type 0} (r : Result T E) (P Q : T → Type 0) → ((t : T) → P t → Q t) → IfOk r P → IfOk r Q
IfOk-weaken (Ok t) P Q f p = f t p
IfOk-weaken (Err e) P Q f p = tt

pub loop-at-init : goal.loop-at-init
loop-at-init c =
    let kept = c.in_ok-seen.ensures.kept c.in_ok-index.index c.args.end in
    record {
      count = kept.standing.count;
      covered = omega (arith, c.in_ok-seen.ensures.covered);
      kept = kept;
    }

pub returns-in-Some : goal.returns-in-Some
returns-in-Some c =
    let at = c.loop-at.at in
    let line = c.index-lines-at.result in
    let split : c.args.lines.now ≡ take at c.args.lines.now ++ line ∷ drop (suc at) c.args.lines.now = rw (← c.index-lines-at.is) at (split_at c.args.lines.now at line c.loop-at-test.true) in
    let number : at + 1 ≡ length (take at c.args.lines.now) + 1 = omega (arith, length-take-le at c.args.lines.now (omega arith)) in
    let offends = c.in-Some.ensures.next (take at c.args.lines.now) c.loop-at.invariant.kept in
    IfOk-weaken c.told.result _ _ (λ v told. verdict_of c.in-Some.offence c.args.lines.now (take at c.args.lines.now) (drop (suc at) c.args.lines.now) line c.args.wanted.now c.args.end (at + 1) v split number c.loop-at.invariant.kept.right offends told) c.told.ensures

pub loop-at-preserved : goal.loop-at-preserved
loop-at-preserved c =
    let at = c.loop-at.at in
    let line = c.index-lines-at.result in
    let more : take (at + 1) c.args.lines.now ≡ take at c.args.lines.now ++ line ∷ [] =
    take_more c.args.lines.now at line c.loop-at-test.true ∙ ap (λ (x : Line). take at c.args.lines.now ++ x ∷ []) (sym c.index-lines-at.is) in
    record {
      count = c.in_default.ensures.count;
      covered = c.in_default.ensures.covered;
      kept = subst (λ (l : List Line). IsKept c.take.new.self c.in_ok-index.index l c.args.wanted.now c.args.end) (sym more) (c.in_default.ensures.next (take at c.args.lines.now) c.loop-at.invariant.kept);
    }

pub returns-then-not-ends_with : goal.returns-then-not-ends_with
returns-then-not-ends_with c =
    let all : c.loop-at.at ≡ length c.args.lines.now = omega arith in
    let kept = rw (all, take-length) at c.loop-at.invariant.kept in
    (kept.right, (λ done. true≢false (sym (c.ends_with.ensures.1 done.ended) ∙ c.if-not-ends_with.true)), kept.last)

pub returns-then-not-has_all : goal.returns-then-not-has_all
returns-then-not-has_all c =
    let all : c.loop-at.at ≡ length c.args.lines.now = omega arith in
    let kept = rw (all, take-length) at c.loop-at.invariant.kept in
    let set = rw c.deref.ensures.value at c.has_all.ensures.1 in
    (kept.right, (λ done. true≢false (sym (set (all_set c.loop-at.seen.stands.items c.args.lines.now c.args.wanted.now kept.standing done.has)) ∙ c.if-not-has_all.true)), kept.last)

pub returns : goal.returns
returns c =
    let all : c.loop-at.at ≡ length c.args.lines.now = omega arith in
    let kept = rw (all, take-length) at c.loop-at.invariant.kept in
    let set = rw c.deref.ensures.value at c.has_all.ensures.0 in (
      kept.right,
      record {
        has = all_stand c.loop-at.seen.stands.items c.args.lines.now c.args.wanted.now kept.standing (set c.if-not-has_all.false);
        ended = c.ends_with.ensures.0 c.if-not-ends_with.false;
      },
    )
