use Rattle.std.proofs.Common.{refl, arith, rules}
use Rattle.cs_audit.proofs.Standing.{nothing_standing}
use Rattle.cs_audit.proofs.Next.{nothing_offends}
use Rattle.cs_audit.proofs.seen.nothing_seen.Goals as goal

pub returns-clause-kept : goal.returns-clause-kept
returns-clause-kept c = λ index end. record {
  right = nothing_offends c.args.wanted.now end;
  standing = nothing_standing c.in_ok-vec.field-0.items c.args.wanted.now (c.in_ok-vec.ensures.items_if_clones_equal (λ y same. search rules));
  covered = λ k d lt. absurd (omega arith);
  last = refl;
}
