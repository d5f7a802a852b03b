use Rattle.std.proofs.Common.{rules, ◌<◌, ◌∙◌, length, ap, sym, refl, arith}
use Rattle.cs_types.specs.declared.cells.Cell.{Cell}
use Rattle.cs_records.proofs.Cutting.{lengths_apart, columns_all, columns_apart, columns_more}
use Rattle.cs_records.proofs.keys.same_columns.Goals as goal

pub returns-then-a-b : goal.returns-then-a-b
returns-then-a-b c = (λ t. cc, λ e. absurd (lengths_apart c.args.a.now c.args.b.now (λ same. omega (arith, same)) e))

pub returns : goal.returns
returns c = (λ _. columns_all c.args.a.now c.args.b.now c.loop-i.i (omega arith) (omega arith) c.loop-i.invariant, λ _. refl)

pub returns-then-not-is : goal.returns-then-not-is
returns-then-not-is c =
    let at-b : c.loop-i.i < length c.args.b.now = search rules in (
      (λ t. cc),
      λ e. absurd
          (columns_apart c.args.a.now c.args.b.now c.loop-i.i c.index-a-i.result c.index-b-i.result c.index-a-i.is c.index-b-i.is c.loop-i-test.true at-b
          (λ same. let yes = c.is.ensures.equal.1 (same ∙ ap (λ (x : Cell). x.column) c.index-b-i.is) in cc (yes, c.if-not-is.true)) e),
    )

pub loop-i-preserved : goal.loop-i-preserved
loop-i-preserved c =
    let at-b : c.loop-i.i < length c.args.b.now = search rules in
    columns_more c.args.a.now c.args.b.now c.loop-i.i c.index-a-i.result c.index-b-i.result c.index-a-i.is c.index-b-i.is c.loop-i-test.true at-b
    (c.if-not-is.ensures.equal.0 refl ∙ ap (λ (x : Cell). x.column) (sym c.index-b-i.is)) c.loop-i.invariant
