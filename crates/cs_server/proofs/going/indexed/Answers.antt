use Rattle.std.proofs.Common.{List, subst, arith}
use Rattle.cs_schema.specs.declared.types.Table.{Table}
use Rattle.cs_txn.specs.declared.txn.Modification.{Modification}
use Rattle.cs_index.specs.Index.{IsStreamIndex}
use Rattle.cs_server.proofs.going.indexed.Goals as goal

pub stream_index-requires : goal.stream_index-requires
stream_index-requires c = omega (arith, c.layout_at.ensures.created c.stream_at.result.now c.stream_at.ensures)

pub returns-clause-index : goal.returns-clause-index
returns-clause-index c =
    let s = c.stream_at.result.now in
    let l = c.layout_at.result.now in
    record {
      stream = s;
      layout = l;
      stream_at = c.stream_at.ensures;
      layout_at = c.layout_at.ensures.layout;
      index = subst (λ (ms : List Modification). IsStreamIndex c.args.state.now.tables s l.parts ms c.in_ok-index.index) c.history.ensures.value
          (subst (λ (ts : List Table). IsStreamIndex ts s l.parts c.history.result.now c.in_ok-index.index) c.catalog.ensures.tables c.in_ok-index.ensures);
    }
