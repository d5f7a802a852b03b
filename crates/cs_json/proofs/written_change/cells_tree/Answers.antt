use Rattle.std.proofs.Common.{◌≡◌, length, ◌∙◌, arith}
use Rattle.std.proofs.Math.Seq.{take-length}
use Rattle.serde_json.proofs.Views.{view-Object}
use Rattle.cs_json.proofs.Put.{members_more}
use Rattle.cs_json.proofs.written_change.cells_tree.Goals as goal

pub loop-cell-preserved : goal.loop-cell-preserved
loop-cell-preserved c =
    members_more c.items-cell-items.result.now c.loop-cell.cell-index c.cell-item.result c.loop-cell.members.entries c.insert.new.self.entries c.in_ok-column.column c.in_ok-to_tree.field-0
    (rw c.items-cell-items.ensures.cells c.items-cell-items.ensures.rising) c.loop-cell-test.true c.cell-item.is c.loop-cell.invariant c.in_ok-insert.ensures.entries
    (c.in_ok-column.ensures.ok ∙ c.as_str.ensures) c.in_ok-to_tree.ensures.written

pub returns-clause-value : goal.returns-clause-value
returns-clause-value c =
    let all : c.loop-cell.cell-index ≡ length c.items-cell-items.result.now = omega arith in
    rw (view-Object c.loop-cell.members, c.loop-cell.invariant, all, take-length, c.items-cell-items.ensures.cells)
