use Rattle.std.proofs.Common.{arith, ◌≡◌, ◌∙◌, ◌+◌, ◌-◌}
use Rattle.cs_txn.specs.Lengths.{cells_length, hidden_length}
use Rattle.cs_txn.proofs.RowLengths.{row_length, size_from}
use Rattle.cs_txn.proofs.lengths.row_size.Goals as goal

pub overflow_sub-all : goal.overflow_sub-all
overflow_sub-all c =
    let w = row_length c.args.key.now c.args.cells.now c.requires.rising c.in_ok-others.ensures.rising in
    omega (arith, w, c.requires.names, c.in_ok-others.ensures.sum, c.in_ok-all.ensures, c.in_ok-hidden.ensures)

pub returns-clause-size : goal.returns-clause-size
returns-clause-size c =
    let w = row_length c.args.key.now c.args.cells.now c.requires.rising c.in_ok-others.ensures.rising in
    let e : (c.in_ok-all.all - c.in_ok-hidden.hidden) + hidden_length c.args.key.now c.args.cells.now ≡ cells_length c.args.cells.now + cells_length c.args.key.now =
    omega (arith, w, c.requires.names, c.in_ok-others.ensures.sum, c.in_ok-all.ensures, c.in_ok-hidden.ensures) in
    c.in_ok-size.ensures ∙ size_from c.args.key.now c.args.cells.now (c.in_ok-all.all - c.in_ok-hidden.hidden) c.requires.rising c.in_ok-others.ensures.rising e
