use Rattle.std.proofs.Common.{◌≡◌, ◌≤◌, List, get_or, sym, ap, ◌∙◌, arith}
use Rattle.cs_types.specs.declared.names.Window.{Window}
use Rattle.cs_schedule.specs.declared.row.Row.{Row}
use Rattle.cs_schedule.specs.Board.{may_read}
use Rattle.cs_book.specs.Lease.{row_lease}
use Rattle.cs_book.proofs.Claims.{leased_row}
use Rattle.cs_book.proofs.claim.lease_row.Goals as goal

pub lease_of-requires : goal.lease_of-requires
lease_of-requires c =
    let row = c.index-rows-place.result in
    let its = c.requires.within row (c.args.place, c.requires.inside, ap (λ (l : List Row). get_or l c.args.place row) (sym c.rows.ensures.rows) ∙ sym c.index-rows-place.is) in
    let low : row.through ≤ c.args.board.now.window.end = its.end in
    let high : c.us-end.result ≤ 253402300799999999 = c.us-end.ensures.range.1 in
    let same : c.us-end.result ≡ c.args.board.now.window.end = c.us-end.ensures.value ∙ ap (λ (w : Window). w.end) c.window.ensures in
    omega (arith, low, high, same)

pub returns-clause-leased : goal.returns-clause-leased
returns-clause-leased c =
    let b = c.args.board.now in
    let row = c.index-rows-place.result in
    let at : get_or b.rows c.args.place row ≡ row = ap (λ (l : List Row). get_or l c.args.place row) (sym c.rows.ensures.rows) ∙ sym c.index-rows-place.is in
    leased_row c.rows_stay_right.ensures.ready b c.lease.new.self c.args.place row c.in_ok-lease.lease c.rows.ensures.ordered c.rows-rows.ensures.ordered c.requires.inside at (ap (may_read b.rows) (sym at) ∙ c.requires.may row) (c.in_ok-lease.ensures ∙ ap (λ w. row_lease w row) c.window-2.ensures) c.lease.ensures
