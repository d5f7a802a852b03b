use Rattle.std.proofs.Common.{◌≡◌, Some, None, sym, ap, ◌∙◌}
use Rattle.std.specs.Option.{option_map}
use Rattle.cs_book.specs.Claim.{is_leased}
use Rattle.cs_book.specs.Waiting.{first_unfinished, first_missing, AreFree}
use Rattle.cs_book.proofs.Claims.{none_leased, none_waits, never_idle}
use Rattle.cs_book.proofs.claim.stuck.Goals as goal

pub unreachable-requires : goal.unreachable-requires
unreachable-requires c =
    let rows = c.args.board.now.rows in
    let free : AreFree rows = none_leased rows (ap is_leased (sym c.rows.ensures.rows) ∙ sym c.if-is_leased.ensures) in
    let waits : first_unfinished rows ≡ Some c.in-Some.row.now = ap first_unfinished (sym c.rows-2.ensures.rows) ∙ sym c.first_unfinished.ensures ∙ ap (option_map (λ r. r.now)) c.in-Some.is in
    let none : first_missing rows c.in-Some.row.now.parents ≡ None = ap (first_missing rows) (sym c.as_slice.ensures) ∙ sym c.first_missing.ensures ∙ ap (option_map (λ t. t.now)) c.in_default-first_missing.is in
    never_idle rows c.in-Some.row.now c.requires free waits none

pub returns-in_default : goal.returns-in_default
returns-in_default c =
    let rows = c.args.board.now.rows in
    none_waits rows (ap first_unfinished (sym c.rows-2.ensures.rows) ∙ sym c.first_unfinished.ensures ∙ ap (option_map (λ r. r.now)) c.in_default.is)
