use Rattle.std.proofs.Common.{◌≡◌, ◌∙◌, ◌+◌, ap, sym, length, to_z, of_z, to_z-of_z, w64}
use Rattle.std.specs.Fmt.{signed_decimal}
use Rattle.cs_txn.proofs.Counted.{quoted_length}
use Rattle.cs_txn.proofs.lengths.number_size.Goals as goal

pub returns : goal.returns
returns c =
    let back : to_z w64 (of_z w64 c.args.number) ≡ c.args.number = to_z-of_z c.ranges.number in
    c.in_ok-size.ensures ∙ ap (λ n. n + 2) (c.integer_length.ensures ∙ ap (λ z. length (signed_decimal z)) back) ∙ sym (quoted_length c.args.number c.ranges.number)
