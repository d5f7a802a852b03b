use Rattle.std.proofs.Common.{◌<◌, ◌∙◌, length, ap, arith}
use Rattle.cs_txn.specs.History.{last_stamp}
use Rattle.cs_script.proofs.Counting.{stamp_at_end}
use Rattle.cs_script.proofs.line.last_commit.Goals as goal

pub returns-in-len1-up : goal.returns-in-len1-up
returns-in-len1-up c =
    let some : 0 < length c.modifications.result.now = omega (arith, c.in-len1-up.len_at_least) in
    c.us.ensures.value ∙ ap (λ m. m.stamp) c.last-item.is ∙ stamp_at_end 0 c.modifications.result.now c.last-item.result some
    ∙ ap last_stamp (c.modifications.ensures.value ∙ c.history.ensures.value)
