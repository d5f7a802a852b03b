use Rattle.std.proofs.Common.{◌≡◌, ℕ, ◌+◌, ◌-◌, length, get_or, set, sym, ap, ◌∙◌, arith}
use Rattle.std.proofs.lemmas.List.{get_or_default}
use Rattle.cs_steps.specs.declared.places.RecordPlace.{RecordPlace}
use Rattle.cs_index.proofs.Finishing.{last_count_at, one_more_at}
use Rattle.cs_index.proofs.line.one_more.Goals as goal

pub overflow_add-records : goal.overflow_add-records
overflow_add-records c =
    let e = last_count_at c.args.records.now c.index-records-count.result (omega arith) in
    omega (arith, e, c.requires)

pub returns : goal.returns
returns c =
    let n : ℕ = length c.args.records.now - 1 in
    let r : RecordPlace = get_or c.args.records.now n c.index-records-count-2.result in
    let e : get_or c.args.records.now n c.index-records-count.result ≡ r = get_or_default c.args.records.now n c.index-records-count.result c.index-records-count-2.result (omega arith) in
    ap (λ (x : RecordPlace). set c.args.records.now n (record { stamp = r.stamp; first = r.first; count = x.count + 1; sequence = r.sequence; is_last = r.is_last; records_in_tx = r.records_in_tx; parts_in_tx = r.parts_in_tx })) e
    ∙ sym (one_more_at c.args.records.now c.index-records-count-2.result (omega arith))
